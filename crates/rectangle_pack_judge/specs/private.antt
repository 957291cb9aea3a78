-- Definitions that only the clauses of private functions use.
pub mod Apart
pub mod Firsts
pub mod Numbers
