-- Definitions that only the clauses of private functions use.
pub mod Pushed
pub mod Saved
pub mod Short
pub mod Written
