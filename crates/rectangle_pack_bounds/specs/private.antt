-- Definitions that only the clauses of private functions use.
pub mod Ways
pub mod Tried
pub mod Rates
