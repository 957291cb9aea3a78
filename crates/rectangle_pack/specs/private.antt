-- Definitions that only the clauses of private functions use.
pub mod Records
pub mod Releasing
pub mod BestPlaces
pub mod Fitting
pub mod Searched
pub mod Restoring
