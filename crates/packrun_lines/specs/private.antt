-- Definitions that only the clauses of functions use that no user can call.
pub mod Calls
pub mod Commands
pub mod Names
pub mod Obeying
pub mod Printing
pub mod Reading
pub mod Verbs
