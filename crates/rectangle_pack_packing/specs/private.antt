-- Definitions that only the clauses of functions below `rectangle_pack` use, or of its private ones.
pub mod Bounds
pub mod Cells
pub mod Excluded
pub mod Orders
pub mod SummaryTrees
pub mod BinsAtWork
pub mod PassedOver
pub mod OnItsWay
pub mod Ends
pub mod Choices
pub mod ToldOnItsWay
