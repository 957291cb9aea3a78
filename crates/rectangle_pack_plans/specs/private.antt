-- Definitions that only the clauses of functions below `rectangle_pack` use, or of its private ones.
pub mod CutPlans
pub mod CuttingAnew
pub mod Pending
