pub mod DualFeasible
pub mod Turning
pub mod Arrangements
pub mod Ratings
pub mod Bounds
pub mod private
