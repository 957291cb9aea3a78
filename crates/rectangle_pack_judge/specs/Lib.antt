pub mod Judging
pub mod private
