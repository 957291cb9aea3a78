pub mod Numbers
pub mod Steps
pub mod Trials
pub mod Joining
pub mod private
