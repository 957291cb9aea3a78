-- Lemmas by subject, each subject after those that it stands on.
pub mod util
pub mod cuts
pub mod groups
