-- Lemmas by subject, each subject after those that it stands on.
pub mod cut_plan
pub mod cut_anew
