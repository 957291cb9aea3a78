-- Steps and trials. Read Steps first: what a step keeps, and the main lemma, what a trial keeps. StepsByIndex and PlaceSteps
-- tie the plain list and the list with gaps to it, Plain is on its places, Notes is on undoing; GapBits, Places and
-- Summaries are for the search, FallingRates for the order of the pieces. FitTests bounds the tests of a trial.
pub mod FallingRates
pub mod Steps
pub mod StepsByIndex
pub mod FitTests
pub mod Notes
pub mod Plain
pub mod GapBits
pub mod Places
pub mod Rooms
pub mod PlaceSteps
pub mod Summaries
