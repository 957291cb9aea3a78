-- Packings; what fits of a collection (Taken, FirstLeft, Left, LeftBoxes, FittingLaws); packings as they are told (StepsDone, Told, Telling, ToldLaws).
-- Read Orders and Groups first; Turns has one turn of each loop of a packing. Frame carries whatever each step keeps through a packing, and is
-- the main lemma. Whole and Refused say what is promised of groups, FitTests bounds the tests, InOrder joins these; Laws has the laws. PassedOver says
-- that bins that are passed over do not take a group, Ends what a packing answers,
-- StepsMade what steps come to as they are told.
pub mod Orders
pub mod Placed
pub mod Excluded
pub mod Groups
pub mod Turns
pub mod FitTests
pub mod InOrder
pub mod Frame
pub mod KeepsCells
pub mod KeepsCuts
pub mod Whole
pub mod Taken
pub mod FirstLeft
pub mod Refused
pub mod Left
pub mod LeftBoxes
pub mod StepsDone
pub mod Told
pub mod Telling
pub mod Laws
pub mod FittingLaws
pub mod ToldLaws
pub mod PassedOver
pub mod Ends
pub mod StepsMade
