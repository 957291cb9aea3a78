-- Cutting plans. Read Filling, Split and OpenPlanes first: an open plane splits what is from cuts, and there is one. The main lemmas are in FirstPlanes: a plan
-- is a tree, and there is one. FirstOpen, Ends and Strips are for the search, Pending for the loop.
pub mod Split
pub mod OpenPlanes
pub mod Filling
pub mod FirstPlanes
pub mod FirstOpen
pub mod Ends
pub mod Strips
pub mod Pending
pub mod Left
pub mod Orders
pub mod Peel
pub mod Pinwheel
