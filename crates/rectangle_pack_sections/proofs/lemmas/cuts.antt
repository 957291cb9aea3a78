-- Boxes, cells and straight cuts. Read Boxes, Axes and Counting, then Pieces: the pieces of a cut tile their section. Then Parts, Times and Trees; the main
-- lemma is in PiecesAreLeaves: a box and the pieces round it are from cuts.
pub mod Boxes
pub mod Axes
pub mod Counting
pub mod TotalOrders
pub mod BestOfAPass
pub mod SmallestBox
pub mod Choices
pub mod CoverVolumes
pub mod Pieces
pub mod Parts
pub mod Times
pub mod SameBoxes
pub mod Trees
pub mod PiecesAreLeaves
pub mod TreesFill
