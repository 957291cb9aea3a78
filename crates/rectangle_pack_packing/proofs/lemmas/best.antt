-- Packings with heuristics that have names: the best of several, and packings that are told the same twice (OneTelling).
-- The best of several packings. Fillings is on how many cells placements fill, Alone on the best of a list that has one
-- heuristic, Whole on packings with a heuristic that has a name, which have one result, Steps on the best of a list of
-- heuristics, one more at a time, Nothing on packings without groups, Chosen on the heuristic that is chosen where what fits is packed, Left on the cells
-- of the groups that are left.
pub mod Fillings
pub mod Alone
pub mod Whole
pub mod OneTelling
pub mod Steps
pub mod Nothing
pub mod Chosen
pub mod Left
