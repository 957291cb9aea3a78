-- Packings that are searched for. Outlays: how they are compared, and that a packing has one. Costs: what bins cost, one more
-- at a time. NotNamed: which groups no step names. Sizes: the sizes in which boxes stand. Guesses: the best of the heuristics.
-- Settled: what is kept. Entries: how many placements these are at most.
pub mod Outlays
pub mod Costs
pub mod NotNamed
pub mod Sizes
pub mod Guesses
pub mod Settled
pub mod Entries
