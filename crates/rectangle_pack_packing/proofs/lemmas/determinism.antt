-- Equal input gives equal output. Read OneOrder and OneTrial first; the main lemma is in OnePacking, and OneFitting has that of what fits. Either lets
-- the closures of two packings differ where they answer alike; Preorders: which closures decide a packing.
pub mod OneOrder
pub mod OneTrial
pub mod OnePacking
pub mod OneFitting
pub mod Preorders
pub mod Either
pub mod OneLocations
