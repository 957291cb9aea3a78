-- Bins that a collection needs. Permuted and Entries: the entries of groups in another order. Puts, InBins, ToldHomes and
-- Arranged: a packing that is done is an arrangement, also as it is told. Apart: groups that exclude each other need a bin each,
-- and Needed: what is shown is needed. Taken, Boxes and Sets: what the loops find, one more at a time.
pub mod Permuted
pub mod Entries
pub mod Puts
pub mod InBins
pub mod ToldHomes
pub mod Arranged
pub mod Apart
pub mod Taken
pub mod Needed
pub mod Boxes
pub mod Sets
