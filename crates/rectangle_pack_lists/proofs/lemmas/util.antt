-- What is about no subject of this project: parts of lists, as far apart as blocks of slots, and what is read at an index.
pub mod Kept
pub mod Reads
pub mod Stretches
