-- Free sections cut anew. Read Halves first: where cuts can part a box round others, they can also part it at a plane that
-- goes through none of these. Strips, Slabs and Rooms are for the loops.
pub mod Halves
pub mod Bounds
pub mod Order
pub mod FreeIn
pub mod Strips
pub mod Slabs
pub mod Rooms
pub mod Found
