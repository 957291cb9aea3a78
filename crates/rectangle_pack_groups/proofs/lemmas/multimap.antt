-- Maps from keys to lists. Read Vectors and Append first; Sized is what a collection keeps, Mutual what pairs keep; TakeBack and Restore undo.
pub mod Vectors
pub mod Append
pub mod TakeBack
pub mod Restore
pub mod Sized
pub mod Mutual
