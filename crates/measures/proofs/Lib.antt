-- Laws of the functions that measure.
pub mod Locking
pub mod Parts
