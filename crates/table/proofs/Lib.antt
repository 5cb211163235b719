-- Laws of the places of rows, and the steps of the functions that fill the table.
pub mod Crossing
pub mod Places
pub mod Pushing
pub mod SpreadSteps
pub mod Spreading
pub mod Terminal
pub mod Weighing
pub mod Whole
