-- Laws that belong to no one function.
pub mod Answers
pub mod Bounds
pub mod Columns
pub mod Demands
pub mod Digits
pub mod Rows
pub mod Shown
pub mod Solving
