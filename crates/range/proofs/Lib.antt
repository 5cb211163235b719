-- Laws that belong to no one function.
pub mod Answers
pub mod Bounds
pub mod Demands
pub mod Differing
pub mod Places
pub mod Ranges
