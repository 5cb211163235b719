-- Laws that belong to no one function.
pub mod Answers
pub mod Bounds
pub mod Bytes
pub mod Demands
pub mod Exactly
pub mod Lengths
pub mod Revisions
pub mod Signs
pub mod Spans
