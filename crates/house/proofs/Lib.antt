-- Laws of the house form as it is made: the smallest plates, the chains in order, the records as they are written.
pub mod Answers
pub mod Arranging
pub mod Bounds
pub mod Demands
pub mod Entering
pub mod Inserting
pub mod Tables
pub mod Texts
pub mod Writing
