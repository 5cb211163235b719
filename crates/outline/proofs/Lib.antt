-- Laws that belong to no one function, for the proofs here and in the crates above.
pub mod Counting
pub mod Demands
pub mod Found
pub mod WellFormed
pub mod Placed
