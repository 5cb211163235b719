-- Laws of writing text, for the proofs here and in the crates above.
pub mod Decimal
pub mod Lines
pub mod Texts
pub mod Walks
pub mod Writing
