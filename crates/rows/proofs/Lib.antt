-- Laws of the rows, for the crates above.
pub mod BestRows
pub mod Bounds
pub mod Joins
pub mod Push
pub mod Sets
pub mod Steps
pub mod TopRow
