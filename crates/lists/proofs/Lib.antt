-- Laws of these functions, and invariants of the loops that compute them.
pub mod Bools
pub mod Buffers
pub mod Numbered
pub mod Pieces
pub mod Walk
