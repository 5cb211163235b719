-- Laws of the sheet: from where each record counts, what its rows and sums are, and what is promised of calls.
pub mod Added
pub mod Along
pub mod Answers
pub mod Bounds
pub mod Demands
pub mod Listing
pub mod Opening
pub mod Places
pub mod Sums
