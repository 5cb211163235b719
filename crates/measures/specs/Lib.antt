-- What measuring a set of taxa gives.
pub mod Inner
pub mod Measures
