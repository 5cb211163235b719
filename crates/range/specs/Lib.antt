-- The definitions of prices not yet agreed: outlines that differ in prices only, and what a call is answered.
pub mod Answer
pub mod Cases
pub mod Demands
pub mod Inner
pub mod Prices
