-- The definitions of revising: a revised outline, movements, and what a call is answered.
pub mod Answer
pub mod Cases
pub mod Demands
pub mod Inner
pub mod Moved
pub mod Revised
pub mod Spans
