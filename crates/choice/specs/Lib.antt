-- What choosing answers and writes, and what the functions behind it speak of.
pub mod Answer
pub mod Cases
pub mod Demands
pub mod Inner
