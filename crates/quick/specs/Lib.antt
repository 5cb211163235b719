-- What a quick choice gives, and what is promised of it.
pub mod Answer
pub mod Cases
pub mod Demands
pub mod Inner
pub mod Quick
