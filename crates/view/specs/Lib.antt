-- What a reader may see of an outline.
pub mod View
pub mod Answer
pub mod Demands
pub mod Inner
pub mod Cases
