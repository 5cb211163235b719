-- What the sheet of a marked set holds, and what is promised of it.
pub mod Answer
pub mod Cases
pub mod Demands
pub mod Inner
pub mod Sheet
