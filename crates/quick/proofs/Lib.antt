-- Laws of the quick choice.
pub mod Adding
pub mod Along
pub mod Answers
pub mod Bounds
pub mod Demands
pub mod Hand
pub mod Holding
pub mod Picking
pub mod Submodular
pub mod Taking
pub mod Taxon
pub mod Upwards
