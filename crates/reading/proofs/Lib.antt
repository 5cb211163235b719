-- Laws of reading: parts and lists, drafts, pairs; and the promises.
pub mod Answers
pub mod Bounds
pub mod Demands
pub mod Drafts
pub mod Endings
pub mod Grown
pub mod Lengths
pub mod Links
pub mod Pairing
pub mod Parts
pub mod Scanning
pub mod Settled
