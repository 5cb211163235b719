-- Laws of refusals, for the proofs of every entry point.
pub mod Placed
pub mod Refusals
pub mod Replies
pub mod Tables
pub mod Tests
