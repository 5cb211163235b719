-- Laws of writing: a tree's bytes and pairs along the links; the promises, and the round trip.
pub mod Along
pub mod Answers
pub mod Bounds
pub mod Canonical
pub mod Demands
pub mod OwnBytes
pub mod Priced
pub mod Reread
pub mod RoundTrip
