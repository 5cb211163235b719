-- The few functions on lists that the definitions of every crate share.
pub mod Lists
pub mod Walks
