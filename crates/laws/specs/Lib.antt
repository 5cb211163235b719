-- What the laws, and the contracts of the crates above, speak of besides the definitions of `outline` and `diversity`.
pub mod Candidate
pub mod Forest
pub mod Locks
pub mod Measures
pub mod Numbers
