-- Laws of the views: what a buyer's reader gets, what a call is answered, and what is promised of calls.
pub mod Answers
pub mod Bounds
pub mod Cleared
pub mod Demands
