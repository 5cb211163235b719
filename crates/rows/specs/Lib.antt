-- The rows of the method, as functions of the page count; what sets are worth, and how large that can be.
pub mod Bounds
pub mod Rows
pub mod Worth
