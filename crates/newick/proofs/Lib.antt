-- Laws of trees as text, and of trees as records.
pub mod Layouts
pub mod Ordered
pub mod Plain
pub mod Ranges
pub mod Regrown
pub mod Signs
pub mod Spelling
pub mod Tokens
pub mod Traced
pub mod WordsWritten
