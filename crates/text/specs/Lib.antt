-- Text: what it is to write it into a buffer, and numbers and lines as text.
pub mod Text
pub mod Written
