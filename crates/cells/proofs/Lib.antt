-- Laws of candidates in two words, and of rows that are written.
pub mod ByPrice
pub mod Words
pub mod RowWritten
