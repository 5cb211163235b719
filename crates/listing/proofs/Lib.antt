-- Laws of the listing: texts written in a loop, the lines read from marks and curve, and that what is printed fits its buffer.
pub mod Answers
pub mod Fits
pub mod Rows
