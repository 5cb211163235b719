-- What the functions of the table speak of.
pub mod Spread
pub mod Table
