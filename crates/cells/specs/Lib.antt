-- What the functions of cells and rows in memory speak of.
pub mod Cells
pub mod Memory
