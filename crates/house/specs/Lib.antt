-- What writing a house form and comparing two outlines are answered and promised, what the functions behind them speak
-- of, and worked calls.
pub mod Answer
pub mod Compared
pub mod Demands
pub mod Inner
pub mod Cases
