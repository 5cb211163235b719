-- An outline and its rules, what the check and the finder answer and promise, and what the functions behind them speak of.
pub mod Outline
pub mod Rules
pub mod WellFormed
pub mod Answer
pub mod Demands
pub mod Inner
