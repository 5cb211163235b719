-- The one spelling of a tree, what a call of `write` is answered and promised, and the definitions that the code follows.
pub mod Answer
pub mod Demands
pub mod Inner
pub mod Text
