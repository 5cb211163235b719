-- What a call of `read` is answered and promised, and the definitions that the code follows.
pub mod Answer
pub mod Demands
pub mod Inner
pub mod Scan
