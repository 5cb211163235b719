-- What a reader has to believe: when two outlines are the same tree, what the house form of an outline is, and how trees compare; and worked
-- cases.
pub mod SameTree
pub mod House
pub mod Rules
pub mod Compare
pub mod Cases
