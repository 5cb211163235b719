-- Trees as text: the grammar, the tree that a text spells, the records of a tree, its prices, and the tree of an outline.
pub mod Grammar
pub mod Inner
pub mod Layout
pub mod Pairs
pub mod Parsing
pub mod Trees
