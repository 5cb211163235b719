-- What the best choice is: the definitions that a reader has to believe, and the starred cases.
pub mod Behind
pub mod Cases
pub mod Diversity
pub mod Order
pub mod Headings
pub mod Paths
pub mod Search
pub mod Starred
pub mod Worked
