-- Laws of the house form.
pub mod Canonical
pub mod HouseForm
pub mod Laid
pub mod OwnForm
pub mod Places
pub mod Renumbering
pub mod Smallest
pub mod Sorting
pub mod Unique
