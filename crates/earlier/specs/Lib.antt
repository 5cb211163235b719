-- What was given before, and that it is given still.
pub mod Before
pub mod Earlier
