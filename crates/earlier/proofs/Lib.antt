-- That outlines which a later request does not concern give what they gave.
pub mod Before
pub mod Layouts
