-- What the listing program prints.
pub mod Cases
pub mod FromBuffers
pub mod Printed
