-- The bytes of a record.
pub mod Bytes
