-- Laws of records and their bytes, for the proofs here and in the crates above.
pub mod Records
