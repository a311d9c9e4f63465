pub mod Meaning
pub mod Tuples
