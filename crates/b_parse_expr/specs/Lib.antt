pub mod Parsing
pub mod Verdicts
