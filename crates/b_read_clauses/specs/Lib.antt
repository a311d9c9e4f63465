pub mod Clauses
pub mod Making
