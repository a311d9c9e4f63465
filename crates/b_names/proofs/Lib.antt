-- Lemmas of the index.
pub mod Names
