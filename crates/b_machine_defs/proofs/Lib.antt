-- Lemmas of definitions.
pub mod FromBehind
