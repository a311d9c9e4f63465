-- Lemmas of clauses.
pub mod FromBehind
