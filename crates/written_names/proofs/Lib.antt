-- Lemmas on names.
pub mod Which
