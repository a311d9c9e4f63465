-- The expansion of definitions.
pub mod Places
pub mod Expansion
pub mod Filling
pub mod Answers
pub mod Using
pub mod Standing
pub mod Settled
