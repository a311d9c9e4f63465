-- Lemmas of machines.
pub mod Sizes
pub mod Fitting
pub mod Predicates
pub mod ToldFormulas
pub mod ToldUses
pub mod Giving
