-- Lemmas of substitutions.
pub mod Layers
pub mod Growing
pub mod Telling
pub mod PartSizes
pub mod Naming
pub mod Uses
pub mod Putting
pub mod Filling
