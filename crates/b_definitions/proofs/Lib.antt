-- Lemmas of tables in the order of use.
pub mod Joining
pub mod Stability
pub mod Fitting
pub mod Agreeing
pub mod Firsts
pub mod AnyOrder
pub mod Kept
pub mod Parts
pub mod SubstLayers
pub mod NoCircle
pub mod Following
