-- Lemmas of the expander.
pub mod Naming
pub mod Indexing
pub mod Texts
pub mod Layers
pub mod Moving
pub mod PuttingNames
pub mod PuttingUses
pub mod PuttingLayers
pub mod Putting
pub mod Settling
