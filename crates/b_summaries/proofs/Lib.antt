-- Lemmas of summaries.
pub mod Amounts
pub mod Sums
pub mod Adding
pub mod Using
pub mod Trees
pub mod TreeLayers
pub mod TreeRows
pub mod LayerFacts
pub mod LayersOfFacts
pub mod DeeperFacts
pub mod TextParts
pub mod TextNames
pub mod Telling
pub mod PartLists
pub mod Naming
pub mod Work
pub mod Refusals
