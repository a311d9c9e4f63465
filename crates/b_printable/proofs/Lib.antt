-- Lemmas of written and of printable trees.
pub mod Goods
pub mod GrammaticalLayers
pub mod Grammatical
pub mod Every
pub mod Parts
pub mod Under
pub mod Commas
pub mod Expanding
pub mod Again
