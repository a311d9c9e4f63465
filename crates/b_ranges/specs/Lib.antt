pub mod Sides
pub mod Conjuncts
pub mod Ranges
