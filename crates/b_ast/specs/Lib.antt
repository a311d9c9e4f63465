-- Definitions on trees.
pub mod Sorts
pub mod Priorities
