pub mod Families
pub mod Arrows
pub mod Levels
pub mod Arrangements
