pub mod InRows
pub mod Ways
pub mod BoundNames
pub mod Grouping
pub mod Descent
pub mod Deeper
pub mod Endings
pub mod Readings
