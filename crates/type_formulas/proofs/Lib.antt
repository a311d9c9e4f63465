pub mod Layers
pub mod Ranges
pub mod Rows
pub mod Answering
