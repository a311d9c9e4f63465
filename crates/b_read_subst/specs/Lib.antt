pub mod Blocks
pub mod Making
