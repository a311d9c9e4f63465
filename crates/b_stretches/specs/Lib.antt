pub mod Stretches
pub mod Making
