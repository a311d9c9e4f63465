pub mod Framing
pub mod Freeing
