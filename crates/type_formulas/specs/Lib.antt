pub mod Typings
pub mod Putting
