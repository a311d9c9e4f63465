pub mod Told
pub mod Substitutions
