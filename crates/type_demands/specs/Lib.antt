pub mod Scopes
pub mod Demands
