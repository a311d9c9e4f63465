pub mod Scopes
pub mod Judging
pub mod Layers
pub mod Adding
pub mod Names
pub mod MachineParts
pub mod FormulaParts
