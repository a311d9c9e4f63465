pub mod Shortness
pub mod Covering
pub mod Joining
pub mod Demands
pub mod Opening
