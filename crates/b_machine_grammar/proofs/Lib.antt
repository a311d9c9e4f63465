pub mod Cuts
pub mod Unique
pub mod Outside
