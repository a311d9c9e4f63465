pub mod Machines
pub mod Limits
pub mod Verdicts
