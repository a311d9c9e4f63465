-- What substitutions write, and when.
pub mod Names
pub mod Targets
pub mod Doubles
pub mod Reads
pub mod Times
pub mod Machines
