pub mod Machines
pub mod Rules
pub mod Texts
