pub mod Loops
pub mod Passes
pub mod Enough
pub mod Laws
pub mod Naming
pub mod Exits
pub mod Whole
