pub mod Then
pub mod Kept
pub mod Trees
pub mod Asking
pub mod Loops
pub mod Powers
pub mod Walking
