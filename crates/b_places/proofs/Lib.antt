pub mod Standing
pub mod Turning
pub mod Integers
pub mod Kept
pub mod Limit
pub mod Going
