pub mod Expansion
pub mod Sizes
pub mod Summaries
pub mod Standing
pub mod Made
pub mod Filling
pub mod Filled
pub mod Limits
