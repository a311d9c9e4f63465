pub mod Sizes
pub mod Values
pub mod Making
pub mod Summaries
pub mod Standing
pub mod Made
