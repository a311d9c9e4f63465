pub mod Listed
pub mod Relations
pub mod CoupleLaws
pub mod Parts
pub mod Joining
pub mod Closing
