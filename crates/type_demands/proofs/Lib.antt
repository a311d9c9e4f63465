pub mod Frames
pub mod Couples
pub mod Tellings
