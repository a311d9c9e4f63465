pub mod Frames
pub mod Outcomes
pub mod Gathered
pub mod FrameLaws
pub mod OutcomeLaws
