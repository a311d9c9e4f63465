pub mod Deep
pub mod Judging
