pub mod Marking
pub mod MarkingLaws
