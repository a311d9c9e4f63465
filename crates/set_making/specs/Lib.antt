pub mod Making
pub mod Sums
pub mod MakingLaws
pub mod MergePlaces
pub mod Gathered
pub mod ListMembers
