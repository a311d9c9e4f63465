pub mod Ascending
pub mod Members
pub mod AscendingLaws
pub mod MergeLaws
pub mod SortLaws
