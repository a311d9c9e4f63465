pub mod Sequences
pub mod Rows
pub mod SequenceLaws
pub mod RowsKept
pub mod RowsByLists
pub mod Numbering
pub mod Joining
