pub mod Looks
pub mod Numbers
pub mod Entries
