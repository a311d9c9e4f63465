pub mod Tables
pub mod Bytes
pub mod Strings
pub mod Fronts
pub mod Reading
pub mod Spelling
