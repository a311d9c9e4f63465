pub mod Spellings
pub mod Texts
