pub mod Symbols
pub mod Places
pub mod Printable
pub mod Laws
