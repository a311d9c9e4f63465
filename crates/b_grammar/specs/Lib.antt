pub mod Cuts
pub mod Grammar
pub mod Descent
pub mod Laws
pub mod Readings
pub mod Symbols
