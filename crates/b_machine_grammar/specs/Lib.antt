pub mod Words
pub mod Cuts
pub mod Grammar
pub mod Laws
