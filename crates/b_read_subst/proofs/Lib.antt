pub mod Lets
pub mod Laws
