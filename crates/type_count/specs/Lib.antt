pub mod Typings
pub mod Spending
pub mod Counted
pub mod Telling
