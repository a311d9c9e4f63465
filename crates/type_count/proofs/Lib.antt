pub mod Spending
pub mod Countings
pub mod Tellings
