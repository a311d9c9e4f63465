pub mod Subscriptions
pub mod Subscribing
