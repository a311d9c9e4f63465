pub mod Histories
pub mod Traces
