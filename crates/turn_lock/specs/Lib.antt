-- What a caller reads: histories, what a pass knows, whose pass it is, and what a job may do.
pub mod Histories
pub mod Passes
pub mod Jobs
pub mod Turns
-- The rule behind them, which no public clause names.
pub mod Views
pub mod Rule
pub mod Steps
pub mod Holding
