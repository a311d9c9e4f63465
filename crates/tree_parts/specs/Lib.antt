pub mod Tables
pub mod Constants
pub mod Sets
