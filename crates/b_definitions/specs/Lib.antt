pub mod Uses
pub mod Tables
pub mod Bodies
pub mod Ranks
pub mod Arranging
pub mod Meaning
pub mod Parting
