pub mod Moving
pub mod Settling
pub mod Told
pub mod Fitting
pub mod Standing
pub mod Placing
pub mod Leading
