pub mod Typings
pub mod Known
pub mod Machines
pub mod Formulas
