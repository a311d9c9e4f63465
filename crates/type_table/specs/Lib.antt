pub mod Types
pub mod TypeLaws
pub mod Tables
pub mod Unifying
pub mod TableLaws
