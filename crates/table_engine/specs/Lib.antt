pub mod Faces
pub mod Tables
pub mod TableLaws
