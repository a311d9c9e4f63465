pub mod Names
pub mod Looking
pub mod Machines
pub mod Faces
