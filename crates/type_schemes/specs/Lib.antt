pub mod Rules
pub mod Schemes
pub mod Growing
pub mod SchemeLaws
