pub mod Scopes
pub mod Places
pub mod Ranges
pub mod Walks
pub mod ScopeLaws
pub mod WalkLaws
pub mod PlaceLaws
