pub mod Places
pub mod Finds
pub mod Sizes
pub mod Index
pub mod Passes
