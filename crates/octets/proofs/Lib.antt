pub mod Classes
pub mod Places
pub mod Runs
pub mod Texts
pub mod Escapes
pub mod Numbers
pub mod Quotes
