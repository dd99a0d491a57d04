pub mod Columns
pub mod Input
pub mod Promises
pub mod Puts
