pub mod Number
pub mod Text
pub mod Input
pub mod Columns
pub mod Promises
