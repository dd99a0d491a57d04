pub mod Arms
pub mod Rows
pub mod Promises
