pub mod Records
pub mod History
pub mod Report
pub mod Running
pub mod Pieces
pub mod Kinds
pub mod Promises
pub mod Examples
