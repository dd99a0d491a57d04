pub mod Sets
pub mod Entries
pub mod Tallies
pub mod Judged
pub mod Judges
