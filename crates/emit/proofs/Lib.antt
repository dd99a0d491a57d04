pub mod Laws
pub mod Copies
pub mod Numerals
pub mod Pieces
pub mod Placing
pub mod Pushes
