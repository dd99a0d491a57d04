pub mod Copies
pub mod LongNames
pub mod Lines
pub mod Starts
pub mod CallStates
pub mod Top
pub mod Callers
pub mod Passing
