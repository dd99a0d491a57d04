pub mod Verdicts
pub mod Sending
pub mod Sent
pub mod Callers
pub mod CallStates
pub mod Accepted
