-- The table of calls: what is held after a pair was entered or removed, and when 32 are held.
pub mod Pairs
pub mod Places
pub mod Tables
pub mod Promised
