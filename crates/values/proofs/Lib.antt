pub mod Runs
pub mod Within
pub mod Lists
pub mod Params
pub mod Addresses
pub mod Schemes
pub mod Firsts
pub mod Uris
