-- The definitions of the crate: what is handed in, what the inner functions find in it, and the same in other words.
pub mod Sheets
pub mod Places
pub mod Joined
pub mod Whys
