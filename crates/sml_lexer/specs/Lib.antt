pub mod Comments
pub mod Tokens
pub mod LongPlaces
pub mod Refusals
pub mod Steps
pub mod Places
