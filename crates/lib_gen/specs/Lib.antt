pub mod Generator
pub mod Summary
pub mod Classes
pub mod Counts
