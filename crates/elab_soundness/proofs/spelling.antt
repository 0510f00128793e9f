pub mod Descriptions
pub mod Files
pub mod LongNames
pub mod Values
pub mod Tokens
pub mod Types
