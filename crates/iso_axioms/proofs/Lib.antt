pub mod Types
pub mod Closed
pub mod Replaced
pub mod Extended
pub mod SchemeEqualities
