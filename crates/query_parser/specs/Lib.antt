pub mod Constructors
pub mod Types
pub mod Queries
pub mod Views
