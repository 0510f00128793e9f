pub mod Goals
pub mod Heads
pub mod Constructors
pub mod Owners
pub mod Points
pub mod Machine
pub mod Views
