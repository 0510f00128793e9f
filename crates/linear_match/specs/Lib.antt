pub mod Meetings
pub mod Splits
pub mod Instances
pub mod LeastWord
pub mod search
