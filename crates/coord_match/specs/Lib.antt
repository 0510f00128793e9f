pub mod LeastPairing
pub mod Names
pub mod search
