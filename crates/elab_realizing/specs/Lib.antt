pub mod InTurn
pub mod SharedStructures
