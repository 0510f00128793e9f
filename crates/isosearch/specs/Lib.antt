pub mod Asked
pub mod Outside
pub mod Lines
pub mod Outcome
pub mod Indexed
pub mod Ending
pub mod Answering
