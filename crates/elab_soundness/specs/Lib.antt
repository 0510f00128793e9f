pub mod Spelling
pub mod Soundness
