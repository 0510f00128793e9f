pub mod Levels
pub mod Shifting
pub mod Substitution
pub mod Parts
pub mod LongForm
pub mod Contraction
pub mod ShortNormal
pub mod deciding
