pub mod Typing
pub mod Conversion
pub mod InversePair
pub mod deciding
