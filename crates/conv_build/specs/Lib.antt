pub mod ShortConverter
pub mod direct
