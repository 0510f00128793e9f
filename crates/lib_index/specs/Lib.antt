pub mod IndexText
pub mod Indexes
pub mod Marks
pub mod Reading
