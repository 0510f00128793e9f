pub mod Files
pub mod Given
pub mod Loading
pub mod Indexes
