pub mod Sets
pub mod Distinct
pub mod Labels
pub mod FirstParts
pub mod Whole
pub mod Found
