pub mod Functions
pub mod CoordinateTypes
pub mod SplitJoin
pub mod Moving
pub mod PlainConverter
