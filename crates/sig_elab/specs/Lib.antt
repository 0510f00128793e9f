pub mod Kept
pub mod Declarations
pub mod Elaborators
pub mod Totals
