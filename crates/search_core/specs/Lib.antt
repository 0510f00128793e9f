pub mod Converters
pub mod Search
pub mod Comparing
pub mod Telling
pub mod Report
pub mod Printing
