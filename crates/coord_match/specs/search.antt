-- What the search keeps to while it runs. No public promise rests on it.
pub mod Bindings
pub mod Partners
pub mod Fingerprints
pub mod Tasks
