-- What the search keeps to while it runs. No public promise rests on it.
pub mod Bindings
pub mod Cutting
pub mod Needs
pub mod Tasks
pub mod Weights
