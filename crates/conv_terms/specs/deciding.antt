-- What serves the contracts of private functions; no public contract rests on it.
pub mod Depths
