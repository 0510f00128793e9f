-- The long form of a plain converter, built straight from the pairing. It serves laws and private functions: no
-- public contract of a converter rests on it.
pub mod References
pub mod LongSides
pub mod HoleMoves
pub mod DirectConverter
pub mod TwoPasses
pub mod Steps
pub mod AlongSteps
