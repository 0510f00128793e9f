pub mod PairTrees
pub mod WordOrder
pub mod Pairings
pub mod Consistency
pub mod Shapes
pub mod Factors
pub mod Agreement
