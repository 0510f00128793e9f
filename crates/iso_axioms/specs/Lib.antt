pub mod Axioms
pub mod Theory
pub mod SchemeEquality
