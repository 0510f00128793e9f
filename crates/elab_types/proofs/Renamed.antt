-- What renaming the variables of a type keeps.
pub use Rattle.type_core.proofs.RenamedMeasures.{IsAsNormal, as_normal, height_renamed, labels_renamed, over_renamed, size_renamed, type_renamed}
