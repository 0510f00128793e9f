use Rattle.std.proofs.Common.{◌∙◌}
use Rattle.type_core.proofs.RenamedMeasures.{as_normal, height_renamed, labels_renamed, over_renamed, size_renamed, type_renamed}
use Rattle.type_core.proofs.laws.renaming_keeps_measures.Goals as goal

pub returns : goal.returns
returns c = record {
  size = size_renamed;
  height = height_renamed;
  normal = λ r t. (as_normal r t).normal;
  labels = labels_renamed;
  types = λ r names t is. record { is_type = type_renamed r t ∙ is.is_type; over = over_renamed r names t ∙ is.over };
}
