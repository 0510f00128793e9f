use Rattle.std.proofs.Common.{◌∙◌}
use Rattle.iso_normal.proofs.TreeParts.{tree_entries}
use Rattle.conv_build.proofs.Permuted.{none_permuted}
use Rattle.conv_build.proofs.tests.none.Goals as goal

pub returns : goal.returns
returns c = record { permuted = none_permuted _ (tree_entries _ ∙ c.new.ensures.empty) }
