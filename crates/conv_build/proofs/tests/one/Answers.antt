use Rattle.std.proofs.Common.{◌++◌, ◌∷◌, [], ap, ◌∙◌, subst, sym}
use Rattle.iso_normal.specs.PairTrees.{IsPermuted, entry}
use Rattle.iso_normal.proofs.TreeParts.{entry_args, entry_place, tree_entries}
use Rattle.conv_build.proofs.Permuted.{one_permuted}
use Rattle.conv_build.proofs.tests.one.Goals as goal

pub returns : goal.returns
returns c = record {
  permuted =
      one_permuted _ (entry 0 c.args.args)
      (tree_entries _ ∙ c.in_ok-push.ensures.pushed ∙ ap (λ es. es ++ entry 0 c.args.args ∷ []) c.new-entries.ensures.empty)
      (entry_place 0 c.args.args) (subst IsPermuted (sym (entry_args 0 c.args.args)) c.requires.inner);
}
