use Rattle.std.proofs.Common.{◌++◌, ◌-◌, ◌∷◌, [], ap, ◌∙◌, subst, sym}
use Rattle.iso_normal.specs.PairTrees.{IsPermuted, entry}
use Rattle.iso_normal.proofs.TreeParts.{entry_args, entry_place, tree_entries}
use Rattle.conv_build.proofs.Permuted.{two_permuted}
use Rattle.conv_build.proofs.tests.two.Goals as goal

pub returns : goal.returns
returns c = record {
  permuted =
      two_permuted _ (entry c.args.first c.args.a) (entry (1 - c.args.first) c.args.b) c.args.first c.requires.low
      (tree_entries _ ∙ c.in_ok-push-2.ensures.pushed
      ∙ ap (λ es. es ++ entry (1 - c.args.first) c.args.b ∷ [])
      (c.in_ok-push.ensures.pushed ∙ ap (λ es. es ++ entry c.args.first c.args.a ∷ []) c.new-entries.ensures.empty))
      (entry_place c.args.first c.args.a) (entry_place (1 - c.args.first) c.args.b)
      (subst IsPermuted (sym (entry_args c.args.first c.args.a)) c.requires.left)
      (subst IsPermuted (sym (entry_args (1 - c.args.first) c.args.b)) c.requires.right);
}
