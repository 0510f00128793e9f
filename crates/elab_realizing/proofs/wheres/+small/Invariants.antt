use Rattle.std.proofs.Common.{◌≡◌, nat_le, drop, map}
use Rattle.type_core.specs.declared.ty.Ty.{Ty}
use Rattle.type_core.specs.Lists.{all_true}
use Rattle.type_core.specs.Size.{size_of}
use Rattle.elab_rules.specs.Views.{entries_at}
use Rattle.elab_rules.specs.Wheres.{types_of}
use Rattle.elab_realizing.proofs.wheres.+small.Given as goal

abbrev pub invariant-are_small-loop-entry : goal.invariant-are_small-loop-entry
invariant-are_small-loop-entry l =
    all_true (map (λ (t : Ty). nat_le (size_of t) 2000) (types_of (entries_at l.table (drop l.entry-index l.entries))))
    ≡ all_true (map (λ (t : Ty). nat_le (size_of t) 2000) (types_of (entries_at l.table l.entries)))
