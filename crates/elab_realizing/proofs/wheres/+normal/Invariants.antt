use Rattle.std.proofs.Common.{◌≡◌, nat_le, drop, map}
use Rattle.type_core.specs.declared.ty.Ty.{Ty}
use Rattle.type_core.specs.Lists.{all_true}
use Rattle.type_core.specs.NormalSize.{normal_size_of}
use Rattle.elab_rules.specs.Wheres.{value_types_of}
use Rattle.elab_realizing.proofs.wheres.+normal.Given as goal

abbrev pub invariant-are_normal-loop-entry : goal.invariant-are_normal-loop-entry
invariant-are_normal-loop-entry l =
    all_true (map (λ (t : Ty). nat_le (normal_size_of t) 8000) (value_types_of (drop l.entry-index l.entries)))
    ≡ all_true (map (λ (t : Ty). nat_le (normal_size_of t) 8000) (value_types_of l.entries))
