use Rattle.std.proofs.Common.{◌≡◌, nat_le, drop, map}
use Rattle.type_core.specs.declared.ty.Ty.{Ty}
use Rattle.type_core.specs.Height.{height_of}
use Rattle.type_core.specs.Lists.{all_true}
use Rattle.elab_rules.specs.Wheres.{types_of}
use Rattle.elab_realizing.proofs.wheres.+low.Given as goal

abbrev pub invariant-are_low-loop-entry : goal.invariant-are_low-loop-entry
invariant-are_low-loop-entry l =
    all_true (map (λ (t : Ty). nat_le (height_of t) 200) (types_of (drop l.entry-index l.entries)))
    ≡ all_true (map (λ (t : Ty). nat_le (height_of t) 200) (types_of l.entries))
