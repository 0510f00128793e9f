use Rattle.std.proofs.Common.{◌≡◌, ◌++◌, map, drop, take}
use Rattle.type_core.specs.Kept.{or_kept}
use Rattle.type_core.specs.Substitution.{field_substituted, substituted}
use Rattle.type_core.proofs.substitution.+replace.Given as goal

abbrev pub invariant-replaced_all-loop-i : goal.invariant-replaced_all-loop-i
invariant-replaced_all-loop-i l =
    or_kept (take l.i l.parts) l.done ++ map (substituted l.by) (drop l.i l.parts) ≡ map (substituted l.by) l.parts

abbrev pub invariant-replaced_fields-loop-i : goal.invariant-replaced_fields-loop-i
invariant-replaced_fields-loop-i l =
    or_kept (take l.i l.fields) l.done ++ map (field_substituted l.by) (drop l.i l.fields) ≡ map (field_substituted l.by) l.fields
