use Rattle.std.proofs.Common.{◌≡◌, ◌++◌, map, drop, take}
use Rattle.type_core.specs.Kept.{or_kept}
use Rattle.type_core.specs.Renaming.{renamed, field_renamed}
use Rattle.type_core.specs.Schemes.{numbered_among}
use Rattle.type_core.proofs.closing.+renumber.Given as goal

abbrev pub invariant-renumbered_all-loop-i : goal.invariant-renumbered_all-loop-i
invariant-renumbered_all-loop-i l =
    or_kept (take l.i l.parts) l.done ++ map (renamed (numbered_among l.among)) (drop l.i l.parts) ≡ map (renamed (numbered_among l.among)) l.parts

abbrev pub invariant-renumbered_fields-loop-i : goal.invariant-renumbered_fields-loop-i
invariant-renumbered_fields-loop-i l =
    or_kept (take l.i l.fields) l.done ++ map (field_renamed (numbered_among l.among)) (drop l.i l.fields)
    ≡ map (field_renamed (numbered_among l.among)) l.fields
