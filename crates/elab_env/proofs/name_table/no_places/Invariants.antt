use Rattle.std.proofs.Common.{◌≡◌, replicate, None}
use Rattle.elab_env.proofs.name_table.no_places.Given as goal

abbrev pub invariant-loop-i : goal.invariant-loop-i
invariant-loop-i l = l.places.items ≡ replicate l._i None
