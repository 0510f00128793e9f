use Rattle.std.proofs.Common.{◌≡◌, ℕ, List, is_some, not, take}
use Rattle.elab_rules.specs.Files.{is_from}
use Rattle.elab_types.specs.Finding.{none_of}
use Rattle.elab_types.specs.Places.{place_at}
use Rattle.elab_rules.proofs.external_names.first_parts.Given as goal

abbrev pub invariant-loop-n : goal.invariant-loop-n
invariant-loop-n l = (id : List ℕ) → is_some (place_at l.firsts id) ≡ not (none_of (is_from id) (take l.n l.table.names))
