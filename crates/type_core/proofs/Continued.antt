-- The rest of a list of texts, some of which may have been written.
use Rattle.std.proofs.Common.{ℕ, Bool, List, if◌then◌else◌}
use Rattle.type_core.specs.declared.printing.Place.{Place}
use Rattle.type_core.specs.Printing.{Placed, separated, preceded}

abbrev pub continued : Bool → List ℕ → Place → List Placed → List ℕ
continued is_first between place parts = if is_first then separated between place parts else preceded between place parts
