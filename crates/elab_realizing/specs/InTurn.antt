-- Names that are joined in a table one after the other.
use Rattle.std.specs.Prelude.{ℕ, if◌then◌else◌, List, [], ◌∷◌}
use Rattle.elab_env.specs.Table.{Table, is_free}
use Rattle.elab_rules.specs.Joining.{joined_table}

-- one name joined, where it is still free
abbrev pub join_step : ℕ → ℕ → Table → Table
join_step kept n table = if is_free table n then joined_table kept n table else table

-- each of the names joined in turn to the one that is kept
abbrev pub joined_in_turn : ℕ → List ℕ → Table → Table
joined_in_turn kept [] table = table
joined_in_turn kept (n ∷ ns) table = joined_in_turn kept ns (join_step kept n table)
