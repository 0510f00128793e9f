-- What the code keeps in view while it shares.
use Rattle.std.specs.Prelude.{◌≡◌, ℕ, ◌++◌, if◌then◌else◌, List, Some, slice_get}
use Rattle.std.specs.List.{AllZip}
use Rattle.elab_env.specs.Table.{Table, is_free, joining, with_joined}
use Rattle.elab_rules.specs.declared.entry.Entry.{Entry}
use Rattle.elab_rules.specs.declared.scope.Scope.{Scope}
use Rattle.elab_rules.specs.Bodies.{Site}
use Rattle.elab_rules.specs.Environments.{Environment}
use Rattle.sig_base.specs.LongIdentifiers.{parts}
use Rattle.elab_rules.specs.LongIdentifiers.{structure_along}
use Rattle.elab_types.specs.Sources.{text_at}

-- the table after two names were joined
abbrev pub joined_table : ℕ → ℕ → Table → Table
joined_table a b table = record { names = with_joined a b table.names; realizations = table.realizations ++ joining table.names a b }

-- a name was joined to another one, where it still was free
abbrev pub IsJoined : ℕ → ℕ → Table → Table → Type 0
IsJoined kept n old new = new ≡ (if is_free old n then joined_table kept n old else old)

-- the entry stands along a path of structures
pub record IsEntryAlong (path : List (List ℕ)) (entry : Entry) (env : Environment) : Type 0 where
  pub entries : Environment
  pub place : ℕ
  pub along : structure_along path env ≡ Some entries
  pub stands : slice_get entries place ≡ Some entry

-- each scope is what the structure at its token has
abbrev pub ArePlacedAt : Site → Environment → List ℕ → List Scope → Type 0
ArePlacedAt site env tokens scopes = AllZip (λ token scope. structure_along (parts (text_at site.texts token)) env ≡ Some scope.entries.now) tokens scopes
