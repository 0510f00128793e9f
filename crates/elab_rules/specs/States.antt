-- The state of elaboration: the names so far, which of them were realized or joined away, and the weight of all that was described.
use Rattle.std.specs.Prelude.{ℕ, ◌+◌, ◌&&◌, Bool, false, not, nat_le, List, [], ◌∷◌, ◌++◌, length, codes, slice_index_or, Ok}
use Rattle.type_core.specs.declared.library.Tycon.{Tycon}
use Rattle.type_core.specs.declared.member.Member.{Member}
use Rattle.type_core.specs.declared.names.Equality.{Equality}
use Rattle.type_core.specs.declared.names.TypeName.{TypeName}
use Rattle.type_core.specs.Weight.{tycon_weight, member_weight}
use Rattle.elab_env.specs.Names.{described, is_described}
use Rattle.elab_rules.specs.declared.refusal.Why.TheVariants.{LibraryTooLarge}
use Rattle.elab_rules.specs.declared.entry.TypeEntry.{TypeEntry}
use Rattle.elab_rules.specs.declared.entry.ValueEntry.{ValueEntry}
use Rattle.elab_rules.specs.declared.entry.Entry.{Entry, out-Entry}
use Rattle.elab_rules.specs.declared.entry.Entry.TheOpen.{Entry-F, Tycon as tycon, Value, Structure}
use Rattle.elab_rules.specs.Outcome.{Outcome}
use Rattle.elab_types.specs.Outcome.{checked}

-- the names in the order of their numbers, for each of them whether it was realized or joined away, and the weight
pub record State : Type 0 where
  pub names : List TypeName
  pub gone : List Bool
  pub weight : ℕ

-- whether the name of this number is free: it was described, and neither realized nor joined away
abbrev pub is_free : State → ℕ → Bool
is_free s n = is_described s.names n && not (slice_index_or s.gone n false)

-- the state with one more name, which gets the next number
abbrev pub with_name : List ℕ → ℕ → Equality → State → State
with_name path arity equality s = record { names = s.names ++ described path arity equality ∷ []; gone = s.gone ++ false ∷ []; weight = s.weight }

-- the path of what is described in a body
abbrev pub within : List ℕ → List ℕ → List ℕ
within path id = path ++ codes "." ++ id

-- a type constructor and a value of a body of this path, as a library has them
abbrev pub tycon_of : List ℕ → TypeEntry → Tycon
tycon_of path entry = record { path = within path entry.id; fun = entry.fun }

abbrev pub member_of : List ℕ → ValueEntry → Member
member_of path entry = record { kind = entry.kind; path = within path entry.id; scheme = entry.scheme }

-- the weight of an entry of a body of this path; a structure weighs 1 and the bytes of its path, and what is in it weighs by itself
abbrev pub weight_step : List ℕ → Entry-F Entry → ℕ
weight_step path (tycon entry) = tycon_weight (tycon_of path entry)
weight_step path (Value entry) = member_weight (member_of path entry)
weight_step path (Structure id entries) = 1 + length (within path id)

abbrev pub entry_weight : List ℕ → Entry → ℕ
entry_weight path entry = weight_step path (out-Entry entry)

-- the state with so much more weight, where all that was described weighs at most 8,000,000
abbrev pub weighed : ℕ → ℕ → State → Outcome State
weighed amount token s =
    checked (nat_le (s.weight + amount) 8000000) LibraryTooLarge token
    (Ok (record { names = s.names; gone = s.gone; weight = s.weight + amount }))
