-- Datatype replications.
use Rattle.std.specs.Prelude.{ℕ, List}
use Rattle.elab_rules.specs.declared.entry.TypeEntry.{TypeEntry}
use Rattle.elab_rules.specs.declared.entry.ValueEntry.{ValueEntry}
use Rattle.elab_rules.specs.declared.refusal.Why.TheVariants.{Unbound, Duplicate}
use Rattle.elab_rules.specs.Bodies.{Specified, added, in_turn}
use Rattle.elab_rules.specs.Environments.{is_new_type, is_new_value, the_type, the_value}
use Rattle.elab_rules.specs.LookUps.{datatype_at}
use Rattle.elab_types.specs.Outcome.{and_then, checked, required}
use Rattle.elab_types.specs.Sources.{text_at}

-- a constructor that is copied: it is new in the body
abbrev pub value_copied : ℕ → ValueEntry → Specified
value_copied token value site own s = checked (is_new_value value.id own) Duplicate token (added site (the_value value) token own s)

-- a type constructor that stands for what another does
abbrev pub replica : List ℕ → TypeEntry → TypeEntry
replica id found = record { id = id; fun = found.fun; constructors = found.constructors }

-- a replication: the described identifier is new, then the other is looked up, and what it is is copied
abbrev pub replica_described : ℕ → ℕ → Specified
replica_described id other site own s =
    checked (is_new_type (text_at site.texts id) own) Duplicate id
    (required (datatype_at other site own) Unbound other (λ found.
    and_then (added site (the_type (replica (text_at site.texts id) found.entry)) other own s) (λ r.
    in_turn (value_copied other) found.constructors site r.0 r.1)))
