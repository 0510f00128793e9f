-- Value specifications.
use Rattle.std.specs.Prelude.{ℕ, nat_le, List}
use Rattle.sig_parser.specs.declared.tree.ValDesc.{ValDesc}
use Rattle.type_core.specs.declared.member.Kind.{Kind}
use Rattle.type_core.specs.declared.member.Kind.TheVariants.{Val}
use Rattle.type_core.specs.declared.ty.Ty.{Ty}
use Rattle.type_core.specs.NormalSize.{normal_size_of}
use Rattle.type_core.specs.Schemes.{closed}
use Rattle.elab_rules.specs.declared.entry.ValueEntry.{ValueEntry}
use Rattle.elab_rules.specs.declared.refusal.Why.TheVariants.{Duplicate, NormalTooLarge}
use Rattle.elab_rules.specs.Bodies.{Site, Specified, added, in_turn}
use Rattle.elab_rules.specs.Environments.{Environment, is_new_value, the_value}
use Rattle.elab_rules.specs.Outcome.{Outcome}
use Rattle.elab_types.specs.Outcome.{and_then, checked}
use Rattle.elab_types.specs.Sources.{text_at}
use Rattle.elab_rules.specs.Types.{Any, Place, typed}

-- a value of this type, closed over all its variables
abbrev pub closed_value : List ℕ → Kind → Ty → ValueEntry
closed_value id kind t = record { id = id; kind = kind; scheme = closed t }

-- the type of a value, in which any variable may stand
abbrev pub value_place : Site → ℕ → Environment → Place
value_place site first own = record { site = site; own = own; first = first; variables = Any }

-- a type whose normal form has at most 8,000 nodes, and what follows
abbrev pub normal_limited : {A : Type 0} → ℕ → Ty → Outcome A → Outcome A
normal_limited first t rest = checked (nat_le (normal_size_of t) 8000) NormalTooLarge first rest

-- one description: the identifier is new, then comes the type, then the limit on its normal form
abbrev pub value_described : ValDesc → Specified
value_described value site own s =
    checked (is_new_value (text_at site.texts value.id) own) Duplicate value.id
    (and_then (typed value.ty.ty (value_place site value.ty.first own) s) (λ r.
    normal_limited value.ty.first r.0
    (added site (the_value (closed_value (text_at site.texts value.id) Val r.0)) value.id own r.1)))

-- descriptions, each of which sees those before it
abbrev pub values_described : List ValDesc → Specified
values_described = in_turn value_described
