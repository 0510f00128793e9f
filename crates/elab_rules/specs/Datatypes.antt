-- Datatype specifications.
use Rattle.std.specs.Prelude.{ℕ, ◌+◌, true, List, [], ◌∷◌, drop, length, map, Ok}
use Rattle.elab_env.specs.Parameters.{name_function}
use Rattle.sig_parser.specs.declared.tree.ConDesc.{ConDesc}
use Rattle.sig_parser.specs.declared.tree.DataDesc.{DataDesc}
use Rattle.type_core.specs.declared.member.Kind.TheVariants.{Con}
use Rattle.type_core.specs.declared.names.Equality.TheVariants.{IfArgs}
use Rattle.type_core.specs.declared.ty.VarId.{VarId}
use Rattle.elab_rules.specs.declared.entry.TypeEntry.{TypeEntry}
use Rattle.elab_rules.specs.Bodies.{Specified, added, in_turn}
use Rattle.elab_rules.specs.Constructors.{Family, constructors_described}
use Rattle.elab_rules.specs.Environments.{Environment, is_new_type, the_type}
use Rattle.elab_rules.specs.Equality.{with_greatest}
use Rattle.elab_types.specs.Outcome.{and_then}
use Rattle.elab_rules.specs.Parameters.{marked, variables_at}
use Rattle.elab_types.specs.Sources.{text_at}
use Rattle.elab_rules.specs.States.{State, within, with_name}
use Rattle.elab_rules.specs.TypeDescriptions.{head}
use Rattle.elab_rules.specs.Types.{Parameters}

-- the identifiers of constructors
abbrev pub identifiers : List (List ℕ) → List ConDesc → List (List ℕ)
identifiers texts cs = map (λ c. text_at texts c.id) cs

-- a datatype: the name of this number, and its constructors
abbrev pub datatype_entry : List ℕ → ℕ → ℕ → List (List ℕ) → TypeEntry
datatype_entry id n arity constructors = record { id = id; fun = name_function n arity; constructors = constructors }

-- the head of a datatype, which makes a new name
abbrev pub datatype_head : DataDesc → Specified
datatype_head d site own s =
    head d.params (is_new_type (text_at site.texts d.id) own) d.id site (λ vs.
    added site (the_type (datatype_entry (text_at site.texts d.id) (length s.names) (length vs) (identifiers site.texts d.cons))) d.id own
    (with_name (within site.path (text_at site.texts d.id)) (length vs) IfArgs s))

-- the heads of a group
abbrev pub datatype_heads : List DataDesc → Specified
datatype_heads = in_turn datatype_head

-- what the constructors of the datatype of this name have in common: each makes the name of its parameters
abbrev pub datatype_family : ℕ → List VarId → Family
datatype_family n vs = record { kind = Con; made = marked n vs; variables = Parameters true vs }

-- the constructors of a group whose names are numbered from n on
abbrev pub group_constructed : List DataDesc → ℕ → Specified
group_constructed [] n site own s = Ok (own, s)
group_constructed (d ∷ ds) n site own s =
    and_then (constructors_described d.cons (datatype_family n (variables_at site.texts d.params)) site own s) (λ r.
    group_constructed ds (n + 1) site r.0 r.1)

-- the state where so many names from n on admit equality as far as their constructors, among the entries, let them
abbrev pub settled : ℕ → ℕ → Environment → State → State
settled n count entries s = record { names = with_greatest n count entries s.names; gone = s.gone; weight = s.weight }

-- a group: first all heads, whose names are then visible, then all constructors; last, equality is settled
abbrev pub datatypes_described : List DataDesc → Specified
datatypes_described ds site own s =
    and_then (datatype_heads ds site own s) (λ heads.
    and_then (group_constructed ds (length s.names) site heads.0 heads.1) (λ r.
    Ok (r.0, settled (length s.names) (length ds) (drop (length own) r.0) r.1)))
