-- The specifications `type` and `eqtype`.
use Rattle.std.specs.Prelude.{ℕ, ◌+◌, Bool, false, nat_le, List, [], length, Option, Some, None, Ok}
use Rattle.sig_parser.specs.declared.tree.TypeDesc.{TypeDesc}
use Rattle.ty_parser.specs.declared.tree.TypeAt.{TypeAt}
use Rattle.type_core.specs.declared.names.Equality.{Equality}
use Rattle.type_core.specs.declared.ty.VarId.{VarId}
use Rattle.type_core.specs.declared.type_fn.TypeFn.{TypeFn}
use Rattle.elab_rules.specs.declared.entry.TypeEntry.{TypeEntry}
use Rattle.elab_rules.specs.declared.refusal.Why.TheVariants.{Duplicate, TypeTooLarge}
use Rattle.elab_rules.specs.Bodies.{Site, Specified, added, in_turn}
use Rattle.elab_rules.specs.Environments.{Environment, is_new_type, the_type}
use Rattle.elab_rules.specs.Outcome.{Outcome}
use Rattle.elab_types.specs.Outcome.{and_then, checked}
use Rattle.elab_env.specs.Parameters.{name_function}
use Rattle.elab_rules.specs.Parameters.{parameters_checked, variables_at}
use Rattle.elab_types.specs.Sources.{text_at}
use Rattle.elab_rules.specs.States.{State, within, with_name}
use Rattle.elab_rules.specs.Types.{Parameters, Place, typed}

-- the head of a description: no parameter stands twice, the identifier is new, and the type that it makes of its
-- parameters isn't too large
abbrev pub head : {A : Type 0} → List ℕ → Bool → ℕ → Site → (List VarId → Outcome A) → Outcome A
head parameters is_new id site next =
    and_then (parameters_checked site.texts [] parameters) (λ done.
    checked is_new Duplicate id
    (checked (nat_le (1 + length parameters) 2000) TypeTooLarge id
    (next (variables_at site.texts parameters))))

-- the type of a right side, in which the parameters may stand
abbrev pub right_place : Site → ℕ → List VarId → Environment → Place
right_place site first vs before = record { site = site; own = before; first = first; variables = Parameters false vs }

-- what a description without right side stands for, a new name, or its right side
abbrev pub right_side : Option TypeAt → List ℕ → Equality → List VarId → Site → Environment → State → Outcome (TypeFn × State)
right_side None id equality vs site before s = Ok (name_function (length s.names) (length vs), with_name (within site.path id) (length vs) equality s)
right_side (Some t) id equality vs site before s =
    and_then (typed t.ty (right_place site t.first vs before) s) (λ r. Ok (record { arity = length vs; body = r.0 }, r.1))

-- a type constructor without constructors
abbrev pub plain_type : List ℕ → TypeFn → TypeEntry
plain_type id fun = record { id = id; fun = fun; constructors = [] }

-- one description, whose right side sees the body before the group
abbrev pub type_described : Equality → TypeDesc → Environment → Specified
type_described equality d before site own s =
    head d.params (is_new_type (text_at site.texts d.id) own) d.id site (λ vs.
    and_then (right_side d.rhs (text_at site.texts d.id) equality vs site before s) (λ r.
    added site (the_type (plain_type (text_at site.texts d.id) r.0)) d.id own r.1))

-- the descriptions of a group, each of which sees the body before the group
abbrev pub group_described : Equality → List TypeDesc → Environment → Specified
group_described equality ds before = in_turn (λ d. type_described equality d before) ds

-- a specification `type` or `eqtype`
abbrev pub types_described : Equality → List TypeDesc → Specified
types_described equality ds site own s = group_described equality ds own site own s
