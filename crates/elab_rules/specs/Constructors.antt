-- Constructors of datatypes and of exceptions.
use Rattle.std.specs.Prelude.{ℕ, List, Option, Some, None, Ok}
use Rattle.sig_parser.specs.declared.tree.ConDesc.{ConDesc}
use Rattle.ty_parser.specs.declared.tree.TypeAt.{TypeAt}
use Rattle.type_core.specs.declared.member.Kind.{Kind}
use Rattle.type_core.specs.declared.ty.Ty.{Ty}
use Rattle.type_core.specs.declared.ty.Ty.TheVariants as ty
use Rattle.elab_rules.specs.declared.refusal.Why.TheVariants.{Duplicate}
use Rattle.elab_rules.specs.Bodies.{Site, Specified, added, in_turn}
use Rattle.elab_rules.specs.Environments.{Environment, is_new_value, the_value}
use Rattle.elab_rules.specs.Outcome.{Outcome}
use Rattle.elab_types.specs.Outcome.{and_then, checked}
use Rattle.elab_types.specs.Sources.{text_at}
use Rattle.elab_rules.specs.States.{State}
use Rattle.elab_rules.specs.Types.{Variables, Place, limited, typed}
use Rattle.elab_rules.specs.Values.{closed_value, normal_limited}

-- what constructors that are described together have in common: their kind, the type that they make, and the
-- variables that may stand in their arguments
pub record Family : Type 0 where
  pub kind : Kind
  pub made : Ty
  pub variables : Variables

-- where the type of an argument stands
abbrev pub argument_place : Site → ℕ → Variables → Environment → Place
argument_place site first variables own = record { site = site; own = own; first = first; variables = variables }

-- the type of a constructor: what it makes, or an arrow to it, within the limits at the argument's first token
abbrev pub constructor_type : Option TypeAt → Family → Site → Environment → State → Outcome (Ty × State)
constructor_type None family site own s = Ok (family.made, s)
constructor_type (Some t) family site own s =
    and_then (typed t.ty (argument_place site t.first family.variables own) s) (λ r.
    and_then (limited t.first (ty.Arrow r.0 family.made) r.1) (λ q.
    normal_limited t.first q.0 (Ok q)))

-- one constructor: the identifier is new, then comes the type
abbrev pub constructor_described : ConDesc → Family → Specified
constructor_described c family site own s =
    checked (is_new_value (text_at site.texts c.id) own) Duplicate c.id
    (and_then (constructor_type c.arg family site own s) (λ r.
    added site (the_value (closed_value (text_at site.texts c.id) family.kind r.0)) c.id own r.1))

-- constructors from left to right
abbrev pub constructors_described : List ConDesc → Family → Specified
constructors_described cs family = in_turn (λ c. constructor_described c family) cs
