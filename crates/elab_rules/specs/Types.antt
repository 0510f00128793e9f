-- The type that a type expression stands for (the Definition, rules 44 to 49).
use Rattle.std.specs.Prelude.{ℕ, ◌==◌, ◌&&◌, Bool, nat_le, List, [], ◌∷◌, ◌++◌, length, Ok}
use Rattle.ty_parser.specs.declared.tree.TyExp.{TyExp}
use Rattle.ty_parser.specs.declared.tree.TyExp.TheOpen.{TyExp-F, FieldExp-F, Var, Fields, Tuple, Arrows, Apply}
use Rattle.ty_parser.specs.declared.tree.TyExp.TheFolds.{fold-TyExp, fold-FieldExp}
use Rattle.ty_parser.specs.declared.tree.FieldExp.{FieldExp}
use Rattle.type_core.specs.declared.ty.VarId.{VarId}
use Rattle.type_core.specs.declared.ty.Ty.{Ty}
use Rattle.type_core.specs.declared.ty.Field.{Field}
use Rattle.type_core.specs.declared.ty.Ty.TheVariants as ty
use Rattle.type_core.specs.Height.{height_of}
use Rattle.type_core.specs.Size.{size_of}
use Rattle.type_core.specs.TypeFunctions.{applied}
use Rattle.type_core.specs.Variables.{occurs, place}
use Rattle.elab_rules.specs.declared.refusal.Why.TheVariants.{WrongArity, Duplicate, FreeVariable, TypeTooLarge, TypeTooHigh}
use Rattle.elab_rules.specs.Bodies.{Site}
use Rattle.elab_rules.specs.Environments.{Environment}
use Rattle.type_core.specs.Arrows.{arrows}
use Rattle.elab_rules.specs.LookUps.{function_at}
use Rattle.elab_rules.specs.Outcome.{Outcome}
use Rattle.elab_types.specs.Outcome.{and_then, checked}
use Rattle.elab_types.specs.Records.{in_label_order, is_new_label, record_of}
use Rattle.elab_types.specs.Sources.{text_at, variable}
use Rattle.elab_rules.specs.States.{State}

-- which variables may stand in a type: any, or these parameters, with their marks or without
pub data Variables : Type 0 where
  Any : Variables
  Parameters : Bool → List VarId → Variables

-- where a type expression stands: the site and the body so far, the first token of the whole expression, and the
-- variables that may stand in it
pub record Place : Type 0 where
  pub site : Site
  pub own : Environment
  pub first : ℕ
  pub variables : Variables

-- the type, and the state afterwards
abbrev pub Typed : Type 0
Typed = Place → State → Outcome (Ty × State)

-- the variable of the place's variables; a parameter is its place among the parameters
abbrev pub variable_of : Variables → VarId → ℕ → Outcome Ty
variable_of Any v token = Ok (ty.Var v)
variable_of (Parameters marks parameters) v token =
    checked (occurs v parameters) FreeVariable token
    (Ok (ty.Var (record { n = place v parameters; eq = marks && v.eq })))

-- a type that is complete, where it is within the limits
abbrev pub limited : ℕ → Ty → State → Outcome (Ty × State)
limited first t s =
    checked (nat_le (size_of t) 2000) TypeTooLarge first
    (checked (nat_le (height_of t) 200) TypeTooHigh first
    (Ok (t, s)))

-- the type constructor at a token, applied to arguments
abbrev pub constructed : Place → ℕ → List Ty → State → Outcome (Ty × State)
constructed p token arguments s =
    and_then (function_at token (length arguments) p.site p.own s) (λ r.
    checked (length arguments == r.0.arity) WrongArity token
    (limited p.first (applied r.0 arguments) r.1))

-- each of the constructors applied to what stands before it
abbrev pub constructed_on : Place → Ty → List ℕ → State → Outcome (Ty × State)
constructed_on p t [] s = Ok (t, s)
constructed_on p t (token ∷ tokens) s = and_then (constructed p token (t ∷ []) s) (λ r. constructed_on p r.0 tokens r.1)

-- the first constructor takes the arguments; with no constructor, which no type has, they are a tuple
abbrev pub constructed_all : Place → List Ty → List ℕ → State → Outcome (Ty × State)
constructed_all p arguments [] s = Ok (ty.Tup arguments, s)
constructed_all p arguments (token ∷ tokens) s = and_then (constructed p token arguments s) (λ r. constructed_on p r.0 tokens r.1)

-- types from left to right
abbrev pub all_typed : List Typed → Place → State → Outcome (List Ty × State)
all_typed [] p s = Ok ([], s)
all_typed (part ∷ parts) p s = and_then (part p s) (λ r. and_then (all_typed parts p r.1) (λ q. Ok (r.0 ∷ q.0, q.1)))

-- fields from left to right, of which the first are done; each label is looked at before its type
abbrev pub fields_typed : Place → List Field → List (ℕ × Typed) → State → Outcome (List Field × State)
fields_typed p done [] s = Ok (done, s)
fields_typed p done (field ∷ fields) s =
    checked (is_new_label (text_at p.site.texts field.0) done) Duplicate field.0
    (and_then (field.1 p s)
    (λ r. fields_typed p (done ++ record { label = text_at p.site.texts field.0; ty = r.0 } ∷ []) fields r.1))

-- the type of one level
abbrev pub typed_step : TyExp-F Typed (ℕ × Typed) → Typed
typed_step (Var token) p s = and_then (variable_of p.variables (variable p.site.texts token) token) (λ t. Ok (t, s))
typed_step (Fields fields) p s = and_then (fields_typed p [] fields s) (λ r. limited p.first (record_of (in_label_order r.0)) r.1)
typed_step (Tuple parts) p s = and_then (all_typed parts p s) (λ r. limited p.first (ty.Tup r.0) r.1)
typed_step (Arrows sides) p s = and_then (all_typed sides p s) (λ r. limited p.first (arrows r.0) r.1)
typed_step (Apply arguments constructors) p s = and_then (all_typed arguments p s) (λ r. constructed_all p r.0 constructors r.1)

abbrev pub typed_field_step : FieldExp-F Typed (ℕ × Typed) → ℕ × Typed
typed_field_step field = (field.label, field.ty)

-- the type of a type expression
abbrev pub typed : TyExp → Typed
typed = fold-TyExp Typed (ℕ × Typed) typed_step typed_field_step

-- a field's label and its type
abbrev pub field_typed : FieldExp → ℕ × Typed
field_typed = fold-FieldExp Typed (ℕ × Typed) typed_step typed_field_step
