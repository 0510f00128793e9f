-- The type that a query's type expression stands for (the Definition of Standard ML, rules 44 to 49).
use Rattle.std.specs.Prelude.{ℕ, nat_le, List, [], ◌∷◌, ◌++◌, Ok}
use Rattle.ty_parser.specs.declared.tree.TyExp.{TyExp}
use Rattle.ty_parser.specs.declared.tree.TyExp.TheOpen.{TyExp-F, FieldExp-F, Var, Fields, Tuple, Arrows, Apply}
use Rattle.ty_parser.specs.declared.tree.TyExp.TheFolds.{fold-TyExp, fold-FieldExp}
use Rattle.ty_parser.specs.declared.tree.FieldExp.{FieldExp}
use Rattle.type_core.specs.declared.library.Library.{Library}
use Rattle.type_core.specs.declared.ty.Field.{Field}
use Rattle.type_core.specs.declared.ty.Ty.{Ty}
use Rattle.type_core.specs.declared.ty.Ty.TheVariants as ty
use Rattle.type_core.specs.Size.{size_of}
use Rattle.type_core.specs.Arrows.{arrows}
use Rattle.elab_types.specs.Outcome.{Outcome, and_then, checked}
use Rattle.elab_types.specs.Records.{in_label_order, is_new_label, record_of}
use Rattle.elab_types.specs.Sources.{text_at, variable}
use Rattle.query_parser.specs.declared.refusal.QueryWhy.{QueryWhy}
use Rattle.query_parser.specs.declared.refusal.QueryWhy.TheVariants.{Duplicate, TooLarge}
use Rattle.query_parser.specs.Constructors.{constructor_applied}

-- where a query is read: the texts of its tokens, and the library
pub record Place : Type 0 where
  pub texts : List (List ℕ)
  pub library : Library

-- the type of an expression, by where it is read
abbrev pub Typed : Type 0
Typed = Place → Outcome QueryWhy Ty

-- a type that is complete, where it has at most 200 nodes; a larger one is refused at the query's first token
abbrev pub limited : Ty → Outcome QueryWhy Ty
limited t = checked (nat_le (size_of t) 200) TooLarge 0 (Ok t)

-- the constructor at a token, applied to arguments
abbrev pub constructed : Place → ℕ → List Ty → Outcome QueryWhy Ty
constructed p token arguments = and_then (constructor_applied p.library token (text_at p.texts token) arguments) limited

-- each of the constructors applied to what stands before it
abbrev pub constructed_on : Place → Ty → List ℕ → Outcome QueryWhy Ty
constructed_on p t [] = Ok t
constructed_on p t (token ∷ tokens) = and_then (constructed p token (t ∷ [])) (λ r. constructed_on p r tokens)

-- the first constructor takes the arguments; with no constructor, which no type has, they are a tuple
abbrev pub constructed_all : Place → List Ty → List ℕ → Outcome QueryWhy Ty
constructed_all p arguments [] = limited (ty.Tup arguments)
constructed_all p arguments (token ∷ tokens) = and_then (constructed p token arguments) (λ r. constructed_on p r tokens)

-- types from left to right
abbrev pub all_typed : List Typed → Place → Outcome QueryWhy (List Ty)
all_typed [] p = Ok []
all_typed (part ∷ parts) p = and_then (part p) (λ t. and_then (all_typed parts p) (λ ts. Ok (t ∷ ts)))

-- fields from left to right, of which the first are done; each label is looked at before its type
abbrev pub fields_typed : Place → List Field → List (ℕ × Typed) → Outcome QueryWhy (List Field)
fields_typed p done [] = Ok done
fields_typed p done (field ∷ fields) =
    checked (is_new_label (text_at p.texts field.0) done) Duplicate field.0
    (and_then (field.1 p) (λ t. fields_typed p (done ++ record { label = text_at p.texts field.0; ty = t } ∷ []) fields))

-- the type of one level
abbrev pub typed_step : TyExp-F Typed (ℕ × Typed) → Typed
typed_step (Var token) p = Ok (ty.Var (variable p.texts token))
typed_step (Fields fields) p = and_then (fields_typed p [] fields) (λ done. limited (record_of (in_label_order done)))
typed_step (Tuple parts) p = and_then (all_typed parts p) (λ ts. limited (ty.Tup ts))
typed_step (Arrows sides) p = and_then (all_typed sides p) (λ ts. limited (arrows ts))
typed_step (Apply arguments constructors) p = and_then (all_typed arguments p) (λ ts. constructed_all p ts constructors)

abbrev pub typed_field_step : FieldExp-F Typed (ℕ × Typed) → ℕ × Typed
typed_field_step field = (field.label, field.ty)

-- the type of a type expression, or the first condition that fails in it
abbrev pub typed : TyExp → Typed
typed = fold-TyExp Typed (ℕ × Typed) typed_step typed_field_step

-- a field's label and its type
abbrev pub field_typed : FieldExp → ℕ × Typed
field_typed = fold-FieldExp Typed (ℕ × Typed) typed_step typed_field_step
