-- Types whose parts are settled.
use Rattle.std.proofs.Common.{◌≡◌, ℕ, ◌==◌, Bool, true, false, true≢false, if◌then◌else◌, List, [], ◌∷◌, map, slice_get, refl, sym, ◌∙◌, subst}
use Rattle.std.specs.List.{All}
use Rattle.std.specs.Ordering.{is_lt}
use Rattle.std.proofs.lemmas.Bool.{and_from, eq-eqb, or_parts}
use Rattle.std.proofs.lemmas.List.Elements.{All-cons, All-head, All-nil, All-tail, All-weaker}
use Rattle.type_core.specs.declared.ty.Field.{Field}
use Rattle.type_core.specs.declared.ty.Ty.{Ty}
use Rattle.type_core.specs.declared.ty.Ty.TheVariants as ty
use Rattle.type_core.specs.declared.ty.VarId.{VarId}
use Rattle.type_core.specs.declared.type_fn.TypeFn.{TypeFn}
use Rattle.type_core.specs.Labels.{are_tuple_labels, label_order}
use Rattle.type_core.specs.Lists.{all_true}
use Rattle.type_core.specs.Substitution.{substituted}
use Rattle.type_core.specs.TypeFunctions.{applied}
use Rattle.type_core.specs.Types.{IsOver, is_over, takes}
use Rattle.type_core.proofs.TypeTests.{is_over_arrow, is_over_rec, is_over_tup, is_over_var}
use Rattle.elab_env.specs.declared.realization.Realization.{Realization}
use Rattle.elab_env.specs.Avoids.{Avoids, avoids}
use Rattle.elab_env.specs.Parameters.{name_function}
use Rattle.elab_env.specs.Sound.{IsResolved}
use Rattle.elab_env.specs.Table.{Table, is_realized}
use Rattle.elab_env.proofs.Equations.{avoids_collects, avoids_tup, avoids_var}
use Rattle.elab_env.proofs.Joined.{name_is_over, other_avoided}
use Rattle.elab_env.proofs.Parts.{nothing_inside}
use Rattle.elab_env.proofs.Replacing.{avoids_substituted, over_substituted}
use Rattle.elab_rules.specs.Standing.{IsSettledType}
use Rattle.elab_types.specs.Records.{all_inserted, in_label_order, inserted, record_of}
use Rattle.type_core.specs.Arrows.{arrows, arrows_from}

pub all_pass : (test : Ty → Bool) (ts : List Ty) → All (λ t. test t ≡ true) ts → all_true (map test ts) ≡ true
all_pass test [] all = refl
all_pass test (t ∷ ts) all = and_from _ _ (All-head (λ u. test u ≡ true) t ts all) (all_pass test ts (All-tail (λ u. test u ≡ true) t ts all))

-- ---- no name that is gone
var_resolved : (rs : List Realization) (v : VarId) → IsResolved rs (ty.Var v)
var_resolved [] v = tt
var_resolved (r ∷ rs) v = (avoids_var r.name.0 v, var_resolved rs v)

tuple_resolved : (rs : List Realization) (ts : List Ty) → All (IsResolved rs) ts → IsResolved rs (ty.Tup ts)
tuple_resolved [] ts all = tt
tuple_resolved (r ∷ rs) ts all = (
  avoids_tup r.name.0 ts ∙ all_pass (avoids r.name.0) ts (All-weaker (IsResolved (r ∷ rs)) (λ t. avoids r.name.0 t ≡ true) (λ t h. h.0) ts all),
  tuple_resolved rs ts (All-weaker (IsResolved (r ∷ rs)) (IsResolved rs) (λ t h. h.1) ts all),
)

arrow_resolved : (rs : List Realization) (a b : Ty) → IsResolved rs a → IsResolved rs b → IsResolved rs (ty.Arrow a b)
arrow_resolved [] a b p q = tt
arrow_resolved (r ∷ rs) a b p q = ((avoids_collects (λ t. t) (avoids r.name.0) r.name.0).on_arrow a b p.0 q.0, arrow_resolved rs a b p.1 q.1)

-- ---- settled types
module _ (table : Table) where
  pub var_settled : (v : VarId) → IsSettledType table (ty.Var v)
  var_settled v = record { over = is_over_var table.names v; resolved = var_resolved table.realizations v }

  pub tuple_settled : (ts : List Ty) → All (IsSettledType table) ts → IsSettledType table (ty.Tup ts)
  tuple_settled ts all = record {
    over = is_over_tup table.names ts ∙ all_pass (is_over table.names) ts (All-weaker (IsSettledType table) (IsOver table.names) (λ t h. h.over) ts all);
    resolved = tuple_resolved table.realizations ts (All-weaker (IsSettledType table) (IsResolved table.realizations) (λ t h. h.resolved) ts all);
  }

  -- the tuple of a list that is equal to one of settled types
  pub tuple_settled_as : (ts us : List Ty) → us ≡ ts → All (IsSettledType table) ts → IsSettledType table (ty.Tup us)
  tuple_settled_as ts us same all = subst (λ vs. IsSettledType table (ty.Tup vs)) (sym same) (tuple_settled ts all)

  pub arrow_settled : (a b : Ty) → IsSettledType table a → IsSettledType table b → IsSettledType table (ty.Arrow a b)
  arrow_settled a b p q = record {
    over = is_over_arrow table.names a b ∙ and_from _ _ p.over q.over;
    resolved = arrow_resolved table.realizations a b p.resolved q.resolved;
  }

-- ---- records
fields_pass : (test : Ty → Bool) (fields : List Field) → All (λ (field : Field). test field.ty ≡ true) fields → all_true (map (λ (field : Field). test field.ty) fields) ≡ true
fields_pass test [] all = refl
fields_pass test (field ∷ fields) all =
    and_from _ _ (All-head (λ (f : Field). test f.ty ≡ true) field fields all) (fields_pass test fields (All-tail (λ (f : Field). test f.ty ≡ true) field fields all))

record_resolved : (rs : List Realization) (fields : List Field) → All (λ (field : Field). IsResolved rs field.ty) fields → IsResolved rs (ty.Rec fields)
record_resolved [] fields all = tt
record_resolved (r ∷ rs) fields all = (
  subst (Avoids r.name.0) (sym (nothing_inside.on_rec fields))
      ((avoids_collects (λ t. t) (λ t. true) r.name.0).on_rec fields refl
      (fields_pass (avoids r.name.0) fields (All-weaker (λ (field : Field). IsResolved (r ∷ rs) field.ty) (λ field. avoids r.name.0 field.ty ≡ true) (λ field h. h.0) fields all))),
  record_resolved rs fields (All-weaker (λ (field : Field). IsResolved (r ∷ rs) field.ty) (λ field. IsResolved rs field.ty) (λ field h. h.1) fields all),
)

all_mapped : {A B : Type 0} (P : B → Type 0) (f : A → B) (xs : List A) → All (λ x. P (f x)) xs → All P (map f xs)
all_mapped P f [] all = All-nil P
all_mapped P f (x ∷ xs) all = All-cons P (f x) (map f xs) (All-head (λ y. P (f y)) x xs all) (all_mapped P f xs (All-tail (λ y. P (f y)) x xs all))

-- ---- fields in label order
module _ (P : Field → Type 0) where
  inserted_all : (field : Field) (fields : List Field) → P field → All P fields → All P (inserted field fields)
  inserted_all field [] h all = All-cons P field [] h all
  inserted_all field (next ∷ fields) h all = by_case (inserted_all field fields h (All-tail P next fields all)) (is_lt (label_order field.label next.label))
    where
      by_case : All P (inserted field fields) → (b : Bool) → All P (if b then field ∷ next ∷ fields else next ∷ inserted field fields)
      by_case rest true = All-cons P field (next ∷ fields) h all
      by_case rest false = All-cons P next (inserted field fields) (All-head P next fields all) rest

  pub in_order_all : (fields sorted : List Field) → All P fields → All P sorted → All P (all_inserted fields sorted)
  in_order_all [] sorted all k = k
  in_order_all (field ∷ fields) sorted all k = inserted_all field (all_inserted fields sorted) (All-head P field fields all) (in_order_all fields sorted (All-tail P field fields all) k)

-- ---- substitution
substituted_resolved : (by : List Ty) (rs : List Realization) (t : Ty) → All (IsResolved rs) by → IsResolved rs t → IsResolved rs (substituted by t)
substituted_resolved by [] t all h = tt
substituted_resolved by (r ∷ rs) t all h = (
  avoids_substituted by r.name.0 (all_pass (avoids r.name.0) by (All-weaker (IsResolved (r ∷ rs)) (λ u. avoids r.name.0 u ≡ true) (λ u k. k.0) by all)) t h.0,
  substituted_resolved by rs t (All-weaker (IsResolved (r ∷ rs)) (IsResolved rs) (λ u k. k.1) by all) h.1,
)

-- a name that isn't realized, applied to parameters
name_is_resolved : (rs : List Realization) (n arity : ℕ) → is_realized rs n ≡ false → IsResolved rs (name_function n arity).body
name_is_resolved [] n arity other = tt
name_is_resolved (r ∷ rs) n arity other =
    let p = or_parts (n == r.name.0) (is_realized rs n) other in (
      other_avoided [] n r.name.0 arity (name_function n arity) refl refl (λ same. absurd (true≢false (sym (eq-eqb n r.name.0 same) ∙ p.0))),
      name_is_resolved rs n arity p.1,
    )

module _ (table : Table) where
  abbrev pub IsSettledField : Field → Type 0
  IsSettledField field = IsSettledType table field.ty

  pub fields_settled : (fields : List Field) → All IsSettledField fields → IsSettledType table (ty.Rec fields)
  fields_settled fields all = record {
    over = is_over_rec table.names fields ∙ fields_pass (is_over table.names) fields (All-weaker IsSettledField (λ field. IsOver table.names field.ty) (λ field h. h.over) fields all);
    resolved = record_resolved table.realizations fields (All-weaker IsSettledField (λ field. IsResolved table.realizations field.ty) (λ field h. h.resolved) fields all);
  }

  pub record_settled : (fields : List Field) → All IsSettledField fields → IsSettledType table (record_of fields)
  record_settled [] all = tuple_settled table [] (All-nil (IsSettledType table))
  record_settled (field ∷ fields) all = by_case (are_tuple_labels (map (λ (f : Field). f.label) (field ∷ fields)))
    where
      by_case : (b : Bool) → IsSettledType table (if b then ty.Tup (map (λ (f : Field). f.ty) (field ∷ fields)) else ty.Rec (field ∷ fields))
      by_case true = tuple_settled table (map (λ (f : Field). f.ty) (field ∷ fields)) (all_mapped (IsSettledType table) (λ (f : Field). f.ty) (field ∷ fields) all)
      by_case false = fields_settled (field ∷ fields) all

  pub ordered_settled : (fields : List Field) → All IsSettledField fields → IsSettledType table (record_of (in_label_order fields))
  ordered_settled fields all = record_settled (in_label_order fields) (in_order_all IsSettledField fields [] all (All-nil IsSettledField))

  -- ---- chains of arrows
  arrows_from_settled : (side : Ty) (sides : List Ty) → IsSettledType table side → All (IsSettledType table) sides → IsSettledType table (arrows_from side sides)
  arrows_from_settled side [] h all = h
  arrows_from_settled side (next ∷ sides) h all =
      arrow_settled table side (arrows_from next sides) h
      (arrows_from_settled next sides (All-head (IsSettledType table) next sides all) (All-tail (IsSettledType table) next sides all))

  pub arrows_settled : (sides : List Ty) → All (IsSettledType table) sides → IsSettledType table (arrows sides)
  arrows_settled [] all = tuple_settled table [] all
  arrows_settled (side ∷ sides) all = arrows_from_settled side sides (All-head (IsSettledType table) side sides all) (All-tail (IsSettledType table) side sides all)

  -- ---- applications
  pub applied_settled : (f : TypeFn) (arguments : List Ty) → All (IsSettledType table) arguments → IsSettledType table f.body → IsSettledType table (applied f arguments)
  applied_settled f arguments all h = record {
    over = over_substituted arguments table.names (all_pass (is_over table.names) arguments (All-weaker (IsSettledType table) (IsOver table.names) (λ t k. k.over) arguments all)) f.body h.over;
    resolved = substituted_resolved arguments table.realizations f.body (All-weaker (IsSettledType table) (IsResolved table.realizations) (λ t k. k.resolved) arguments all) h.resolved;
  }

  pub name_settled : (n arity : ℕ) → takes (slice_get table.names n) arity ≡ true → is_realized table.realizations n ≡ false → IsSettledType table (name_function n arity).body
  name_settled n arity known other = record {
    over = (name_is_over table.names n arity (name_function n arity) refl known).over;
    resolved = name_is_resolved table.realizations n arity other;
  }
