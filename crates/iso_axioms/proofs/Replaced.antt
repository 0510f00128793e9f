-- Both theories are kept where types stand in place of variables.
use Rattle.std.proofs.Common.{◌≡◌, ℕ, zero, suc, arith, not, IsTrue, List, [], ◌∷◌, ◌++◌, map, nat_eq, slice_get, refl, sym, ap, ap₂, ◌∙◌, subst, subst₂}
use Rattle.std.proofs.lemmas.List.{length-map}
use Rattle.std.specs.List.{All}
use Rattle.type_core.specs.declared.ty.VarId.{VarId}
use Rattle.type_core.specs.declared.ty.NameId.{NameId}
use Rattle.type_core.specs.declared.ty.Ty.{Ty}
use Rattle.type_core.specs.declared.ty.Field.{Field}
use Rattle.type_core.specs.declared.ty.Ty.TheVariants as ty
use Rattle.type_core.specs.Labels.{are_record_labels}
use Rattle.type_core.specs.Lists.{all_true}
use Rattle.type_core.specs.Renaming.{Renaming, field_renamed, renamed}
use Rattle.type_core.specs.Substitution.{field_substituted, or_variable, substituted}
use Rattle.type_core.specs.Types.{IsType, is_type}
use Rattle.type_core.proofs.Trees.{AtField, EachOf, induct_type, renamed_var, renamed_con, renamed_rec, renamed_tup, renamed_arrow, renamed_field, substituted_var, substituted_con, substituted_rec, substituted_tup, substituted_arrow, substituted_field}
use Rattle.type_core.proofs.TypeTests.{is_type_var, is_type_con, is_type_rec}
use Rattle.iso_axioms.specs.Axioms.{◌⇒◌, ◌⊗◌, unit, IsoAxiom, LinearAxiom, commute, associate, curry, times_unit, from_unit, nest, linear, distribute, to_unit}
use Rattle.iso_axioms.specs.Theory.{Closure, of_axiom, reflexive, symmetric, transitive, in_from, in_to, in_component}
use Rattle.iso_axioms.proofs.Types.{AreTypes, and_both, arrow_type, arrow_types, both, each_type, more_types, tuple_type, tuple_types}

-- f puts types in place of variables, and changes nothing else
pub record Replaces (f : Ty → Ty) (in_field : Field → Field) : Type 0 where
  var : (v : VarId) → IsType (f (ty.Var v))
  con : (name : NameId) (ts : List Ty) → f (ty.Con name ts) ≡ ty.Con name (map f ts)
  rec : (fields : List Field) → f (ty.Rec fields) ≡ ty.Rec (map in_field fields)
  tup : (ts : List Ty) → f (ty.Tup ts) ≡ ty.Tup (map f ts)
  arrow : (a b : Ty) → f (a ⇒ b) ≡ (f a ⇒ f b)
  field : (field : Field) → in_field field ≡ record { label = field.label; ty = f field.ty }

module _ (f : Ty → Ty) (in_field : Field → Field) (R : Replaces f in_field) where
  abbrev IsKept : Ty → Type 0
  IsKept t = IsType t → IsType (f t)

  all_kept : (ts : List Ty) → EachOf IsKept ts → AreTypes ts → AreTypes (map f ts)
  all_kept [] kept p = refl
  all_kept (t ∷ ts) kept p = let each = each_type t ts p in more_types (f t) (map f ts) (kept.0 each.0) (all_kept ts kept.1 each.1)

  same_labels : (fields : List Field) → map (λ field. field.label) fields ≡ map (λ field. field.label) (map in_field fields)
  same_labels [] = refl
  same_labels (field ∷ fields) = ap₂ ◌∷◌ (sym (ap (λ (g : Field). g.label) (R.field field))) (same_labels fields)

  fields_kept : (fields : List Field) → EachOf (AtField IsKept) fields → IsTrue (all_true (map (λ field. is_type field.ty) fields)) → IsTrue (all_true (map (λ field. is_type field.ty) (map in_field fields)))
  fields_kept [] kept p = refl
  fields_kept (field ∷ fields) kept p =
      let each = both (is_type field.ty) _ p in
      and_both _ _ (subst (λ (g : Field). IsType g.ty) (sym (R.field field)) (kept.0 each.0)) (fields_kept fields kept.1 each.1)

  pub keeps_types : (t : Ty) → IsType t → IsType (f t)
  keeps_types = induct_type IsKept
      (λ v p. R.var v)
      (λ name ts kept p. subst IsType (sym (R.con name ts)) (is_type_con name (map f ts) ∙ all_kept ts kept (sym (is_type_con name ts) ∙ p)))
      (λ fields kept p. let parts = both (are_record_labels (map (λ field. field.label) fields)) _ (sym (is_type_rec fields) ∙ p) in
      subst IsType (sym (R.rec fields)) (is_type_rec (map in_field fields) ∙ and_both _ _ (subst (λ labels. IsTrue (are_record_labels labels)) (same_labels fields) parts.0) (fields_kept fields kept parts.1)))
      (λ ts kept p. let parts = tuple_types ts p in
      subst IsType (sym (R.tup ts)) (tuple_type (map f ts) (subst (λ n. IsTrue (not (nat_eq n 1))) (sym (length-map ts f)) parts.0) (all_kept ts kept parts.1)))
      (λ a b p q r. let sides = arrow_types a b r in subst IsType (sym (R.arrow a b)) (arrow_type (f a) (f b) (p sides.0) (q sides.1)))

  -- the axioms
  pair : (a b : Ty) → f (a ⊗ b) ≡ f a ⊗ f b
  pair a b = R.tup (a ∷ b ∷ [])

  linear_kept : (a b : Ty) → LinearAxiom a b → LinearAxiom (f a) (f b)
  linear_kept _ _ (commute a b) = subst₂ LinearAxiom (sym (pair a b)) (sym (pair b a)) (commute (f a) (f b))
  linear_kept _ _ (associate a b c) = subst₂ LinearAxiom (sym (pair a (b ⊗ c) ∙ ap (λ t. f a ⊗ t) (pair b c))) (sym (pair (a ⊗ b) c ∙ ap (λ t. t ⊗ f c) (pair a b))) (associate (f a) (f b) (f c))
  linear_kept _ _ (curry a b c) = subst₂ LinearAxiom (sym (R.arrow (a ⊗ b) c ∙ ap (λ t. t ⇒ f c) (pair a b))) (sym (R.arrow a (b ⇒ c) ∙ ap (λ t. f a ⇒ t) (R.arrow b c))) (curry (f a) (f b) (f c))
  linear_kept _ _ (times_unit a) = subst (λ t. LinearAxiom t (f a)) (sym (pair a unit ∙ ap (λ t. f a ⊗ t) (R.tup []))) (times_unit (f a))
  linear_kept _ _ (from_unit a) = subst (λ t. LinearAxiom t (f a)) (sym (R.arrow unit a ∙ ap (λ t. t ⇒ f a) (R.tup []))) (from_unit (f a))
  linear_kept _ _ (nest a b c ts) = subst₂ LinearAxiom (sym (R.tup (a ∷ b ∷ c ∷ ts))) (sym (pair a (ty.Tup (b ∷ c ∷ ts)) ∙ ap (λ t. f a ⊗ t) (R.tup (b ∷ c ∷ ts)))) (nest (f a) (f b) (f c) (map f ts))

  iso_kept : (a b : Ty) → IsoAxiom a b → IsoAxiom (f a) (f b)
  iso_kept a b (linear e) = linear (linear_kept a b e)
  iso_kept _ _ (distribute a b c) = subst₂ IsoAxiom (sym (R.arrow a (b ⊗ c) ∙ ap (λ t. f a ⇒ t) (pair b c))) (sym (pair (a ⇒ b) (a ⇒ c) ∙ ap₂ ◌⊗◌ (R.arrow a b) (R.arrow a c))) (distribute (f a) (f b) (f c))
  iso_kept _ _ (to_unit a) = subst₂ IsoAxiom (sym (R.arrow a unit ∙ ap (λ t. f a ⇒ t) (R.tup []))) (sym (R.tup [])) (to_unit (f a))

  -- the theories
  middle : (before after : List Ty) (a : Ty) → map f (before ++ a ∷ after) ≡ map f before ++ f a ∷ map f after
  middle [] after a = refl
  middle (t ∷ before) after a = ap (λ ts. f t ∷ ts) (middle before after a)

  tuple : (before after : List Ty) (a : Ty) → f (ty.Tup (before ++ a ∷ after)) ≡ ty.Tup (map f before ++ f a ∷ map f after)
  tuple before after a = R.tup (before ++ a ∷ after) ∙ ap ty.Tup (middle before after a)

  module _ (Axiom : Ty → Ty → Type 0) (axiom_kept : (a b : Ty) → Axiom a b → Axiom (f a) (f b)) where
    kept : {a b : Ty} → Closure Axiom a b → Closure Axiom (f a) (f b)
    kept (of_axiom {a} {b} p q e) = of_axiom (keeps_types a p) (keeps_types b q) (axiom_kept a b e)
    kept (reflexive a p) = reflexive (f a) (keeps_types a p)
    kept (symmetric e) = symmetric (kept e)
    kept (transitive d e) = transitive (kept d) (kept e)
    kept (in_from {a} {b} c p e) = subst₂ (Closure Axiom) (sym (R.arrow a c)) (sym (R.arrow b c)) (in_from (f c) (keeps_types c p) (kept e))
    kept (in_to {a} {b} c p e) = subst₂ (Closure Axiom) (sym (R.arrow c a)) (sym (R.arrow c b)) (in_to (f c) (keeps_types c p) (kept e))
    kept (in_component {a} {b} before after p e) = subst₂ (Closure Axiom) (sym (tuple before after a)) (sym (tuple before after b))
        (in_component (map f before) (map f after) (subst IsType (tuple before after a) (keeps_types _ p)) (kept e))

  pub linear_theory_kept : {a b : Ty} → Closure LinearAxiom a b → Closure LinearAxiom (f a) (f b)
  linear_theory_kept = kept LinearAxiom linear_kept

  pub iso_theory_kept : {a b : Ty} → Closure IsoAxiom a b → Closure IsoAxiom (f a) (f b)
  iso_theory_kept = kept IsoAxiom iso_kept

pub renaming_replaces : (r : Renaming) → Replaces (renamed r) (field_renamed r)
renaming_replaces r = record {
  var = λ v. subst IsType (sym (renamed_var r v)) (is_type_var (r v));
  con = renamed_con r;
  rec = renamed_rec r;
  tup = renamed_tup r;
  arrow = renamed_arrow r;
  field = renamed_field r;
}

-- what stands in a variable's place
there : (by : List Ty) (n : ℕ) (v : VarId) → All IsType by → IsType (or_variable v (slice_get by n))
there [] n v p = is_type_var v
there (t ∷ by) zero v p = p 0 t (omega arith)
there (t ∷ by) (suc n) v p = there by n v (λ k d l. p (suc k) d (omega (arith, l)))

pub substitution_replaces : (by : List Ty) → All IsType by → Replaces (substituted by) (field_substituted by)
substitution_replaces by p = record {
  var = λ v. subst IsType (sym (substituted_var by v)) (there by v.n v p);
  con = substituted_con by;
  rec = substituted_rec by;
  tup = substituted_tup by;
  arrow = substituted_arrow by;
  field = substituted_field by;
}
