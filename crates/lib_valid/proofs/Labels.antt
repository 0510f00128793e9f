-- What is so of all labels of a type, by its outermost form.
use Rattle.std.proofs.Common.{◌≡◌, ℕ, ◌↔◌, Bool, IsTrue, true, false, true≢false, ◌∙◌, List, [], ◌∷◌, ◌++◌, map, sym, subst}
use Rattle.std.proofs.lemmas.List.Elements.{All-append, All-cons, All-head, All-nil, All-tail, All-weaker}
use Rattle.std.specs.List.{All}
use Rattle.type_core.specs.declared.ty.Field.{Field}
use Rattle.type_core.specs.declared.ty.NameId.{NameId}
use Rattle.type_core.specs.declared.ty.VarId.{VarId}
use Rattle.type_core.specs.declared.ty.Ty.{Ty}
use Rattle.type_core.specs.declared.ty.Ty.TheVariants as ty
use Rattle.type_core.specs.Lists.{concatenated}
use Rattle.type_core.specs.Weight.{labels_of}
use Rattle.type_core.proofs.Trees.{labels_arrow, labels_con, labels_rec, labels_tup, labels_var}

module _ {B : Type 0} (P : B → Type 0) where
  apart : (xs ys : List B) → All P (xs ++ ys) → All P xs × All P ys
  apart [] ys h = (All-nil P, h)
  apart (x ∷ xs) ys h = let rest = apart xs ys (All-tail P x (xs ++ ys) h) in
      (All-cons P x xs (All-head P x (xs ++ ys) h) rest.0, rest.1)

  appended : (xs ys : List B) → All P (xs ++ ys) ↔ (All P xs × All P ys)
  appended xs ys = (apart xs ys, λ h. All-append P xs ys h.0 h.1)

  in_each : {A : Type 0} (f : A → List B) (xs : List A) → All P (concatenated (map f xs)) → All (λ x. All P (f x)) xs
  in_each f [] h = All-nil _
  in_each f (x ∷ xs) h = let both = apart (f x) (concatenated (map f xs)) h in
      All-cons (λ z. All P (f z)) x xs both.0 (in_each f xs both.1)

  from_each : {A : Type 0} (f : A → List B) (xs : List A) → All (λ x. All P (f x)) xs → All P (concatenated (map f xs))
  from_each f [] h = All-nil P
  from_each f (x ∷ xs) h = All-append P (f x) (concatenated (map f xs)) (All-head (λ z. All P (f z)) x xs h)
      (from_each f xs (All-tail (λ z. All P (f z)) x xs h))

module _ (P : List ℕ → Type 0) where
  pub all_var : (v : VarId) → All P (labels_of (ty.Var v))
  all_var v = subst (All P) (sym (labels_var v)) (All-nil P)

  pub all_con : (name : NameId) (ts : List Ty) → All P (labels_of (ty.Con name ts)) ↔ All (λ t. All P (labels_of t)) ts
  all_con name ts = subst (λ labels. All P labels ↔ All (λ t. All P (labels_of t)) ts) (sym (labels_con name ts))
      (in_each P labels_of ts, from_each P labels_of ts)

  pub all_tup : (ts : List Ty) → All P (labels_of (ty.Tup ts)) ↔ All (λ t. All P (labels_of t)) ts
  all_tup ts = subst (λ labels. All P labels ↔ All (λ t. All P (labels_of t)) ts) (sym (labels_tup ts))
      (in_each P labels_of ts, from_each P labels_of ts)

  pub all_arrow : (a b : Ty) → All P (labels_of (ty.Arrow a b)) ↔ (All P (labels_of a) × All P (labels_of b))
  all_arrow a b = subst (λ labels. All P labels ↔ (All P (labels_of a) × All P (labels_of b))) (sym (labels_arrow a b))
      (appended P (labels_of a) (labels_of b))

  all_field : (field : Field) → All P (field.label ∷ labels_of field.ty) ↔ (P field.label × All P (labels_of field.ty))
  all_field field = (
    λ h. (
      All-head P field.label (labels_of field.ty) h,
      All-tail P field.label (labels_of field.ty) h,
    ),
    λ h. All-cons P field.label (labels_of field.ty) h.0 h.1,
  )

  pub all_rec : (fields : List Field)
      → All P (labels_of (ty.Rec fields)) ↔ All (λ field. P field.label × All P (labels_of field.ty)) fields
  all_rec fields = subst (λ labels. All P labels ↔ All (λ field. P field.label × All P (labels_of field.ty)) fields)
      (sym (labels_rec fields)) (
        (λ h. All-weaker _ _ (λ field. (all_field field).0) fields
            (in_each P (λ field. field.label ∷ labels_of field.ty) fields h)),
        (λ h. from_each P (λ field. field.label ∷ labels_of field.ty) fields
            (All-weaker _ _ (λ field. (all_field field).1) fields h)),
      )

-- ---- a test of all labels of a type, by one of those of its parts
module _ (P : List ℕ → Type 0) (t : Ty) (r : Bool) where
  abbrev Tests : Type 0 → Type 0
  Tests whole = IsTrue r ↔ whole

  through : (A : Type 0) → Tests A → All P (labels_of t) ↔ A → Tests (All P (labels_of t))
  through A told same = (λ e. same.1 (told.0 e), λ h. told.1 (same.0 h))

  pub told_con : (name : NameId) (ts given : List Ty) → t ≡ ty.Con name ts → given ≡ ts
      → Tests (All (λ part. All P (labels_of part)) given) → Tests (All P (labels_of t))
  told_con name ts given e f told =
      through (All (λ part. All P (labels_of part)) ts)
      (subst (λ parts. Tests (All (λ part. All P (labels_of part)) parts)) f told)
      (subst (λ z. All P (labels_of z) ↔ All (λ part. All P (labels_of part)) ts) (sym e) (all_con P name ts))

  pub told_tup : (ts given : List Ty) → t ≡ ty.Tup ts → given ≡ ts → Tests (All (λ part. All P (labels_of part)) given)
      → Tests (All P (labels_of t))
  told_tup ts given e f told =
      through (All (λ part. All P (labels_of part)) ts)
      (subst (λ parts. Tests (All (λ part. All P (labels_of part)) parts)) f told)
      (subst (λ z. All P (labels_of z) ↔ All (λ part. All P (labels_of part)) ts) (sym e) (all_tup P ts))

  pub told_rec : (fields given : List Field) → t ≡ ty.Rec fields → given ≡ fields
      → Tests (All (λ field. P field.label × All P (labels_of field.ty)) given) → Tests (All P (labels_of t))
  told_rec fields given e f told =
      through (All (λ field. P field.label × All P (labels_of field.ty)) fields)
      (subst (λ parts. Tests (All (λ field. P field.label × All P (labels_of field.ty)) parts)) f told)
      (subst (λ z. All P (labels_of z) ↔ All (λ field. P field.label × All P (labels_of field.ty)) fields) (sym e)
      (all_rec P fields))

  in_arrow : (a b : Ty) → t ≡ ty.Arrow a b → All P (labels_of t) ↔ (All P (labels_of a) × All P (labels_of b))
  in_arrow a b e = subst (λ z. All P (labels_of z) ↔ (All P (labels_of a) × All P (labels_of b))) (sym e)
      (all_arrow P a b)

  -- where the left side passed, by the right side
  pub told_arrow : (a b left right : Ty) (passed : Bool) → t ≡ ty.Arrow a b → left ≡ a → right ≡ b → passed ≡ true
      → IsTrue passed ↔ All P (labels_of left)
      → Tests (All P (labels_of right)) → Tests (All P (labels_of t))
  told_arrow a b left right passed e f g was first told =
      let h = subst (λ z. All P (labels_of z)) f (first.0 was) in
      let rest = subst (λ z. Tests (All P (labels_of z))) g told in
      (λ is. (in_arrow a b e).1 (h, rest.0 is), λ all. rest.1 ((in_arrow a b e).0 all).1)

  -- where it didn't
  pub told_left : (a b left : Ty) → t ≡ ty.Arrow a b → left ≡ a → r ≡ false → Tests (All P (labels_of left))
      → Tests (All P (labels_of t))
  told_left a b left e f was told = (
    λ is. absurd (true≢false (sym is ∙ was)),
    λ all. told.1 (subst (λ z. All P (labels_of z)) (sym f) ((in_arrow a b e).0 all).0),
  )
