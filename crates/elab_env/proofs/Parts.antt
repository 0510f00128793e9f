-- Functions of types that go through to their parts, and what is so of types where it is so of their parts.
use Rattle.std.proofs.Common.{◌≡◌, ◌&&◌, Bool, true, List, [], ◌∷◌, map, refl, sym, ap, ap₂, ◌∙◌}
use Rattle.std.proofs.lemmas.Bool.{and_parts, and_from}
use Rattle.type_core.specs.declared.ty.VarId.{VarId}
use Rattle.type_core.specs.declared.ty.NameId.{NameId}
use Rattle.type_core.specs.declared.ty.Ty.{Ty}
use Rattle.type_core.specs.declared.ty.Field.{Field}
use Rattle.type_core.specs.declared.ty.Ty.TheVariants as ty
use Rattle.type_core.specs.Lists.{all_true}
use Rattle.type_core.proofs.Trees.{AtField, EachOf, induct_type}

-- the field with its type changed
abbrev pub at_type : (Ty → Ty) → Field → Field
at_type f field = record { label = field.label; ty = f field.ty }

-- the function keeps records, tuples and arrows, and goes through to their parts
pub record GoesInside (f : Ty → Ty) : Type 0 where
  pub on_rec : (fields : List Field) → f (ty.Rec fields) ≡ ty.Rec (map (at_type f) fields)
  pub on_tup : (ts : List Ty) → f (ty.Tup ts) ≡ ty.Tup (map f ts)
  pub on_arrow : (a b : Ty) → f (ty.Arrow a b) ≡ ty.Arrow (f a) (f b)

-- where the test is passed, all parts pass it
pub record IsPartwise (test : Ty → Bool) : Type 0 where
  pub on_con : (name : NameId) (ts : List Ty) → test (ty.Con name ts) ≡ true → all_true (map test ts) ≡ true
  pub on_rec : (fields : List Field) → test (ty.Rec fields) ≡ true → all_true (map (λ field. test field.ty) fields) ≡ true
  pub on_tup : (ts : List Ty) → test (ty.Tup ts) ≡ true → all_true (map test ts) ≡ true
  pub on_arrow : (a b : Ty) → test (ty.Arrow a b) ≡ true → (test a && test b) ≡ true

-- where the parts of a type that passes the first test pass the second one after f, so does the type after f
pub record Collects (f : Ty → Ty) (first second : Ty → Bool) : Type 0 where
  pub on_rec : (fields : List Field) → first (ty.Rec fields) ≡ true → all_true (map (λ field. second (f field.ty)) fields) ≡ true → second (ty.Rec (map (at_type f) fields)) ≡ true
  pub on_tup : (ts : List Ty) → first (ty.Tup ts) ≡ true → all_true (map (λ t. second (f t)) ts) ≡ true → second (ty.Tup (map f ts)) ≡ true
  pub on_arrow : (a b : Ty) → second (f a) ≡ true → second (f b) ≡ true → second (ty.Arrow (f a) (f b)) ≡ true

pub map_map : {A B C : Type 0} (f : B → C) (g : A → B) (xs : List A) → map f (map g xs) ≡ map (λ x. f (g x)) xs
map_map f g [] = refl
map_map f g (x ∷ xs) = ap (λ ys. f (g x) ∷ ys) (map_map f g xs)

-- ---- two functions that agree
module _ (test : Ty → Bool) (f g : Ty → Ty) where
  abbrev Agrees : Ty → Type 0
  Agrees t = test t ≡ true → f t ≡ g t

  all_agree : (ts : List Ty) → EachOf Agrees ts → all_true (map test ts) ≡ true → map f ts ≡ map g ts
  all_agree [] hs e = refl
  all_agree (t ∷ ts) hs e = let p = and_parts _ _ e in ap₂ ◌∷◌ (hs.0 p.0) (all_agree ts hs.1 p.1)

  fields_agree : (fields : List Field) → EachOf (AtField Agrees) fields → all_true (map (λ field. test field.ty) fields) ≡ true → map (at_type f) fields ≡ map (at_type g) fields
  fields_agree [] hs e = refl
  fields_agree (field ∷ fields) hs e = let p = and_parts _ _ e in ap₂ ◌∷◌ (ap (λ t. let field' : Field = record { label = field.label; ty = t } in field') (hs.0 p.0)) (fields_agree fields hs.1 p.1)

  pub agree : IsPartwise test → GoesInside f → GoesInside g
      → ((v : VarId) → test (ty.Var v) ≡ true → f (ty.Var v) ≡ g (ty.Var v))
      → ((name : NameId) (ts : List Ty) → test (ty.Con name ts) ≡ true → map f ts ≡ map g ts → f (ty.Con name ts) ≡ g (ty.Con name ts))
      → (t : Ty) → test t ≡ true → f t ≡ g t
  agree parts inside inside' on_var on_con = induct_type Agrees on_var
      (λ name ts hs e. on_con name ts e (all_agree ts hs (parts.on_con name ts e)))
      (λ fields hs e. inside.on_rec fields ∙ ap ty.Rec (fields_agree fields hs (parts.on_rec fields e)) ∙ sym (inside'.on_rec fields))
      (λ ts hs e. inside.on_tup ts ∙ ap ty.Tup (all_agree ts hs (parts.on_tup ts e)) ∙ sym (inside'.on_tup ts))
      (λ a b p q e. let parts' = and_parts _ _ (parts.on_arrow a b e) in inside.on_arrow a b ∙ ap₂ ty.Arrow (p parts'.0) (q parts'.1) ∙ sym (inside'.on_arrow a b))

-- ---- what is so after a function
module _ (f : Ty → Ty) (first second : Ty → Bool) where
  abbrev Passes : Ty → Type 0
  Passes t = first t ≡ true → second (f t) ≡ true

  all_pass : (ts : List Ty) → EachOf Passes ts → all_true (map first ts) ≡ true → all_true (map (λ t. second (f t)) ts) ≡ true
  all_pass [] hs e = refl
  all_pass (t ∷ ts) hs e = let p = and_parts _ _ e in and_from _ _ (hs.0 p.0) (all_pass ts hs.1 p.1)

  fields_pass : (fields : List Field) → EachOf (AtField Passes) fields → all_true (map (λ field. first field.ty) fields) ≡ true → all_true (map (λ field. second (f field.ty)) fields) ≡ true
  fields_pass [] hs e = refl
  fields_pass (field ∷ fields) hs e = let p = and_parts _ _ e in and_from _ _ (hs.0 p.0) (fields_pass fields hs.1 p.1)

  pub passes : IsPartwise first → GoesInside f → Collects f first second
      → ((v : VarId) → first (ty.Var v) ≡ true → second (f (ty.Var v)) ≡ true)
      → ((name : NameId) (ts : List Ty) → first (ty.Con name ts) ≡ true → all_true (map (λ t. second (f t)) ts) ≡ true → second (f (ty.Con name ts)) ≡ true)
      → (t : Ty) → first t ≡ true → second (f t) ≡ true
  passes parts inside collects on_var on_con = induct_type Passes on_var
      (λ name ts hs e. on_con name ts e (all_pass ts hs (parts.on_con name ts e)))
      (λ fields hs e. ap second (inside.on_rec fields) ∙ collects.on_rec fields e (fields_pass fields hs (parts.on_rec fields e)))
      (λ ts hs e. ap second (inside.on_tup ts) ∙ collects.on_tup ts e (all_pass ts hs (parts.on_tup ts e)))
      (λ a b p q e. let parts' = and_parts _ _ (parts.on_arrow a b e) in ap second (inside.on_arrow a b) ∙ collects.on_arrow a b (p parts'.0) (q parts'.1))

-- ---- functions made of others
same_fields : (fields : List Field) → fields ≡ map (at_type (λ t. t)) fields
same_fields [] = refl
same_fields (field ∷ fields) = ap (λ rest. field ∷ rest) (same_fields fields)

same_types : (ts : List Ty) → ts ≡ map (λ (t : Ty). t) ts
same_types [] = refl
same_types (t ∷ ts) = ap (λ rest. t ∷ rest) (same_types ts)

pub nothing_inside : GoesInside (λ t. t)
nothing_inside = record { on_rec = λ fields. ap ty.Rec (same_fields fields); on_tup = λ ts. ap ty.Tup (same_types ts); on_arrow = λ a b. refl }

pub both_inside : (f g : Ty → Ty) → GoesInside f → GoesInside g → GoesInside (λ t. f (g t))
both_inside f g p q = record {
  on_rec = λ fields. ap f (q.on_rec fields) ∙ p.on_rec (map (at_type g) fields) ∙ ap ty.Rec (map_map (at_type f) (at_type g) fields);
  on_tup = λ ts. ap f (q.on_tup ts) ∙ p.on_tup (map g ts) ∙ ap ty.Tup (map_map f g ts);
  on_arrow = λ a b. ap f (q.on_arrow a b) ∙ p.on_arrow (g a) (g b);
}

both_all : {A : Type 0} (p q : A → Bool) (xs : List A) → all_true (map p xs) ≡ true → all_true (map q xs) ≡ true → all_true (map (λ x. p x && q x) xs) ≡ true
both_all p q [] d e = refl
both_all p q (x ∷ xs) d e = let h = and_parts _ _ d in let k = and_parts _ _ e in and_from _ _ (and_from _ _ h.0 k.0) (both_all p q xs h.1 k.1)

both_pairs : (a b c d : Bool) → (a && b) ≡ true → (c && d) ≡ true → ((a && c) && (b && d)) ≡ true
both_pairs a b c d p q = let h = and_parts a b p in let k = and_parts c d q in and_from (a && c) (b && d) (and_from a c h.0 k.0) (and_from b d h.1 k.1)

pub both_partwise : (p q : Ty → Bool) → IsPartwise p → IsPartwise q → IsPartwise (λ t. p t && q t)
both_partwise p q h k = record {
  on_con = λ name ts e. let i = and_parts _ _ e in both_all p q ts (h.on_con name ts i.0) (k.on_con name ts i.1);
  on_rec = λ fields e. let i = and_parts _ _ e in both_all (λ field. p field.ty) (λ field. q field.ty) fields (h.on_rec fields i.0) (k.on_rec fields i.1);
  on_tup = λ ts e. let i = and_parts _ _ e in both_all p q ts (h.on_tup ts i.0) (k.on_tup ts i.1);
  on_arrow = λ a b e. let i = and_parts _ _ e in both_pairs (p a) (p b) (q a) (q b) (h.on_arrow a b i.0) (k.on_arrow a b i.1);
}

all_anything : {A : Type 0} (xs : List A) → all_true (map (λ x. true) xs) ≡ true
all_anything [] = refl
all_anything (x ∷ xs) = all_anything xs

pub anything_partwise : IsPartwise (λ t. true)
anything_partwise = record {
  on_con = λ name ts e. all_anything ts;
  on_rec = λ fields e. all_anything fields;
  on_tup = λ ts e. all_anything ts;
  on_arrow = λ a b e. refl;
}
