-- What renaming does to a type and to its variables.
use Rattle.std.proofs.Common.{◌≡◌, ◌≤◌, true, List, [], ◌∷◌, ◌++◌, map, length, refl, sym, ap, ap₂, ◌∙◌, subst, arith}
use Rattle.std.proofs.lemmas.List.{map-append, length-append}
use Rattle.type_core.specs.declared.ty.VarId.{VarId}
use Rattle.type_core.specs.declared.ty.Ty.{Ty}
use Rattle.type_core.specs.declared.ty.Field.{Field}
use Rattle.type_core.specs.declared.ty.Ty.TheVariants as ty
use Rattle.type_core.specs.Lists.{concatenated, sum_of}
use Rattle.type_core.specs.Renaming.{Renaming, renamed, field_renamed}
use Rattle.type_core.specs.Size.{size_of, field_size}
use Rattle.type_core.specs.Variables.{by_first_occurrence, variables, field_variables, occurs}
use Rattle.type_core.proofs.Places.{meet_all_length, occurs_here, occurs_left, occurs_right}
use Rattle.type_core.proofs.Trees.{EachOf, AtField, induct_type, variables_var, variables_con, variables_rec, variables_tup, variables_arrow, variables_field, renamed_var, renamed_con, renamed_rec, renamed_tup, renamed_arrow, renamed_field, size_var, size_con, size_rec, size_tup, size_arrow, size_field}

pub field_eq : (f g : Field) → f.label ≡ g.label → f.ty ≡ g.ty → f ≡ g
field_eq f g e h = λ i. record { label = e i; ty = h i }

-- its variables are renamed
module _ (r : Renaming) where
  abbrev Follows : Ty → Type 0
  Follows t = variables (renamed r t) ≡ map r (variables t)

  all_follow : (ts : List Ty) → EachOf Follows ts → concatenated (map variables (map (renamed r) ts)) ≡ map r (concatenated (map variables ts))
  all_follow [] ihs = refl
  all_follow (t ∷ ts) ihs = ap₂ ◌++◌ ihs.0 (all_follow ts ihs.1) ∙ sym (map-append r (variables t) (concatenated (map variables ts)))

  field_follows : (f : Field) → Follows f.ty → field_variables (field_renamed r f) ≡ map r (field_variables f)
  field_follows f ih = ap field_variables (renamed_field r f) ∙ variables_field (record { label = f.label; ty = renamed r f.ty }) ∙ ih ∙ sym (ap (map r) (variables_field f))

  fields_follow : (fs : List Field) → EachOf (AtField Follows) fs → concatenated (map field_variables (map (field_renamed r) fs)) ≡ map r (concatenated (map field_variables fs))
  fields_follow [] ihs = refl
  fields_follow (f ∷ fs) ihs = ap₂ ◌++◌ (field_follows f ihs.0) (fields_follow fs ihs.1) ∙ sym (map-append r (field_variables f) (concatenated (map field_variables fs)))

  pub variables_renamed : (t : Ty) → variables (renamed r t) ≡ map r (variables t)
  variables_renamed = induct_type Follows
      (λ v. ap variables (renamed_var r v) ∙ variables_var (r v) ∙ sym (ap (map r) (variables_var v)))
      (λ name ts ihs. ap variables (renamed_con r name ts) ∙ variables_con name _ ∙ all_follow ts ihs ∙ sym (ap (map r) (variables_con name ts)))
      (λ fs ihs. ap variables (renamed_rec r fs) ∙ variables_rec _ ∙ fields_follow fs ihs ∙ sym (ap (map r) (variables_rec fs)))
      (λ ts ihs. ap variables (renamed_tup r ts) ∙ variables_tup _ ∙ all_follow ts ihs ∙ sym (ap (map r) (variables_tup ts)))
      (λ a b p q. ap variables (renamed_arrow r a b) ∙ variables_arrow _ _ ∙ ap₂ ◌++◌ p q ∙ sym (map-append r (variables a) (variables b)) ∙ sym (ap (map r) (variables_arrow a b)))

-- it depends on the renaming at its variables only
module _ (g h : Renaming) where
  abbrev AgreeAt : List VarId → Type 0
  AgreeAt vs = (v : VarId) → occurs v vs ≡ true → g v ≡ h v

  abbrev IsSame : Ty → Type 0
  IsSame t = AgreeAt (variables t) → renamed g t ≡ renamed h t

  agree_left : (vs ws : List VarId) → AgreeAt (vs ++ ws) → AgreeAt vs
  agree_left vs ws p v o = p v (occurs_left v vs ws o)

  agree_right : (vs ws : List VarId) → AgreeAt (vs ++ ws) → AgreeAt ws
  agree_right vs ws p v o = p v (occurs_right v vs ws o)

  all_same : (ts : List Ty) → EachOf IsSame ts → AgreeAt (concatenated (map variables ts)) → map (renamed g) ts ≡ map (renamed h) ts
  all_same [] ihs p = refl
  all_same (t ∷ ts) ihs p = ap₂ ◌∷◌ (ihs.0 (agree_left (variables t) _ p)) (all_same ts ihs.1 (agree_right (variables t) _ p))

  field_same : (f : Field) → IsSame f.ty → AgreeAt (field_variables f) → field_renamed g f ≡ field_renamed h f
  field_same f ih p = renamed_field g f ∙ field_eq _ _ refl (ih (subst AgreeAt (variables_field f) p)) ∙ sym (renamed_field h f)

  fields_same : (fs : List Field) → EachOf (AtField IsSame) fs → AgreeAt (concatenated (map field_variables fs)) → map (field_renamed g) fs ≡ map (field_renamed h) fs
  fields_same [] ihs p = refl
  fields_same (f ∷ fs) ihs p = ap₂ ◌∷◌ (field_same f ihs.0 (agree_left (field_variables f) _ p)) (fields_same fs ihs.1 (agree_right (field_variables f) _ p))

  pub renamed_alike : (t : Ty) → AgreeAt (variables t) → renamed g t ≡ renamed h t
  renamed_alike = induct_type IsSame
      (λ v p. renamed_var g v ∙ ap ty.Var (subst AgreeAt (variables_var v) p v (occurs_here v [])) ∙ sym (renamed_var h v))
      (λ name ts ihs p. renamed_con g name ts ∙ ap (ty.Con name) (all_same ts ihs (subst AgreeAt (variables_con name ts) p)) ∙ sym (renamed_con h name ts))
      (λ fs ihs p. renamed_rec g fs ∙ ap ty.Rec (fields_same fs ihs (subst AgreeAt (variables_rec fs) p)) ∙ sym (renamed_rec h fs))
      (λ ts ihs p. renamed_tup g ts ∙ ap ty.Tup (all_same ts ihs (subst AgreeAt (variables_tup ts) p)) ∙ sym (renamed_tup h ts))
      (λ a b x y p. renamed_arrow g a b
      ∙ ap₂ ty.Arrow (x (agree_left (variables a) (variables b) (subst AgreeAt (variables_arrow a b) p))) (y (agree_right (variables a) (variables b) (subst AgreeAt (variables_arrow a b) p)))
      ∙ sym (renamed_arrow h a b))

-- one renaming after another
module _ (g f : Renaming) where
  abbrev composed : Renaming
  composed v = g (f v)

  abbrev Composes : Ty → Type 0
  Composes t = renamed g (renamed f t) ≡ renamed composed t

  all_compose : (ts : List Ty) → EachOf Composes ts → map (renamed g) (map (renamed f) ts) ≡ map (renamed composed) ts
  all_compose [] ihs = refl
  all_compose (t ∷ ts) ihs = ap₂ ◌∷◌ ihs.0 (all_compose ts ihs.1)

  field_composes : (x : Field) → Composes x.ty → field_renamed g (field_renamed f x) ≡ field_renamed composed x
  field_composes x ih = ap (field_renamed g) (renamed_field f x) ∙ renamed_field g (record { label = x.label; ty = renamed f x.ty }) ∙ field_eq _ _ refl ih ∙ sym (renamed_field composed x)

  fields_compose : (xs : List Field) → EachOf (AtField Composes) xs → map (field_renamed g) (map (field_renamed f) xs) ≡ map (field_renamed composed) xs
  fields_compose [] ihs = refl
  fields_compose (x ∷ xs) ihs = ap₂ ◌∷◌ (field_composes x ihs.0) (fields_compose xs ihs.1)

  pub renamed_renamed : (t : Ty) → renamed g (renamed f t) ≡ renamed (λ v. g (f v)) t
  renamed_renamed = induct_type Composes
      (λ v. ap (renamed g) (renamed_var f v) ∙ renamed_var g (f v) ∙ sym (renamed_var composed v))
      (λ name ts ihs. ap (renamed g) (renamed_con f name ts) ∙ renamed_con g name _ ∙ ap (ty.Con name) (all_compose ts ihs) ∙ sym (renamed_con composed name ts))
      (λ xs ihs. ap (renamed g) (renamed_rec f xs) ∙ renamed_rec g _ ∙ ap ty.Rec (fields_compose xs ihs) ∙ sym (renamed_rec composed xs))
      (λ ts ihs. ap (renamed g) (renamed_tup f ts) ∙ renamed_tup g _ ∙ ap ty.Tup (all_compose ts ihs) ∙ sym (renamed_tup composed ts))
      (λ a b p q. ap (renamed g) (renamed_arrow f a b) ∙ renamed_arrow g _ _ ∙ ap₂ ty.Arrow p q ∙ sym (renamed_arrow composed a b))

-- the renaming that changes nothing
abbrev pub kept : Renaming
kept v = v

abbrev IsKept : Ty → Type 0
IsKept t = renamed kept t ≡ t

all_kept : (ts : List Ty) → EachOf IsKept ts → map (renamed kept) ts ≡ ts
all_kept [] ihs = refl
all_kept (t ∷ ts) ihs = ap₂ ◌∷◌ ihs.0 (all_kept ts ihs.1)

fields_kept : (fs : List Field) → EachOf (AtField IsKept) fs → map (field_renamed kept) fs ≡ fs
fields_kept [] ihs = refl
fields_kept (f ∷ fs) ihs = ap₂ ◌∷◌ (renamed_field kept f ∙ field_eq _ f refl ihs.0) (fields_kept fs ihs.1)

pub renamed_kept : (t : Ty) → renamed (λ v. v) t ≡ t
renamed_kept = induct_type IsKept
    (λ v. renamed_var kept v)
    (λ name ts ihs. renamed_con kept name ts ∙ ap (ty.Con name) (all_kept ts ihs))
    (λ fs ihs. renamed_rec kept fs ∙ ap ty.Rec (fields_kept fs ihs))
    (λ ts ihs. renamed_tup kept ts ∙ ap ty.Tup (all_kept ts ihs))
    (λ a b p q. renamed_arrow kept a b ∙ ap₂ ty.Arrow p q)

-- a type has no more variables than nodes, however often they occur
abbrev IsBounded : Ty → Type 0
IsBounded t = length (variables t) ≤ size_of t

all_bounded : (ts : List Ty) → EachOf IsBounded ts → length (concatenated (map variables ts)) ≤ sum_of (map size_of ts)
all_bounded [] ihs = omega arith
all_bounded (t ∷ ts) ihs = omega (arith, length-append (variables t) (concatenated (map variables ts)), ihs.0, all_bounded ts ihs.1)

fields_bounded : (fs : List Field) → EachOf (AtField IsBounded) fs → length (concatenated (map field_variables fs)) ≤ sum_of (map field_size fs)
fields_bounded [] ihs = omega arith
fields_bounded (f ∷ fs) ihs = omega (arith, length-append (field_variables f) (concatenated (map field_variables fs)), ap length (variables_field f), size_field f, ihs.0, fields_bounded fs ihs.1)

occurrences_bounded : (t : Ty) → length (variables t) ≤ size_of t
occurrences_bounded = induct_type IsBounded
    (λ v. omega (arith, ap length (variables_var v), size_var v))
    (λ name ts ihs. omega (arith, ap length (variables_con name ts), size_con name ts, all_bounded ts ihs))
    (λ fs ihs. omega (arith, ap length (variables_rec fs), size_rec fs, fields_bounded fs ihs))
    (λ ts ihs. omega (arith, ap length (variables_tup ts), size_tup ts, all_bounded ts ihs))
    (λ a b p q. omega (arith, ap length (variables_arrow a b), length-append (variables a) (variables b), size_arrow a b, p, q))

pub variables_bounded : (t : Ty) → length (by_first_occurrence t) ≤ size_of t
variables_bounded t = omega (arith, meet_all_length [] (variables t), occurrences_bounded t)
