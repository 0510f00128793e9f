-- Environments in which no identifier stands twice, one after the other.
use Rattle.std.proofs.Common.{◌≡◌, ◌⊎◌, inl, inr, ℕ, zero, suc, ◌+◌, Bool, true, false, not, is_some, if◌then◌else◌, bytes_eq, List, [], ◌∷◌, ◌++◌, length, slice_get, Option, Some, None, refl, sym, ap, ap₂, ◌∙◌, subst, arith}
use Rattle.std.specs.Option.{option_and_then, option_map, option_or}
use Rattle.std.proofs.lemmas.Bool.{and_from, and_parts}
use Rattle.std.proofs.lemmas.Cmp.{nat_list_eq_equiv}
use Rattle.elab_rules.specs.declared.entry.Entry.{Entry, out-Entry}
use Rattle.elab_rules.specs.declared.entry.Entry.TheOpen.{Entry-F, Tycon, Value, Structure}
use Rattle.elab_rules.specs.Distinct.{AreDistinct, IsFirst, is_like}
use Rattle.elab_rules.specs.Environments.{Environment, is_new_structure, is_structure, is_type, is_value, structure_at, structure_in, structure_of, the_structure, type_at, value_at}
use Rattle.elab_types.specs.Finding.{first_given, none_of, place_of}
use Rattle.elab_rules.specs.LongIdentifiers.{structure_along}
use Rattle.elab_rules.specs.Specifications.{are_new, is_new_step}
use Rattle.elab_rules.proofs.Entries.{out_structure}
use Rattle.elab_types.proofs.FirstPlaces.{none_by_place}

-- ---- one level at a time
pub distinct_level : (env : Environment) (n : ℕ) (entry : Entry) → AreDistinct env → slice_get env n ≡ Some entry → IsFirst n env (out-Entry entry)
distinct_level env n entry h at = h [] env n entry refl at

pub distinct_inner : (env : Environment) (id : List ℕ) (entries : Environment) → AreDistinct env → structure_in id env ≡ Some entries → AreDistinct entries
distinct_inner env id entries h here ids es n entry along at = h (id ∷ ids) es n entry (ap (option_and_then (structure_along ids)) here ∙ along) at

pub distinct_from : (env : Environment) → ((n : ℕ) (entry : Entry) → slice_get env n ≡ Some entry → IsFirst n env (out-Entry entry))
    → ((id : List ℕ) (entries : Environment) → structure_in id env ≡ Some entries → AreDistinct entries) → AreDistinct env
distinct_from env level below [] es n entry along at =
    let here : env ≡ es = cc in
    subst (λ xs. IsFirst n xs (out-Entry entry)) here (level n entry (ap (λ xs. slice_get xs n) here ∙ at))
distinct_from env level below (id ∷ ids) es n entry along at = by_case (structure_in id env) refl along
  where
    by_case : (o : Option Environment) → structure_in id env ≡ o → option_and_then (structure_along ids) o ≡ Some es → IsFirst n es (out-Entry entry)
    by_case None here along = cc
    by_case (Some inner) here along = below id inner here ids es n entry along at

pub distinct_nothing : AreDistinct []
distinct_nothing = distinct_from [] (λ n entry at. cc) (λ id entries here. cc)

-- ---- one list after the other
or_assoc : {A : Type 0} (o p q : Option A) → option_or o (option_or p q) ≡ option_or (option_or o p) q
or_assoc None p q = refl
or_assoc (Some a) p q = refl

pub given_appended : {A B : Type 0} (given : A → Option B) (xs ys : List A) → first_given given (xs ++ ys) ≡ option_or (first_given given xs) (first_given given ys)
given_appended given [] ys = refl
given_appended given (x ∷ xs) ys = ap (option_or (given x)) (given_appended given xs ys) ∙ or_assoc (given x) (first_given given xs) (first_given given ys)

map_itself : (f : ℕ → ℕ) → ((n : ℕ) → f n ≡ n) → (o : Option ℕ) → option_map f o ≡ o
map_itself f e None = refl
map_itself f e (Some n) = ap (λ m. Some m) (e n)

pub place_appended : {A : Type 0} (test : A → Bool) (xs ys : List A) → place_of test (xs ++ ys) ≡ option_or (place_of test xs) (option_map (λ n. length xs + n) (place_of test ys))
place_appended test [] ys = sym (map_itself (λ n. zero + n) (λ n. omega arith) (place_of test ys))
place_appended test (x ∷ xs) ys = ap (λ o. if test x then Some 0 else option_map (λ n. suc n) o) (place_appended test xs ys) ∙ by_case (test x) (place_of test xs)
  where
    mapped : (o : Option ℕ) → option_map (λ n. suc n) (option_map (λ n. length xs + n) o) ≡ option_map (λ n. length (x ∷ xs) + n) o
    mapped None = refl
    mapped (Some n) = ap (λ m. Some m) (let e : suc (length xs + n) ≡ suc (length xs) + n = omega arith in e)

    by_case : (b : Bool) (p : Option ℕ) → (if b then Some 0 else option_map (λ n. suc n) (option_or p (option_map (λ n. length xs + n) (place_of test ys))))
        ≡ option_or (if b then Some 0 else option_map (λ n. suc n) p) (option_map (λ n. length (x ∷ xs) + n) (place_of test ys))
    by_case true p = refl
    by_case false None = mapped (place_of test ys)
    by_case false (Some n) = refl

-- what stands in one list or in the other
pub either_at : {A : Type 0} (xs ys : List A) (n : ℕ) (y : A) → slice_get (xs ++ ys) n ≡ Some y → (slice_get xs n ≡ Some y) ⊎ ((m : ℕ) × ((n ≡ length xs + m) × (slice_get ys m ≡ Some y)))
either_at [] ys n y at = inr (n, (omega arith, at))
either_at (x ∷ xs) ys zero y at = inl at
either_at (x ∷ xs) ys (suc n) y at = elim (either_at xs ys n y at) [
  | inl here ↦ inl here
  | inr later ↦ inr (later.0, (omega (arith, later.1.0), later.1.1))
]

-- ---- the first of its identifier
first_stays : (xs ys : Environment) (n : ℕ) (x : Entry-F Entry) → IsFirst n xs x → IsFirst n (xs ++ ys) x
first_stays xs ys n x h = place_appended (is_like x) xs ys ∙ ap (λ o. option_or o (option_map (λ m. length xs + m) (place_of (is_like x) ys))) h

no_place : (o : Option ℕ) → not (is_some o) ≡ true → o ≡ None
no_place None e = refl
no_place (Some n) e = cc

nowhere : {A : Type 0} (test : A → Bool) (xs : List A) → none_of test xs ≡ true → place_of test xs ≡ None
nowhere test xs e = no_place (place_of test xs) (sym (none_by_place test xs) ∙ e)

later_first : {A : Type 0} (test : A → Bool) (xs ys : List A) (m : ℕ) → none_of test xs ≡ true → place_of test ys ≡ Some m → place_of test (xs ++ ys) ≡ Some (length xs + m)
later_first test xs ys m new at = place_appended test xs ys ∙ ap₂ (λ o p. option_or o (option_map (λ n. length xs + n) p)) (nowhere test xs new) at

first_later : (xs ys : Environment) (m : ℕ) (x : Entry-F Entry) → is_new_step xs x ≡ true → IsFirst m ys x → IsFirst (length xs + m) (xs ++ ys) x
first_later xs ys m (Tycon type) new h = later_first (is_type type.id) xs ys m new h
first_later xs ys m (Value value) new h = later_first (is_value value.id) xs ys m new h
first_later xs ys m (Structure id es) new h = later_first (is_structure id) xs ys m new h

new_at : (more own : Environment) (m : ℕ) (entry : Entry) → are_new more own ≡ true → slice_get more m ≡ Some entry → is_new_step own (out-Entry entry) ≡ true
new_at [] own m entry new at = cc
new_at (e ∷ more) own zero entry new at = let same : e ≡ entry = cc in ap (λ x. is_new_step own (out-Entry x)) (sym same) ∙ (and_parts (is_new_step own (out-Entry e)) _ new).0
new_at (e ∷ more) own (suc m) entry new at = new_at more own m entry (and_parts (is_new_step own (out-Entry e)) _ new).1 at

-- ---- an environment with further entries, all of which are new
pub distinct_appended : (own more : Environment) → AreDistinct own → AreDistinct more → are_new more own ≡ true → AreDistinct (own ++ more)
distinct_appended own more h k new = distinct_from (own ++ more) level below
  where
    level : (n : ℕ) (entry : Entry) → slice_get (own ++ more) n ≡ Some entry → IsFirst n (own ++ more) (out-Entry entry)
    level n entry at = elim (either_at own more n entry at) [
      | inl here ↦ first_stays own more n (out-Entry entry) (distinct_level own n entry h here)
      | inr later ↦ subst (λ m. IsFirst m (own ++ more) (out-Entry entry)) (sym later.1.0)
          (first_later own more later.0 (out-Entry entry) (new_at more own later.0 entry new later.1.1) (distinct_level more later.0 entry k later.1.1))
    ]

    below : (id : List ℕ) (entries : Environment) → structure_in id (own ++ more) ≡ Some entries → AreDistinct entries
    below id entries here = by_case (structure_in id own) refl (sym (given_appended (structure_of id) own more) ∙ here)
      where
        by_case : (o : Option Environment) → structure_in id own ≡ o → option_or o (structure_in id more) ≡ Some entries → AreDistinct entries
        by_case None is e = distinct_inner more id entries k e
        by_case (Some es) is e = distinct_inner own id entries h (is ∙ e)

-- ---- one entry, what it has being distinct
pub distinct_one : (e : Entry) → ((id : List ℕ) (entries : Environment) → structure_of id e ≡ Some entries → AreDistinct entries) → AreDistinct (e ∷ [])
distinct_one e inner = distinct_from (e ∷ []) level below
  where
    or_none : (o : Option Environment) → option_or o None ≡ o
    or_none None = refl
    or_none (Some es) = refl

    by_form : (x : Entry-F Entry) → out-Entry e ≡ x → IsFirst 0 (e ∷ []) x
    by_form (Tycon type) is = ap (λ y. if is_some (type_at type.id y) then Some 0 else None) is ∙ ap (λ b. if is_some (if b then Some type else None) then Some 0 else None) (nat_list_eq_equiv.refl type.id)
    by_form (Value value) is = ap (λ y. if is_some (value_at value.id y) then Some 0 else None) is ∙ ap (λ b. if is_some (if b then Some value else None) then Some 0 else None) (nat_list_eq_equiv.refl value.id)
    by_form (Structure id es) is = ap (λ y. if is_some (structure_at id y) then Some 0 else None) is ∙ ap (λ b. if is_some (if b then Some es else None) then Some 0 else None) (nat_list_eq_equiv.refl id)

    level : (n : ℕ) (entry : Entry) → slice_get (e ∷ []) n ≡ Some entry → IsFirst n (e ∷ []) (out-Entry entry)
    level zero entry at = let same : e ≡ entry = cc in subst (λ x. IsFirst 0 (e ∷ []) (out-Entry x)) same (by_form (out-Entry e) refl)
    level (suc n) entry at = cc

    below : (id : List ℕ) (entries : Environment) → structure_in id (e ∷ []) ≡ Some entries → AreDistinct entries
    below id entries here = inner id entries (sym (or_none (structure_of id e)) ∙ here)

pub distinct_more : (own : Environment) (e : Entry) → AreDistinct own → is_new_step own (out-Entry e) ≡ true → ((id : List ℕ) (entries : Environment) → structure_of id e ≡ Some entries → AreDistinct entries) → AreDistinct (own ++ e ∷ [])
distinct_more own e h new inner = distinct_appended own (e ∷ []) h (distinct_one e inner) (and_from _ _ new refl)

-- ---- one structure, what it has being distinct
pub new_structure_step : (own : Environment) (name : List ℕ) (entries : Environment) → is_new_structure name own ≡ true → is_new_step own (out-Entry (the_structure name entries)) ≡ true
new_structure_step own name entries new = ap (is_new_step own) (out_structure name entries) ∙ new

pub distinct_inside : (name : List ℕ) (inner : Environment) → AreDistinct inner → (id : List ℕ) (entries : Environment) → structure_of id (the_structure name inner) ≡ Some entries → AreDistinct entries
distinct_inside name inner h id entries is = by_case (bytes_eq id name) (sym (ap (structure_at id) (out_structure name inner)) ∙ is)
  where
    by_case : (same : Bool) → (if same then Some inner else None) ≡ Some entries → AreDistinct entries
    by_case true e = let here : inner ≡ entries = cc in subst AreDistinct here h
    by_case false e = cc
