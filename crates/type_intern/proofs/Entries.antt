-- Entries of maps, and keys of sets, with one more.
use Rattle.std.proofs.Common.{◌≡◌, ℕ, suc, zero, Bool, true, false, cond, if◌then◌else◌, List, [], ◌∷◌, ◌++◌, Some, None, length, slice_get, get_or, position, refl, sym, ap, ◌∙◌, inl, inr, true≢false}
use Rattle.std.proofs.lemmas.Option.{none-some, same_Some, slice_get-get_or}
use Rattle.std.proofs.lemmas.List.Quantifiers.{position-Some}
use Rattle.std.proofs.lemmas.Map.Keys.{any_passes_from_place}
use Rattle.std.specs.List.{list_any, position_or_len}
use Rattle.std.specs.Map.{keys_of, values_of, lookup}
use Rattle.indexmap.specs.IndexMap.{IndexMap, insert_entry}
use Rattle.indexmap.specs.IndexSet.{insert_key}
use Rattle.indexmap.proofs.CallerLemmas.{insert_entry-new}
use Rattle.indexmap.proofs.MapLemmas.{Missing-position}
use Rattle.type_intern.specs.Numbering.{Grows, StandsOnce}
use Rattle.type_intern.proofs.Places.{get_push, grows_itself, grows_push}

-- a list of keys after an insertion
module _ {K : Type 0} (eq : K → K → Bool) (itself : (k : K) → eq k k ≡ true) (ks : List K) (x : K) where
  pub key_grows : Grows ks (insert_key eq ks x)
  key_grows = by (list_any (eq x) ks)
    where
      by : (b : Bool) → Grows ks (if b then ks else ks ++ x ∷ [])
      by true = grows_itself ks
      by false = grows_push ks x

  pub key_once : StandsOnce ks → StandsOnce (insert_key eq ks x)
  key_once once = by (list_any (eq x) ks) refl
    where
      by : (b : Bool) → list_any (eq x) ks ≡ b → StandsOnce (if b then ks else ks ++ x ∷ [])
      by true e = once
      by false e = λ i j t p q. elim (get_push ks x i t p) [
        | inl u ↦ elim (get_push ks x j t q) [
          | inl v ↦ once i j t u v
          | inr v ↦ absurd (true≢false (sym (any_passes_from_place (eq x) ks i x (u ∙ ap Some (sym v.1)) (itself x)) ∙
              e))
        ]
        | inr u ↦ elim (get_push ks x j t q) [
          | inl v ↦ absurd (true≢false (sym (any_passes_from_place (eq x) ks j x (v ∙ ap Some (sym u.1)) (itself x)) ∙
              e))
          | inr v ↦ u.0 ∙ sym v.0
        ]
      ]

-- entries with one more
module _ {K V : Type 0} where
  pub keys_push : (es : List (K × V)) (n : K) (k : V) → keys_of (es ++ (n, k) ∷ []) ≡ keys_of es ++ n ∷ []
  keys_push [] n k = refl
  keys_push (e ∷ es) n k = ap (λ ns. e.0 ∷ ns) (keys_push es n k)

  pub values_pushed : (es : List (K × V)) (n : K) (k : V) → values_of (es ++ (n, k) ∷ []) ≡ values_of es ++ k ∷ []
  values_pushed [] n k = refl
  values_pushed (e ∷ es) n k = ap (λ ks. e.1 ∷ ks) (values_pushed es n k)

  pub length_keys : (es : List (K × V)) → length (keys_of es) ≡ length es
  length_keys [] = refl
  length_keys (e ∷ es) = ap suc (length_keys es)

  pub length_values : (es : List (K × V)) → length (values_of es) ≡ length es
  length_values [] = refl
  length_values (e ∷ es) = ap suc (length_values es)

  looked_up : (t : K → Bool) (es : List (K × V)) → lookup t es ≡ None → (i : ℕ) (n : K)
      → slice_get (keys_of es) i ≡ Some n → t n ≡ true → ⊥
  looked_up t [] none i n at passes = none-some n at
  looked_up t (e ∷ es) none i n at passes = by (t e.0) refl (λ rest j here. looked_up t es rest j n here passes) i at
    where
      by : (b : Bool) → t e.0 ≡ b → (lookup t es ≡ None → (j : ℕ) → slice_get (keys_of es) j ≡ Some n → ⊥) → (i : ℕ)
          → slice_get (keys_of (e ∷ es)) i ≡ Some n → ⊥
      by true p others i at = none-some e.1 (sym none ∙ ap (λ b. cond b (Some e.1) (lookup t es)) p)
      by false p others zero at = true≢false (sym passes ∙ ap t (sym (same_Some _ _ at)) ∙ p)
      by false p others (suc i) at = others (sym (ap (λ b. cond b (Some e.1) (lookup t es)) p) ∙ none) i at

-- a key that isn't there goes last
pub record Added {K V : Type 0} (eq : K → K → Bool) (es : List (K × V)) (n : K) (k : V) : Type 0 where
  pub entries : insert_entry eq es n k ≡ es ++ (n, k) ∷ []
  pub place : position_or_len (eq n) (keys_of es) ≡ length es
  pub absent : (i : ℕ) → slice_get (keys_of es) i ≡ Some n → ⊥

pub added : {K V S : Type 0} (eq : K → K → Bool) → ((n : K) → eq n n ≡ true) → (m : IndexMap K V S) (n : K) (k : V)
    → None ≡ position (eq n) (keys_of m.entries) → Added eq m.entries n k
added eq itself m n k none =
    let missing = Missing-position (eq n) m.entries (sym none) in
    record {
      entries = insert_entry-new eq m n k missing.value;
      place = missing.or_len;
      absent = λ i at. looked_up (eq n) m.entries missing.value i n at (itself n);
    }

pub found_at : {K : Type 0} (eq : K → K → Bool) → ((a b : K) → eq a b ≡ true → a ≡ b) → (ns : List K) (n : K) (i : ℕ)
    → Some i ≡ position (eq n) ns → slice_get ns i ≡ Some n
found_at eq same ns n i e =
    let found = position-Some (eq n) ns i n (sym e) in
    slice_get-get_or ns i n found.0 ∙ ap Some (sym (same n (get_or ns i n) found.1))
