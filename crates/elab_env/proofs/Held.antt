-- What is held for external names after one more name.
use Rattle.std.proofs.Common.{◌≡◌, ℕ, ◌==◌, ◌&&◌, Bool, true, false, if◌then◌else◌, List, Option, Some, None, bytes_eq, refl, sym, ap, ap₂, ◌∙◌, arith}
use Rattle.std.proofs.lemmas.Bool.{and_parts, eqb-true}
use Rattle.std.proofs.lemmas.Slice.Eq.{bytes_eq-Decides}
use Rattle.std.specs.HashMap.{HashMap, UpdatesBy, get_by}
use Rattle.std.specs.Map.{AreApart, IsKeyTest, KeepsOthers, lookup}
use Rattle.type_core.specs.declared.names.TypeName.{TypeName}
use Rattle.elab_env.specs.Externals.{number_with}

-- ---- the first external name of its path and arity
pub new_number : (name : TypeName) (n : ℕ) (path : List ℕ) (arity : ℕ) (o : Option ℕ) → name.external ≡ true
    → (((arity == name.arity) && bytes_eq path name.path) ≡ true → o ≡ None)
    → (if (arity == name.arity) && bytes_eq path name.path then Some n else o) ≡ number_with name n path arity o
new_number name n path arity (Some m) e h = by_same ((arity == name.arity) && bytes_eq path name.path) h
  where
    by_same : (b : Bool) → (b ≡ true → Some m ≡ None) → (if b then Some n else Some m) ≡ Some m
    by_same true h = absurd (let clash : ⊥ = grind (arith, h refl) in clash)
    by_same false h = refl
new_number name n path arity None e h = sym (ap (λ b. if b && ((arity == name.arity) && bytes_eq path name.path) then Some n else None) e)

-- ---- one key changed
module _ {V : Type 0} (items : V → List ℕ) where
  abbrev Key : Type 0
  Key = ℕ × V

  -- the test by which a path and an arity are looked up
  abbrev looks_up : List ℕ → ℕ → Key → Bool
  looks_up path arity key = (arity == key.0) && bytes_eq path (items key.1)

  abbrev same_keys : Key → Key → Bool
  same_keys x y = looks_up (items x.1) x.0 y

  is_looked_up : (path : List ℕ) (arity : ℕ) (key : Key) → looks_up path arity key ≡ true → (arity ≡ key.0) × (path ≡ items key.1)
  is_looked_up path arity key e = let p = and_parts (arity == key.0) _ e in (eqb-true arity key.0 p.0, (bytes_eq-Decides path (items key.1)).0 p.1)

  one_key : (path : List ℕ) (arity : ℕ) → IsKeyTest same_keys (looks_up path arity)
  one_key path arity x y e = let p = is_looked_up path arity x e in ap₂ (λ a bs. looks_up bs a y) p.0 p.1

  apart : (path : List ℕ) (arity : ℕ) (key : Key) → looks_up path arity key ≡ false → AreApart (same_keys key) (looks_up path arity)
  apart path arity key e other s = let p = is_looked_up (items key.1) key.0 other s in sym (ap₂ (λ a bs. (arity == a) && bytes_eq path bs) p.0 p.1) ∙ e

  others_kept : {X : Type 0} (old new : List (Key × X)) (test other : Key → Bool) → KeepsOthers same_keys test old new → IsKeyTest same_keys other → AreApart test other → lookup other new ≡ lookup other old
  unfolding KeepsOthers
  others_kept old new test other h k a = h other k a

  -- what is held after a key was given a value
  pub held_after : {X S : Type 0} (m n : HashMap Key X S) (key : Key) (value : X) → UpdatesBy same_keys (same_keys key) m n (Some value)
      → (path : List ℕ) (arity : ℕ) → get_by (looks_up path arity) n ≡ (if (arity == key.0) && bytes_eq path (items key.1) then Some value else get_by (looks_up path arity) m)
  held_after m n key value h path arity = by_same (looks_up path arity key) refl
    where
      by_same : (b : Bool) → looks_up path arity key ≡ b → get_by (looks_up path arity) n ≡ (if b then Some value else get_by (looks_up path arity) m)
      by_same true e = let p = is_looked_up path arity key e in ap₂ (λ a bs. get_by (looks_up bs a) n) p.0 p.1 ∙ h.1
      by_same false e = others_kept _ _ (same_keys key) (looks_up path arity) h.3 (one_key path arity) (apart path arity key e)

  -- what is held after the number of an external name was, for which there was none
  pub added_after : {S : Type 0} (name : TypeName) (n : ℕ) (old new : HashMap Key ℕ S) (v : V) → items v ≡ name.path → name.external ≡ true
      → get_by (looks_up name.path name.arity) old ≡ None → UpdatesBy same_keys (same_keys (name.arity, v)) old new (Some n)
      → (path : List ℕ) (arity : ℕ) → get_by (looks_up path arity) new ≡ number_with name n path arity (get_by (looks_up path arity) old)
  added_after name n old new v text external none updates path arity =
      held_after old new (name.arity, v) n updates path arity
      ∙ ap (λ bs. if (arity == name.arity) && bytes_eq path bs then Some n else get_by (looks_up path arity) old) text
      ∙ new_number name n path arity (get_by (looks_up path arity) old) external
      (λ same. let p = and_parts (arity == name.arity) (bytes_eq path name.path) same in
      ap₂ (λ a bs. get_by (looks_up bs a) old) (eqb-true arity name.arity p.0) ((bytes_eq-Decides path name.path).0 p.1) ∙ none)
