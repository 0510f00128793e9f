-- What a map holds after one more key.
use Rattle.std.proofs.Common.{◌≡◌, ℕ, Bool, true, false, if◌then◌else◌, List, Some, bytes_eq, refl, sym, ap, ◌∙◌}
use Rattle.std.proofs.lemmas.Slice.Eq.{bytes_eq-Decides}
use Rattle.std.specs.HashMap.{HashMap, UpdatesBy, get_by}
use Rattle.std.specs.Map.{AreApart, IsKeyTest, KeepsOthers, lookup}

module _ {V : Type 0} (items : V → List ℕ) where
  abbrev holds : List ℕ → V → Bool
  holds text key = bytes_eq text (items key)

  abbrev same_keys : V → V → Bool
  same_keys a b = holds (items a) b

  one_key : (text : List ℕ) → IsKeyTest same_keys (holds text)
  one_key text a b is = ap (λ t. holds t b) ((bytes_eq-Decides text (items a)).0 is)

  apart : (text : List ℕ) (key : V) → holds text key ≡ false → AreApart (same_keys key) (holds text)
  apart text key differs other same = sym (ap (bytes_eq text) ((bytes_eq-Decides (items key) (items other)).0 same)) ∙ differs

  kept : {X : Type 0} (old new : List (V × X)) (test other : V → Bool) → KeepsOthers same_keys test old new → IsKeyTest same_keys other → AreApart test other → lookup other new ≡ lookup other old
  unfolding KeepsOthers
  kept old new test other h k a = h other k a

  -- the value of each text after a key of this text was given one
  pub held_after : {X S : Type 0} (old new : HashMap V X S) (key : V) (text : List ℕ) (value : X) → items key ≡ text → UpdatesBy same_keys (same_keys key) old new (Some value)
      → (other : List ℕ) → get_by (holds other) new ≡ (if bytes_eq other text then Some value else get_by (holds other) old)
  held_after old new key text value is updates other = by_case (bytes_eq other text) refl
    where
      by_case : (same : Bool) → bytes_eq other text ≡ same → get_by (holds other) new ≡ (if same then Some value else get_by (holds other) old)
      by_case true same = ap (λ t. get_by (holds t) new) ((bytes_eq-Decides other text).0 same ∙ sym is) ∙ updates.1
      by_case false differs = kept _ _ (same_keys key) (holds other) updates.3 (one_key other) (apart other key (ap (bytes_eq other) is ∙ differs))
