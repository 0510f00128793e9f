-- What a set holds, by its keys: each key stands for a value, and equal keys for one value.
use Rattle.std.proofs.Common.{◌≡◌, ◌⊎◌, ℕ, ◌||◌, ◌&&◌, ◌↔◌, IsTrue, not, Bool, true, false, true≢false, inl, inr, List, [], ◌∷◌, map, nat_eq, Bor, refl, sym, ap, ap₂, ◌∙◌, subst, arith}
use Rattle.std.proofs.lemmas.List.Elements.{All-contains, All-cons, All-nil, Contains-append_cases, Contains-append_right, Contains-get_or}
use Rattle.std.proofs.lemmas.Bool.Decides.{Decides-and, Decides-eqb, Decides-like}
use Rattle.std.proofs.lemmas.Slice.Eq.{slice_eq-Decides}
use Rattle.std.specs.Bool.{Decides}
use Rattle.std.specs.Cmp.Lexicographic.{pointwise}
use Rattle.std.specs.List.{Contains, list_any}

module _ {K B : Type 0} (same : K → K → Bool) (value : K → B)
    (exact : (a b : K) → Decides (same a b) (value a ≡ value b)) where
  none : (y : B) → Contains [] y → ⊥
  none y h = All-contains (λ z. ⊥) [] y (All-nil _) h

  first : (x y : B) (ys : List B) → y ≡ x → Contains (x ∷ ys) y
  first x y ys e = subst (Contains (x ∷ ys)) (sym e) (Contains-get_or (x ∷ ys) 0 x (omega arith))

  one : (x y : B) → Contains (x ∷ []) y → y ≡ x
  one x y h = All-contains (λ z. z ≡ x) (x ∷ []) y (All-cons (λ z. z ≡ x) x [] refl (All-nil _)) h

  -- the test whether a key is held says whether its value is among those of the keys
  pub held : (k : K) (ks : List K) → Decides (list_any (same k) ks) (Contains (map value ks) (value k))
  held k [] = (λ e. absurd (true≢false (sym e)), λ h. absurd (none (value k) h))
  held k (x ∷ ks) = by (same k x) refl (held k ks)
    where
      by : (b : Bool) → same k x ≡ b → Decides (list_any (same k) ks) (Contains (map value ks) (value k))
          → Decides (b || list_any (same k) ks) (Contains (value x ∷ map value ks) (value k))
      by true is later = (λ e. first (value x) (value k) (map value ks) ((exact k x).0 is), λ h. refl)
      by false is later = (
        λ e. Contains-append_right (value x ∷ []) (map value ks) (value k) (later.0 e),
        λ h. further (Contains-append_cases (value x ∷ []) (map value ks) (value k) h),
      )
        where
          further : Contains (value x ∷ []) (value k) ⊎ Contains (map value ks) (value k) → list_any (same k) ks ≡ true
          further (inl h) = absurd (true≢false (sym ((exact k x).1 (one (value x) (value k) h)) ∙ is))
          further (inr h) = later.1 h

-- ---- texts, and texts with numbers
abbrev same_texts : Bor (List ℕ) → Bor (List ℕ) → Bool
same_texts a b = pointwise nat_eq a.now b.now

texts_told : (a b : Bor (List ℕ)) → Decides (same_texts a b) (a.now ≡ b.now)
texts_told a b = slice_eq-Decides Decides-eqb a.now b.now (same_texts a b) refl

pub text_held : (text : Bor (List ℕ)) (keys : List (Bor (List ℕ)))
    → Decides (list_any (same_texts text) keys) (Contains (map (λ key. key.now) keys) text.now)
text_held = held same_texts (λ key. key.now) texts_told

abbrev same_pairs : Bor (List ℕ) × ℕ → Bor (List ℕ) × ℕ → Bool
same_pairs a b = same_texts a.0 b.0 && nat_eq a.1 b.1

abbrev pair_of : Bor (List ℕ) × ℕ → List ℕ × ℕ
pair_of pair = (pair.0.now, pair.1)

pairs_told : (a b : Bor (List ℕ) × ℕ) → Decides (same_pairs a b) (pair_of a ≡ pair_of b)
pairs_told a b =
    Decides-like (same_pairs a b) (λ p. ap₂ (λ x y. (x, y)) p.0 p.1) (λ e. (ap (λ p. p.0) e, ap (λ p. p.1) e))
    (Decides-and (same_texts a.0 b.0) (nat_eq a.1 b.1) (texts_told a.0 b.0) (Decides-eqb a.1 b.1))

pub pair_held : (pair : Bor (List ℕ) × ℕ) (keys : List (Bor (List ℕ) × ℕ))
    → Decides (list_any (same_pairs pair) keys) (Contains (map pair_of keys) (pair_of pair))
pair_held = held same_pairs pair_of pairs_told

-- ---- what is told of an addition
-- it was new exactly where it wasn't held
pub absent : (known new : Bool) (P : Type 0) → new ≡ not known → Decides known P → IsTrue new ↔ ¬ P
absent true new P e d = (λ n p. absurd (true≢false (sym n ∙ e)), λ no. absurd (no (d.0 refl)))
absent false new P e d = (λ n p. absurd (true≢false (sym (d.1 p))), λ no. e)
