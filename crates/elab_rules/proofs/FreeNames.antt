-- The free names among so many from a number on, one number after the other.
use Rattle.std.proofs.Common.{◌≡◌, ℕ, zero, suc, ◌+◌, ◌≤◌, ◌&&◌, Bool, true, false, not, if◌then◌else◌, List, [], ◌∷◌, ◌++◌, length, slice_index_or, min, refl, sym, ap, ◌∙◌, ◌-◌, arith, append_assoc}
use Rattle.std.proofs.lemmas.List.{append-nil}
use Rattle.std.specs.List.{filter}
use Rattle.elab_env.specs.Names.{is_described}
use Rattle.elab_env.proofs.Kept.{described_within}
use Rattle.elab_rules.specs.Copies.{numbers_from}
use Rattle.elab_rules.specs.States.{State, is_free}

-- ---- one number more
pub passed : (f : ℕ → Bool) (done whole : List ℕ) (n count rest : ℕ) → count ≡ suc rest → f n ≡ false → done ++ filter f (numbers_from n count) ≡ whole → done ++ filter f (numbers_from (n + 1) rest) ≡ whole
passed f done whole n count rest e is h =
    ap (λ b. done ++ (if b then n ∷ filter f (numbers_from (n + 1) rest) else filter f (numbers_from (n + 1) rest))) (sym is)
    ∙ ap (λ k. done ++ filter f (numbers_from n k)) (sym e) ∙ h

pub found : (f : ℕ → Bool) (done more whole : List ℕ) (n count rest : ℕ) → count ≡ suc rest → f n ≡ true → more ≡ done ++ n ∷ [] → done ++ filter f (numbers_from n count) ≡ whole → more ++ filter f (numbers_from (n + 1) rest) ≡ whole
found f done more whole n count rest e is m h =
    ap (λ xs. xs ++ filter f (numbers_from (n + 1) rest)) m
    ∙ append_assoc done (n ∷ []) (filter f (numbers_from (n + 1) rest))
    ∙ ap (λ b. done ++ (if b then n ∷ filter f (numbers_from (n + 1) rest) else filter f (numbers_from (n + 1) rest))) (sym is)
    ∙ ap (λ k. done ++ filter f (numbers_from n k)) (sym e) ∙ h

-- ---- past the names
pub not_free : (s : State) (n : ℕ) → length s.names ≤ n → is_free s n ≡ false
not_free s n past = by_case (is_described s.names n) refl
  where
    by_case : (b : Bool) → is_described s.names n ≡ b → (b && not (slice_index_or s.gone n false)) ≡ false
    by_case true is = let l = described_within s.names n is in absurd (omega (arith, l, past))
    by_case false is = refl

pub none_free : (s : State) (n count : ℕ) → length s.names ≤ n → filter (is_free s) (numbers_from n count) ≡ []
none_free s n zero past = refl
none_free s n (suc count) past =
    ap (λ b. if b then n ∷ filter (is_free s) (numbers_from (n + 1) count) else filter (is_free s) (numbers_from (n + 1) count)) (not_free s n past)
    ∙ none_free s (n + 1) count (omega (arith, past))

-- past the last number, or past the names
pub ended : (s : State) (done whole : List ℕ) (n end bound : ℕ) → length s.names ≤ bound → min end bound ≤ n → done ++ filter (is_free s) (numbers_from n (end - n)) ≡ whole → done ≡ whole
ended s done whole n end bound l past h = sym (append-nil done) ∙ ap (λ xs. done ++ xs) (sym (nothing (end - n) refl)) ∙ h
  where
    nothing : (count : ℕ) → end - n ≡ count → filter (is_free s) (numbers_from n count) ≡ []
    nothing zero e = refl
    nothing (suc count) e = none_free s n (suc count) (omega (arith, l, past, e))
