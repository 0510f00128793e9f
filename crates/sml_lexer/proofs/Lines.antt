-- Lines and columns, one byte on.
use Rattle.std.proofs.Common.{◌≡◌, ℕ, ◌+◌, ◌<◌, ◌⊎◌, inl, inr, eqb, true, false, cond, List, [], ◌∷◌, ◌++◌, length, take, slice_index, refl, ap, ◌∙◌, sym, arith}
use Rattle.std.proofs.lemmas.Bool.{cases_Bool, cond-true, cond-false, ne_eqb, eq-eqb, eqb-true, eqb-false}
use Rattle.std.proofs.lemmas.List.{take_more, length_push}
use Rattle.sml_lexer.specs.Places.{line_ends, last_line}

pub line_ends-push : (text : List ℕ) (b : ℕ) → line_ends (text ++ b ∷ []) ≡ line_ends text + cond (eqb b 10) 1 0
line_ends-push [] b = omega arith
line_ends-push (c ∷ text) b = let h : line_ends (text ++ b ∷ []) ≡ line_ends text + cond (eqb b 10) 1 0 = line_ends-push text b in omega (arith, h)

pub last_line-end : (text : List ℕ) → last_line (text ++ 10 ∷ []) ≡ []
last_line-end [] = refl
last_line-end (c ∷ text) =
    let h : line_ends (text ++ 10 ∷ []) ≡ line_ends text + 1 = line_ends-push text 10 in
    cond-false _ _ _ (ne_eqb (line_ends (c ∷ (text ++ 10 ∷ []))) 0 (λ e. omega (arith, h))) ∙ last_line-end text

last_line-more-cases : (c : ℕ) (text : List ℕ) (b : ℕ) → eqb b 10 ≡ false → last_line (text ++ b ∷ []) ≡ last_line text ++ b ∷ [] → (eqb (line_ends (c ∷ text)) 0 ≡ true) ⊎ (eqb (line_ends (c ∷ text)) 0 ≡ false) → last_line (c ∷ text ++ b ∷ []) ≡ last_line (c ∷ text) ++ b ∷ []
last_line-more-cases c text b steady go (inl none) =
    let h : line_ends (text ++ b ∷ []) ≡ line_ends text + cond (eqb b 10) 1 0 = line_ends-push text b in
    let k : line_ends (text ++ b ∷ []) ≡ line_ends text + 0 = rw steady at h in
    let e : line_ends (c ∷ text) ≡ 0 = eqb-true _ 0 none in
    cond-true _ _ _ (eq-eqb (line_ends (c ∷ text ++ b ∷ [])) 0 (omega (arith, k, e))) ∙ ap (λ (t : List ℕ). t ++ b ∷ []) (sym (cond-true _ (c ∷ text) (last_line text) none))
last_line-more-cases c text b steady go (inr some) =
    let h : line_ends (text ++ b ∷ []) ≡ line_ends text + cond (eqb b 10) 1 0 = line_ends-push text b in
    let k : line_ends (text ++ b ∷ []) ≡ line_ends text + 0 = rw steady at h in
    let e : line_ends (c ∷ text) ≡ 0 → ⊥ = eqb-false _ 0 some in
    cond-false _ _ _ (ne_eqb (line_ends (c ∷ text ++ b ∷ [])) 0 (λ z. e (omega (arith, k)))) ∙ (go ∙ ap (λ (t : List ℕ). t ++ b ∷ []) (sym (cond-false _ (c ∷ text) (last_line text) some)))

pub last_line-more : (text : List ℕ) (b : ℕ) → eqb b 10 ≡ false → last_line (text ++ b ∷ []) ≡ last_line text ++ b ∷ []
last_line-more [] b steady = rw steady refl
last_line-more (c ∷ text) b steady = last_line-more-cases c text b steady (last_line-more text b steady) (cases_Bool _)

module _ (bytes : List ℕ) (i : ℕ) (fits : i < length bytes) where
  pub lines-end : slice_index bytes i ≡ 10 → line_ends (take (i + 1) bytes) ≡ line_ends (take i bytes) + 1
  lines-end e = ap line_ends (take_more bytes i 0 fits) ∙ (line_ends-push (take i bytes) (slice_index bytes i) ∙ ap (λ (b : ℕ). line_ends (take i bytes) + cond (eqb b 10) 1 0) e)

  pub column-end : slice_index bytes i ≡ 10 → last_line (take (i + 1) bytes) ≡ []
  column-end e = ap last_line (take_more bytes i 0 fits) ∙ (ap (λ (b : ℕ). last_line (take i bytes ++ b ∷ [])) e ∙ last_line-end (take i bytes))

  pub lines-more : (slice_index bytes i ≡ 10 → ⊥) → line_ends (take (i + 1) bytes) ≡ line_ends (take i bytes) + 0
  lines-more other = ap line_ends (take_more bytes i 0 fits) ∙ (line_ends-push (take i bytes) (slice_index bytes i) ∙ ap (λ t. line_ends (take i bytes) + cond t 1 0) (ne_eqb (slice_index bytes i) 10 other))

  pub column-more : (slice_index bytes i ≡ 10 → ⊥) → length (last_line (take (i + 1) bytes)) ≡ length (last_line (take i bytes)) + 1
  column-more other =
      ap (λ (t : List ℕ). length (last_line t)) (take_more bytes i 0 fits)
      ∙ (ap (λ (t : List ℕ). length t) (last_line-more (take i bytes) (slice_index bytes i) (ne_eqb (slice_index bytes i) 10 other))
      ∙ length_push (last_line (take i bytes)) (slice_index bytes i))
