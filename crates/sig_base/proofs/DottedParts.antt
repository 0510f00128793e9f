-- The parts of a text, by its first dot.
use Rattle.std.proofs.Common.{◌≡◌, ℕ, ◌+◌, ◌<◌, ◌≤◌, ◌==◌, if◌then◌else◌, List, [], ◌∷◌, ◌++◌, length, take, drop, get_or, refl, sym, ap, ◌∙◌}
use Rattle.std.proofs.lemmas.Bool.{eq-eqb, ne_eqb}
use Rattle.std.proofs.lemmas.List.{drop_all, drop_more, take_all, take_more}
use Rattle.sig_base.specs.LongIdentifiers.{parts, with_first}

-- parts of which the first begins with a text
abbrev pub with_front : List ℕ → List (List ℕ) → List (List ℕ)
with_front [] ps = ps
with_front (b ∷ text) ps = with_first b (with_front text ps)

front_more : (text : List ℕ) (b : ℕ) (ps : List (List ℕ)) → with_front (text ++ b ∷ []) ps ≡ with_front text (with_first b ps)
front_more [] b ps = refl
front_more (c ∷ text) b ps = ap (with_first c) (front_more text b ps)

front_alone : (text : List ℕ) (ps : List (List ℕ)) → with_front text ([] ∷ ps) ≡ text ∷ ps
front_alone [] ps = refl
front_alone (b ∷ text) ps = ap (with_first b) (front_alone text ps)

-- the parts from a place on, where a byte stands
parts_at : (text : List ℕ) (i : ℕ) → i < length text → parts (drop i text) ≡ (if get_or text i 0 == 46 then [] ∷ parts (drop (i + 1) text) else with_first (get_or text i 0) (parts (drop (i + 1) text)))
parts_at text i within = ap parts (drop_more text i 0 within)

-- so far there is no dot
pub no_dot_yet : (text : List ℕ) (i : ℕ) → i < length text → (get_or text i 0 ≡ 46 → ⊥) → parts text ≡ with_front (take i text) (parts (drop i text)) → parts text ≡ with_front (take (i + 1) text) (parts (drop (i + 1) text))
no_dot_yet text i within differs so_far =
    so_far ∙ ap (with_front (take i text)) (parts_at text i within ∙ ap (λ d. if d then [] ∷ parts (drop (i + 1) text) else with_first (get_or text i 0) (parts (drop (i + 1) text))) (ne_eqb (get_or text i 0) 46 differs))
    ∙ sym (front_more (take i text) (get_or text i 0) (parts (drop (i + 1) text)))
    ∙ ap (λ t. with_front t (parts (drop (i + 1) text))) (sym (take_more text i 0 within))

-- a dot
pub dot_here : (text : List ℕ) (i : ℕ) → i < length text → get_or text i 0 ≡ 46 → parts text ≡ with_front (take i text) (parts (drop i text)) → parts text ≡ take i text ∷ parts (drop (i + 1) text)
dot_here text i within same so_far =
    so_far ∙ ap (with_front (take i text)) (parts_at text i within ∙ ap (λ d. if d then [] ∷ parts (drop (i + 1) text) else with_first (get_or text i 0) (parts (drop (i + 1) text))) (eq-eqb (get_or text i 0) 46 same))
    ∙ front_alone (take i text) (parts (drop (i + 1) text))

-- no dot at all
pub no_dot : (text : List ℕ) (i : ℕ) → length text ≤ i → parts text ≡ with_front (take i text) (parts (drop i text)) → parts text ≡ text ∷ []
no_dot text i past so_far =
    so_far ∙ ap (λ rest. with_front (take i text) (parts rest)) (drop_all i text past)
    ∙ front_alone (take i text) [] ∙ ap (λ t. t ∷ []) (take_all i text past)
