-- A long identifier, by its last part.
use Rattle.std.proofs.Common.{◌≡◌, inl, inr, ◌⊎◌, ℕ, zero, suc, ◌+◌, ◌-◌, ◌≤◌, Bool, true, false, List, [], ◌∷◌, ◌++◌, drop, length, append_assoc, refl, sym, ap, ap₂, ◌∙◌, subst, arith}
use Rattle.std.specs.Prelude.{bytes_eq, codes, nat_eq, if◌then◌else◌, slice_index}
use Rattle.std.specs.Cmp.Lexicographic.{pointwise}
use Rattle.std.proofs.lemmas.Bool.{false≢true}
use Rattle.std.proofs.lemmas.List.{length-append}
use Rattle.std.proofs.lemmas.Slice.Eq.{bytes_eq-Decides}
use Rattle.std.proofs.Math.Seq.{drop-append_seam}
use Rattle.sig_base.specs.Identifiers.{IsIdentifier, is_alphanumeric_byte}
use Rattle.sig_base.specs.LongIdentifiers.{AreIdentifiers, IsLong, IsPath, parts}
use Rattle.sig_base.proofs.LongIdentifiers.{dotted, one_part}
use Rattle.ty_parser.specs.declared.sort.Sort.TheVariants as s
use Rattle.ty_parser.specs.Sorts.{sort_of_long}
use Rattle.type_core.specs.Paths.{IsTypeIdentifier}

-- ---- a last part other than `*`, or a text that ends with a dot and `*`
abbrev EndsStarred : List ℕ → Type 0
EndsStarred text = (front : List ℕ) × (text ≡ front ++ codes ".*")

last_kind : (text first last : List ℕ) → parts text ≡ first ∷ last ∷ [] → IsIdentifier last → IsTypeIdentifier last ⊎ EndsStarred text
last_kind text first last e h = by_case (bytes_eq last (codes "*")) refl
  where
    by_case : (b : Bool) → bytes_eq last (codes "*") ≡ b → IsTypeIdentifier last ⊎ EndsStarred text
    by_case true is = let d = dotted text first last [] e in inr (first, d.whole ∙ ap (λ rest. first ++ 46 ∷ rest) (one_part d.rest last d.behind ∙ (bytes_eq-Decides last (codes "*")).0 is))
    by_case false is = inl (h, λ star. false≢true (sym is ∙ (bytes_eq-Decides last (codes "*")).1 star))

by_last : (others : List (List ℕ)) (text first next : List ℕ) → parts text ≡ first ∷ next ∷ others → AreIdentifiers IsIdentifier (next ∷ others) → AreIdentifiers IsTypeIdentifier (next ∷ others) ⊎ EndsStarred text
by_last [] text first next e h = last_kind text first next e h
by_last (other ∷ others) text first next e h =
    let d = dotted text first next (other ∷ others) e in
    elim (by_last others d.rest next other d.behind h.1) [
      | inl k ↦ inl (h.0, k)
      | inr k ↦ inr ((first ++ 46 ∷ k.0), d.whole ∙ ap (λ rest. first ++ 46 ∷ rest) k.1 ∙ sym (append_assoc first (46 ∷ k.0) (codes ".*")))
    ]

pub long_kind : (text : List ℕ) → IsPath IsIdentifier text → IsLong IsTypeIdentifier text ⊎ EndsStarred text
long_kind text h = by_parts (parts text) refl h.0 h.1
  where
    by_parts : (texts : List (List ℕ)) → parts text ≡ texts → 2 ≤ length texts → AreIdentifiers IsIdentifier texts → AreIdentifiers IsTypeIdentifier (parts text) ⊎ EndsStarred text
    by_parts [] e two k = absurd k
    by_parts (first ∷ []) e two k = absurd (omega arith)
    by_parts (first ∷ next ∷ others) e two k = elim (by_last others text first next e k.1) [
      | inl m ↦ inl (subst (AreIdentifiers IsTypeIdentifier) (sym e) (k.0, m))
      | inr m ↦ inr m
    ]

-- ---- its sort
last_byte : (front : List ℕ) (n : ℕ) → n ≡ length front + 1 → slice_index (front ++ codes ".*") n ≡ 42
last_byte [] zero e = absurd (omega (arith, e))
last_byte [] (suc zero) e = refl
last_byte [] (suc (suc n)) e = absurd (omega (arith, e))
last_byte (b ∷ front) zero e = absurd (omega (arith, e))
last_byte (b ∷ front) (suc n) e = last_byte front n (omega (arith, e))

pub star_sort : (front : List ℕ) → sort_of_long (front ++ codes ".*") ≡ s.LongStar
star_sort front =
    let count : length (front ++ codes ".*") ≡ length front + 2 = length-append front (codes ".*") in
    let end : slice_index (front ++ codes ".*") (length (front ++ codes ".*") - 1) ≡ 42 = last_byte front _ (omega (arith, count)) in
    let tail : drop (length (front ++ codes ".*") - 2) (front ++ codes ".*") ≡ codes ".*" =
    ap (λ n. drop n (front ++ codes ".*")) (let k : length (front ++ codes ".*") - 2 ≡ length front = omega (arith, count) in k) ∙ drop-append_seam front (codes ".*") in
    ap₂ (λ b text. if is_alphanumeric_byte b then s.LongAlphanumeric else if pointwise nat_eq (codes ".*") text then s.LongStar else s.LongSymbolic) end tail
