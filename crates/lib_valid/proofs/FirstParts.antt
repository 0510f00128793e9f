-- The first part of a path is what it begins with.
use Rattle.std.proofs.Common.{◌≡◌, ℕ, ◌↔◌, List, [], ◌∷◌, codes, length, append_assoc, sym, ap, ◌∙◌, subst, arith}
use Rattle.std.proofs.lemmas.List.Elements.{All-contains}
use Rattle.std.specs.List.{All, Contains}
use Rattle.sig_base.specs.Identifiers.{IsAlphanumeric}
use Rattle.sig_base.specs.LongIdentifiers.{parts}
use Rattle.sig_base.proofs.LongIdentifiers.{dotted, parts_dot, some_parts, word_no_dot}
use Rattle.type_core.specs.Paths.{BeginsWith}
use Rattle.lib_valid.specs.Parts.{BeginsWithOne}

begun : (identifier path : List ℕ) → IsAlphanumeric identifier → (b : BeginsWith identifier path)
    → parts path ≡ identifier ∷ parts b.0
begun identifier path word b =
    ap parts (b.1 ∙ append_assoc identifier (codes ".") b.0) ∙ parts_dot identifier b.0 (word_no_dot identifier word)

same_head : (a b : List ℕ) (xs ys : List (List ℕ)) → a ∷ xs ≡ b ∷ ys → a ≡ b
same_head a b xs ys e = cc

module _ (identifiers : List (List ℕ)) (words : All IsAlphanumeric identifiers) (path : List ℕ) where
  word : (identifier : List ℕ) → Contains identifiers identifier → IsAlphanumeric identifier
  word identifier h = All-contains IsAlphanumeric identifiers identifier words h

  -- a text without a dot begins with no identifier and a dot
  pub none_begins : parts path ≡ path ∷ [] → ¬ (BeginsWithOne identifiers path)
  none_begins e b =
      let some = some_parts b.2.0 in
      omega (arith, ap length (sym e ∙ begun b.0 path (word b.0 b.1) b.2), ap length some.whole)

  -- else it begins with one of them exactly where its first part is one
  pub first_begins : (first rest : List ℕ) → parts path ≡ first ∷ parts rest
      → Contains identifiers first ↔ BeginsWithOne identifiers path
  first_begins first rest e = (forward, backward)
    where
      forward : Contains identifiers first → BeginsWithOne identifiers path
      forward h =
          let some = some_parts rest in
          let cut = dotted path first some.first some.others (e ∙ ap (λ ps. first ∷ ps) some.whole) in
          (first, h, (cut.rest, cut.whole ∙ sym (append_assoc first (codes ".") cut.rest)))

      backward : BeginsWithOne identifiers path → Contains identifiers first
      backward b = subst (Contains identifiers)
          (same_head b.0 first (parts b.2.0) (parts rest) (sym (begun b.0 path (word b.0 b.1) b.2) ∙ e)) b.1
