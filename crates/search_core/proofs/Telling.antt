-- What is told of types, as more are told of.
use Rattle.std.proofs.Common.{◌≡◌, ◌<◌, ◌⊎◌, ℕ, List, [], ◌∷◌, ◌++◌, length, Some, None, slice_get, refl, sym, ap, ◌∙◌, subst, inl, inr, arith, length-append}
use Rattle.std.proofs.lemmas.List.FromFn.{length-range_with_len}
use Rattle.std.proofs.lemmas.Option.{none-some, slice_get_within}
use Rattle.type_core.specs.declared.names.TypeName.{TypeName}
use Rattle.type_core.specs.declared.ty.Scheme.{Scheme}
use Rattle.type_core.specs.declared.ty.Ty.{Ty}
use Rattle.type_core.specs.Schemes.{IsScheme, numbers}
use Rattle.type_core.specs.Variables.{by_first_occurrence}
use Rattle.type_intern.proofs.Places.{get_push, get_within}
use Rattle.type_numbers.specs.Numbers.{IsNumbered}
use Rattle.search_core.specs.declared.answer.Details.{Details}
use Rattle.search_core.specs.declared.answer.Mode.{Mode}
use Rattle.search_core.specs.declared.told.Told.{Told}
use Rattle.search_core.specs.Search.{AreDetails}
use Rattle.search_core.specs.Telling.{AreDetailsOf, AreTold}

-- schemes of one type are one
one_scheme : (a b : Scheme) → IsScheme a → IsScheme b → a.body ≡ b.body → a ≡ b
one_scheme a b first also same =
    let count : a.vars ≡ b.vars =
    sym (length-range_with_len 0 a.vars) ∙ ap length (sym first ∙ ap (λ t. numbers (by_first_occurrence t)) same ∙ also)
    ∙ length-range_with_len 0 b.vars in
    λ i. record { vars = count i; body = same i }

module _ (names : List TypeName) (m : Mode) (query : Scheme) where
  pub of_type : (scheme : Scheme) (details : Details) → IsScheme scheme → AreDetails names m scheme query details
      → AreDetailsOf names m query scheme.body details
  of_type scheme details is are other is_other same =
      subst (λ scheme. AreDetails names m scheme query details) (sym (one_scheme other scheme is_other is same)) are

  pub told_nothing : (told : Told) → told.types ≡ [] → told.details ≡ [] → AreTold names m query told
  told_nothing told no_types none = record {
    as_many = ap length none ∙ sym (ap length no_types);
    each = λ n t details at. absurd (none-some t (sym (ap (λ ts. slice_get ts n) no_types) ∙ at));
  }

  module _ (before now : Told) (are : AreTold names m query before) (t : Ty) (n : ℕ)
      (numbered : IsNumbered before.types t now.types n) where
    -- a type that was told of before
    pub told_again : (details : Details) → slice_get before.details n ≡ Some details → now.details ≡ before.details
        → AreDetailsOf names m query t details × AreTold names m query now
    told_again details at kept = elim numbered [
      | inl here ↦ (
        are.each n t details here.0 at,
        record {
          as_many = ap length kept ∙ are.as_many ∙ sym (ap length here.1);
          each = λ k u others p q. are.each k u others (sym (ap (λ ts. slice_get ts k) here.1) ∙ p)
              (sym (ap (λ ds. slice_get ds k) kept) ∙ q);
        },
      )
      | inr last ↦ absurd (omega (arith, last.0, are.as_many, slice_get_within before.details n details at))
    ]

    -- a type that wasn't
    pub told_new : (details : Details) → slice_get before.details n ≡ None → now.details ≡ before.details ++ details ∷ []
        → AreDetailsOf names m query t details → AreTold names m query now
    told_new details none more of_it = elim numbered [
      | inl here ↦ absurd (there (slice_get_within before.types n t here.0))
      | inr last ↦ record {
        as_many = ap length more ∙ one_longer ∙ sym (ap length last.1);
        each = λ k u others p q. by k u others
            (get_push before.types t k u (sym (ap (λ ts. slice_get ts k) last.1) ∙ p))
            (get_push before.details details k others (sym (ap (λ ds. slice_get ds k) more) ∙ q));
      }
    ]
      where
        there : n < length before.types → ⊥
        there l =
            let found = get_within before.details n (omega (arith, l, are.as_many)) in
            none-some found.0 (sym none ∙ found.1)

        one_longer : length (before.details ++ details ∷ []) ≡ length (before.types ++ t ∷ [])
        one_longer = simp length-append (omega (arith, are.as_many))

        by : (k : ℕ) (u : Ty) (others : Details)
            → (slice_get before.types k ≡ Some u) ⊎ ((k ≡ length before.types) × (t ≡ u))
            → (slice_get before.details k ≡ Some others) ⊎ ((k ≡ length before.details) × (details ≡ others))
            → AreDetailsOf names m query u others
        by k u others (inl p) (inl q) = are.each k u others p q
        by k u others (inl p) (inr q) = absurd (omega (arith, are.as_many, q.0, slice_get_within before.types k u p))
        by k u others (inr p) (inl q) = absurd (omega (arith, are.as_many, p.0, slice_get_within before.details k others q))
        by k u others (inr p) (inr q) =
            subst (λ u. AreDetailsOf names m query u others) p.1 (subst (AreDetailsOf names m query t) q.1 of_it)
