-- The types that the datatypes of a group make, as far as the group has been gone through.
use Rattle.std.proofs.Common.{◌≡◌, ℕ, zero, suc, ◌+◌, ◌<◌, ◌⊎◌, inl, inr, List, [], ◌∷◌, ◌++◌, length, take, slice_get, get_or, Some, refl, sym, ap, ◌∙◌, subst, arith}
use Rattle.std.proofs.lemmas.List.{length-take-le, take_more}
use Rattle.std.proofs.lemmas.Option.{slice_get-get_or}
use Rattle.sig_parser.specs.declared.tree.DataDesc.{DataDesc}
use Rattle.elab_env.specs.Table.{Table}
use Rattle.elab_rules.specs.declared.progress.Progress.{Progress}
use Rattle.elab_rules.specs.Parameters.{marked, variables_at}
use Rattle.elab_rules.specs.Standing.{AreMade, IsSettledType, Mentions}
use Rattle.elab_phrases.proofs.Stands.{settled_type_mentions}

-- an element of a list with one more at its end
get_pushed : {A : Type 0} (xs : List A) (x : A) (k : ℕ) (y : A) → slice_get (xs ++ x ∷ []) k ≡ Some y → (slice_get xs k ≡ Some y) ⊎ ((k ≡ length xs) × (x ≡ y))
get_pushed [] x zero y at = inr (refl, (let e : x ≡ y = cc in e))
get_pushed [] x (suc k) y at = cc
get_pushed (z ∷ xs) x zero y at = inl at
get_pushed (z ∷ xs) x (suc k) y at = elim (get_pushed xs x k y at) [
  | inl before ↦ inl before
  | inr last ↦ inr (ap suc last.0, last.1)
]

pub made_mentions : (p q : Progress) (first : ℕ) (texts : List (List ℕ)) (ds : List DataDesc) → Mentions p q → AreMade p.table first texts ds → AreMade q.table first texts ds
made_mentions p q first texts ds mentions made i d at = settled_type_mentions p q _ mentions (made i d at)

-- one datatype more
pub made_more : (p q : Progress) (first n : ℕ) (texts : List (List ℕ)) (ds : List DataDesc) (i : ℕ) (d e : DataDesc) → Mentions p q → i < length ds → d ≡ get_or ds i e → n ≡ first + i
    → AreMade p.table first texts (take i ds) → IsSettledType q.table (marked n (variables_at texts d.params)) → AreMade q.table first texts (take (i + 1) ds)
made_more p q first n texts ds i d e mentions within is number made here k x at =
    elim (get_pushed (take i ds) d k x (sym (ap (λ xs. slice_get xs k) (take_more ds i e within ∙ ap (λ y. take i ds ++ y ∷ []) (sym is))) ∙ at)) [
      | inl before ↦ made_mentions p q first texts (take i ds) mentions made k x before
      | inr last ↦
          let place : n ≡ first + k = omega (arith, number, last.0, length-take-le i ds (omega (arith, within))) in
          subst (λ m. IsSettledType q.table (marked m (variables_at texts x.params))) place (subst (λ y. IsSettledType q.table (marked n (variables_at texts y.params))) last.1 here)
    ]

-- the datatype whose turn it is
pub made_here : (table : Table) (first n : ℕ) (texts : List (List ℕ)) (ds : List DataDesc) (i : ℕ) (d e : DataDesc) → i < length ds → d ≡ get_or ds i e → n ≡ first + i
    → AreMade table first texts ds → IsSettledType table (marked n (variables_at texts d.params))
made_here table first n texts ds i d e within is number made =
    subst (λ m. IsSettledType table (marked m (variables_at texts d.params))) (sym number) (made i d (slice_get-get_or ds i e within ∙ ap Some (sym is)))
