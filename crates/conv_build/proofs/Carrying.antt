-- A term whose arguments are moved, at terms for these.
use Rattle.std.proofs.Common.{◌≡◌, ℕ, ◌+◌, List, [], ◌∷◌, map, length, sym, ap, ap₂, ◌∙◌, subst, arith, suc}
use Rattle.type_core.specs.declared.ty.Ty.{Ty}
use Rattle.conv_terms.specs.declared.term.Term.{Term}
use Rattle.conv_terms.specs.declared.term.Term.TheVariants as term
use Rattle.conv_terms.specs.Shifting.{shifted}
use Rattle.conv_terms.specs.Substitution.{image, images, traversed}
use Rattle.conv_terms.proofs.Moving.{shifted_all}
use Rattle.conv_plain.specs.Functions.{applied, variables}
use Rattle.conv_plain.specs.Moving.{Move, carried}
use Rattle.conv_plain.proofs.Carried.{after_applied, carried_commutes}
use Rattle.conv_plain.proofs.Natural.{substitutes_each}
use Rattle.conv_plain.proofs.Opened.{after, after_shifted, after_variables, map_id, map_map}
use Rattle.conv_plain.proofs.Ways.{Commutes}
use Rattle.conv_build.proofs.Reduction.{Reduces}
use Rattle.conv_build.proofs.Reaching.{many_reduce}

module _ (go : Move) (commutes : Commutes go) where
  after_moved : (n : ℕ) (us es : List Term) → map (after n us) (go (n + length us) es) ≡ go n (map (after n us) es)
  after_moved n [] es = let p : n + 0 ≡ n = omega arith in map_id _ ∙ ap₂ go p (sym (map_id es))
  after_moved n (u ∷ us) es =
      let p : n + suc (length us) ≡ n + 1 + length us = omega arith in
      map_map (after n us) (λ x. traversed (image n u) x (length us)) (go (n + suc (length us)) es)
      ∙ ap (map (after n us)) (ap (λ m. map (λ x. traversed (image n u) x (length us)) (go m es)) p ∙ substitutes_each go commutes n u (length us) es)
      ∙ after_moved n us (map (λ x. traversed (image n u) x (length us)) es)
      ∙ ap (go n) (sym (map_map (after n us) (λ x. traversed (image n u) x (length us)) es))

  carried_shifted : (types : List Ty) (n j : ℕ) (e : Term) → shifted n j (carried types go n e) ≡ carried types go (n + j) (shifted n j e)
  carried_shifted types n j e =
      let p : n ≡ n + 0 = omega arith in
      let q : n + j + 0 ≡ n + j = omega arith in
      shifted_all n j 0 (carried types go n e) ∙ ap (λ m. traversed (images n (n + j) term.Var) (carried types go m e) 0) p
      ∙ carried_commutes types go commutes n (n + j) term.Var 0 e ∙ ap₂ (carried types go) q (sym (shifted_all n j 0 e))

  carried_applied : (types : List Ty) (n : ℕ) (e : Term) (us : List Term) → length us ≡ length types → Reduces n (applied (carried types go n e) us) (applied e (go n us))
  carried_applied types n e us h = subst (Reduces n (applied (carried types go n e) us)) path (many_reduce n types (applied (shifted n (length types) e) (go (n + length types) (variables n (length types)))) us h)
    where
      path : after n us (applied (shifted n (length types) e) (go (n + length types) (variables n (length types)))) ≡ applied e (go n us)
      path =
          ap (λ m. after n us (applied (shifted n m e) (go (n + m) (variables n m)))) (sym h)
          ∙ after_applied n us (shifted n (length us) e) (go (n + length us) (variables n (length us)))
          ∙ ap₂ applied (after_shifted n us e) (after_moved n us (variables n (length us)) ∙ ap (go n) (after_variables n us))

  pub carried_reduces : (types : List Ty) (n j : ℕ) (e : Term) (us : List Term) → length us ≡ length types → Reduces (n + j) (applied (shifted n j (carried types go n e)) us) (applied (shifted n j e) (go (n + j) us))
  carried_reduces types n j e us h =
      subst (λ t. Reduces (n + j) (applied t us) (applied (shifted n j e) (go (n + j) us))) (sym (carried_shifted types n j e)) (carried_applied types (n + j) (shifted n j e) us h)
