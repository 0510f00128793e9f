-- One coordinate with its arguments moved.
use Rattle.std.proofs.Common.{◌≡◌, ℕ, ◌+◌, List, [], ◌∷◌, ◌++◌, map, length, refl, sym, ap, ap₂, ◌∙◌, subst, arith, suc}
use Rattle.type_core.specs.declared.ty.Ty.{Ty}
use Rattle.conv_terms.specs.declared.term.Term.{Term}
use Rattle.conv_terms.specs.declared.term.Term.TheVariants as term
use Rattle.conv_terms.specs.Shifting.{shifted}
use Rattle.conv_terms.specs.Substitution.{image, images, traversed}
use Rattle.conv_terms.proofs.Moving.{all_of_shifted, shifted_all}
use Rattle.conv_typing.specs.Typing.{HasType, HaveTypes}
use Rattle.conv_typing.specs.Conversion.{Converts, ConvertEach}
use Rattle.conv_typing.proofs.Weakening.{shifted_typed_end}
use Rattle.conv_typing.proofs.Kept.{converts_typed, each_typed}
use Rattle.conv_typing.proofs.Congruence.{length_of}
use Rattle.conv_plain.specs.Functions.{arrows, abstractions, applied, variables}
use Rattle.conv_plain.specs.Moving.{carried}
use Rattle.conv_plain.proofs.Lists.{AreTypes, same_each, length_typed, abstractions_convert, applied_convert, shifted_converts_end, variables_typed}
use Rattle.conv_plain.proofs.Natural.{on_variables, substitutes_each, traversed_abstractions, traversed_applied}
use Rattle.conv_plain.proofs.Opened.{after, after_app, after_shifted, after_variables, many_beta, many_eta, map_id, map_map}
use Rattle.conv_plain.proofs.Ways.{Undoes, Way}

pub after_applied : (n : ℕ) (us : List Term) (f : Term) (es : List Term) → after n us (applied f es) ≡ applied (after n us f) (map (after n us) es)
after_applied n us f [] = refl
after_applied n us f (e ∷ es) = after_applied n us (term.App f e) es ∙ ap (λ g. applied g (map (after n us) es)) (after_app n us f e)

after_go : (as' bs : List Ty) (w : Way as' bs) (n : ℕ) (us es : List Term) → map (after n us) (w.go (n + length us) es) ≡ w.go n (map (after n us) es)
after_go as' bs w n [] es = let p : n + 0 ≡ n = omega arith in map_id _ ∙ ap₂ w.go p (sym (map_id es))
after_go as' bs w n (u ∷ us) es =
    let p : n + suc (length us) ≡ n + 1 + length us = omega arith in
    map_map (after n us) (λ x. traversed (image n u) x (length us)) (w.go (n + suc (length us)) es)
    ∙ ap (map (after n us)) (ap (λ m. map (λ x. traversed (image n u) x (length us)) (w.go m es)) p ∙ substitutes_each w.go w.commutes n u (length us) es)
    ∙ after_go as' bs w n us (map (λ x. traversed (image n u) x (length us)) es)
    ∙ ap (w.go n) (sym (map_map (after n us) (λ x. traversed (image n u) x (length us)) es))

module _ (as' bs : List Ty) (ok : AreTypes bs) (v : Way bs as') (x : Ty) where
  inside_convert : (ctx : List Ty) (e f : Term) → Converts ctx (arrows as' x) e f → Converts (ctx ++ bs) x (applied (shifted (length ctx) (length bs) e) (v.go (length ctx + length bs) (variables (length ctx) (length bs)))) (applied (shifted (length ctx) (length bs) f) (v.go (length ctx + length bs) (variables (length ctx) (length bs))))
  inside_convert ctx e f k = applied_convert (ctx ++ bs) as' x _ _ (shifted_converts_end ctx bs (arrows as' x) e f k)
      (subst (λ n. ConvertEach (ctx ++ bs) as' (v.go n (variables (length ctx) (length bs))) (v.go n (variables (length ctx) (length bs)))) (length_of ctx bs) (v.converts (ctx ++ bs) _ _ (same_each (variables_typed ctx bs ok))))

  pub carried_converts : (ctx : List Ty) (e f : Term) → Converts ctx (arrows as' x) e f → Converts ctx (arrows bs x) (carried bs v.go (length ctx) e) (carried bs v.go (length ctx) f)
  carried_converts ctx e f k = abstractions_convert ctx bs x _ _ ok (inside_convert ctx e f k)

  carried_applied : (ctx : List Ty) (e : Term) (us : List Term) → HasType ctx e (arrows as' x) → HaveTypes ctx us bs → Converts ctx x (applied (carried bs v.go (length ctx) e) us) (applied e (v.go (length ctx) us))
  carried_applied ctx e us k l = subst (Converts ctx x (applied (carried bs v.go (length ctx) e) us)) path
      (many_beta ctx bs x _ us ok (converts_typed (inside_convert ctx e e (Converts.same k))).0 l)
    where
      n : ℕ
      n = length ctx

      path : after n us (applied (shifted n (length bs) e) (v.go (n + length bs) (variables n (length bs)))) ≡ applied e (v.go n us)
      path =
          ap (λ m. after n us (applied (shifted n m e) (v.go (n + m) (variables n m)))) (sym (length_typed l))
          ∙ after_applied n us (shifted n (length us) e) (v.go (n + length us) (variables n (length us))) ∙ ap₂ applied (after_shifted n us e) (after_go bs as' v n us (variables n (length us)) ∙ ap (v.go n) (after_variables n us))

-- what commutes with substitution does so where it moves arguments
pub carried_commutes : (bs : List Ty) (go : ℕ → List Term → List Term) → ((from to : ℕ) (terms : ℕ → Term) (k : ℕ) (es : List Term) → map (λ x. traversed (images from to terms) x k) (go (from + k) es) ≡ go (to + k) (map (λ x. traversed (images from to terms) x k) es)) → (from to : ℕ) (terms : ℕ → Term) (k : ℕ) (e : Term) → traversed (images from to terms) (carried bs go (from + k) e) k ≡ carried bs go (to + k) (traversed (images from to terms) e k)
carried_commutes bs go commutes from to terms k e =
    let p : from + k + length bs ≡ from + (k + length bs) = omega arith in
    let q : to + (k + length bs) ≡ to + k + length bs = omega arith in
    traversed_abstractions (images from to terms) bs _ k
    ∙ ap (abstractions bs) (traversed_applied (images from to terms) (shifted (from + k) (length bs) e) (go (from + k + length bs) (variables (from + k) (length bs))) (k + length bs)
    ∙ ap₂ applied (all_of_shifted from to terms k (length bs) e)
    (ap (λ n. map (λ t. traversed (images from to terms) t (k + length bs)) (go n (variables (from + k) (length bs)))) p ∙ commutes from to terms (k + length bs) _ ∙ ap₂ go q (on_variables from to terms k (k + length bs) (length bs))))

carried_shifted : (as' bs : List Ty) (v : Way bs as') (n j : ℕ) (e : Term) → shifted n j (carried bs v.go n e) ≡ carried bs v.go (n + j) (shifted n j e)
carried_shifted as' bs v n j e =
    let p : n ≡ n + 0 = omega arith in
    let q : n + j + 0 ≡ n + j = omega arith in
    shifted_all n j 0 (carried bs v.go n e) ∙ ap (λ m. traversed (images n (n + j) term.Var) (carried bs v.go m e) 0) p ∙ carried_commutes bs v.go v.commutes n (n + j) term.Var 0 e ∙ ap₂ (carried bs v.go) q (sym (shifted_all n j 0 e))

-- one coordinate, there and back
pub carried_undone : (as' bs : List Ty) → AreTypes as' → AreTypes bs → (v : Way bs as') (w : Way as' bs) (x : Ty) → Undoes as' w.go v.go → (ctx : List Ty) (e : Term) → HasType ctx e (arrows as' x) → Converts ctx (arrows as' x) (carried as' w.go (length ctx) (carried bs v.go (length ctx) e)) e
carried_undone as' bs fine ok v w x h ctx e k = Converts.chain
    (abstractions_convert ctx as' x _ _ fine (subst (λ t. Converts c2 x t (applied e2 zs)) (path (length c2) (length_of ctx as')) inside))
    (many_eta ctx as' x e fine k)
  where
    n : ℕ
    n = length ctx

    s : ℕ
    s = length as'

    c2 : List Ty
    c2 = ctx ++ as'

    zs : List Term
    zs = variables n s

    e2 : Term
    e2 = shifted n s e

    e2_typed : HasType c2 e2 (arrows as' x)
    e2_typed = shifted_typed_end ctx as' e (arrows as' x) k

    zs_typed : HaveTypes c2 zs as'
    zs_typed = variables_typed ctx as' fine

    there : HaveTypes c2 (w.go (length c2) zs) bs
    there = (each_typed (w.converts c2 zs zs (same_each zs_typed))).0

    inside : Converts c2 x (applied (carried bs v.go (length c2) e2) (w.go (length c2) zs)) (applied e2 zs)
    inside = Converts.chain (carried_applied as' bs ok v x c2 e2 (w.go (length c2) zs) e2_typed there)
        (applied_convert c2 as' x e2 e2 (Converts.same e2_typed) (h c2 zs (same_each zs_typed)))

    path : (m : ℕ) → m ≡ n + s → applied (carried bs v.go m e2) (w.go m zs) ≡ applied (shifted n s (carried bs v.go n e)) (w.go (n + s) zs)
    path m p = ap (λ m. applied (carried bs v.go m e2) (w.go m zs)) p ∙ ap (λ f. applied f (w.go (n + s) zs)) (sym (carried_shifted as' bs v n s e))
