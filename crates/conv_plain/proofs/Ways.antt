-- Ways of moving terms, and that the converters by two ways that undo each other are an inverse pair.
use Rattle.std.proofs.Common.{◌≡◌, ℕ, ◌+◌, ◌-◌, ◌≤◌, List, [], ◌∷◌, ◌++◌, map, length, refl, sym, ap, ◌∙◌, subst, subst₂, arith}
use Rattle.type_core.specs.declared.ty.Ty.{Ty}
use Rattle.type_core.specs.declared.ty.Ty.TheVariants as ty
use Rattle.conv_terms.specs.declared.term.Term.{Term}
use Rattle.conv_terms.specs.declared.term.Term.TheVariants as term
use Rattle.conv_terms.specs.Shifting.{shifted}
use Rattle.conv_terms.specs.Substitution.{Images, image, images, substituted, traversed}
use Rattle.conv_terms.proofs.Equations.{traversed_var, shifted_lam}
use Rattle.conv_terms.proofs.Moving.{image_same, images_other, shifted_all, shifted_by_none}
use Rattle.conv_typing.specs.Typing.{HasType}
use Rattle.conv_typing.specs.Conversion.{Converts, ConvertEach}
use Rattle.conv_typing.specs.InversePair.{IsInversePair, composed, identity}
use Rattle.conv_typing.proofs.Weakening.{one_more}
use Rattle.conv_typing.proofs.Kept.{converts_typed, each_typed, last_type}
use Rattle.conv_plain.specs.SplitJoin.{join, split}
use Rattle.conv_plain.specs.Moving.{Move}
use Rattle.conv_plain.proofs.Lists.{chain_each}
use Rattle.conv_plain.proofs.Formed.{Formed, formed_is_type}
use Rattle.conv_plain.proofs.Congruent.{types, split_converts, join_converts}
use Rattle.conv_plain.proofs.Natural.{join_moves, join_substituted, split_moves, split_substituted, substitutes_each}
use Rattle.conv_plain.proofs.RoundTrip.{joins, splits}

-- a move takes convertible terms of these types to convertible terms of those
abbrev pub KeepsConversion : List Ty → List Ty → Move → Type 0
KeepsConversion as' bs go = (ctx : List Ty) (es fs : List Term) → ConvertEach ctx as' es fs → ConvertEach ctx bs (go (length ctx) es) (go (length ctx) fs)

-- a move commutes with substitution for all variables
abbrev pub Commutes : Move → Type 0
Commutes go = (from to : ℕ) (terms : ℕ → Term) (k : ℕ) (es : List Term) → map (λ x. traversed (images from to terms) x k) (go (from + k) es) ≡ go (to + k) (map (λ x. traversed (images from to terms) x k) es)

-- a way from terms of these types to terms of those
pub record Way (as' bs : List Ty) : Type 0 where
  pub go : Move
  pub converts : KeepsConversion as' bs go
  pub commutes : Commutes go

-- the one way undoes the other
abbrev pub Undoes : List Ty → Move → Move → Type 0
Undoes as' go back = (ctx : List Ty) (es : List Term) → ConvertEach ctx as' es es → ConvertEach ctx as' (back (length ctx) (go (length ctx) es)) es

abbrev pub converter : Ty → Ty → Move → Term
converter a b go = term.Lam a (join b 1 (go 1 (split a 1 (term.Var 0))))

-- the converter in any context
abbrev converter_in : (a b : Ty) → Move → ℕ → Term
converter_in a b go n = term.Lam a (join b (n + 1) (go (n + 1) (split a (n + 1) (term.Var n))))

module _ (a b : Ty) (fa : Formed a) (fb : Formed b) (w : Way (types a) (types b)) where
  coordinates_go : (ctx : List Ty) (e f : Term) → Converts ctx a e f → Converts ctx b (join b (length ctx) (w.go (length ctx) (split a (length ctx) e))) (join b (length ctx) (w.go (length ctx) (split a (length ctx) f)))
  coordinates_go ctx e f k = join_converts fb ctx _ _ (w.converts ctx _ _ (split_converts fa ctx e f k))

  body_has_type : (ctx : List Ty) → HasType (ctx ++ a ∷ []) (join b (length ctx + 1) (w.go (length ctx + 1) (split a (length ctx + 1) (term.Var (length ctx))))) b
  body_has_type ctx = subst (λ n. HasType (ctx ++ a ∷ []) (join b n (w.go n (split a n (term.Var (length ctx))))) b) (one_more ctx a)
      (converts_typed (coordinates_go (ctx ++ a ∷ []) (term.Var (length ctx)) (term.Var (length ctx)) (Converts.same (HasType.var (length ctx) (last_type ctx a) (formed_is_type fa))))).0

  converter_applied : (ctx : List Ty) (e : Term) → HasType ctx e a → Converts ctx b (term.App (converter_in a b w.go (length ctx)) e) (join b (length ctx) (w.go (length ctx) (split a (length ctx) e)))
  converter_applied ctx e k = subst (Converts ctx b (term.App (converter_in a b w.go (length ctx)) e)) (path (length ctx)) (Converts.beta a _ e (body_has_type ctx) k)
    where
      path : (n : ℕ) → substituted n e (join b (n + 1) (w.go (n + 1) (split a (n + 1) (term.Var n)))) ≡ join b n (w.go n (split a n e))
      path n =
          let p : n + 1 ≡ n + 1 + 0 = omega arith in
          let q : n + 0 ≡ n = omega arith in
          ap (λ m. traversed (image n e) (join b m (w.go m (split a m (term.Var n)))) 0) p ∙ join_substituted fb n e 0 _
          ∙ ap (join b (n + 0)) (substitutes_each w.go w.commutes n e 0 _ ∙ ap (w.go (n + 0)) (split_substituted fa n e 0 (term.Var n) ∙ ap (split a (n + 0)) (traversed_var (image n e) n 0 ∙ image_same n e 0 ∙ shifted_by_none e n)))
          ∙ ap (λ m. join b m (w.go m (split a m e))) q

  converter_shifted : (j : ℕ) → shifted 0 j (converter a b w.go) ≡ converter_in a b w.go j
  converter_shifted j = shifted_lam 0 j a _ ∙ ap (term.Lam a) (inner ∙ ap (λ m. join b (m + 1) (w.go (m + 1) (split a (m + 1) (term.Var m)))) left)
    where
      left : 0 + j ≡ j
      left = omega arith

      one : 1 ≡ 0 + 1
      one = omega arith

      at : Images
      at = images 0 (0 + j) term.Var

      on : Term → Term
      on t = traversed at t 1

      variable : on (term.Var 0) ≡ term.Var (0 + j)
      variable =
          let low : 0 ≤ 0 = omega arith in
          let e : 0 - 0 + (0 + j) ≡ 0 + j = omega arith in
          traversed_var at 0 1 ∙ images_other 0 (0 + j) term.Var 0 1 low ∙ ap term.Var e

      inner : shifted 0 j (join b 1 (w.go 1 (split a 1 (term.Var 0)))) ≡ join b (0 + j + 1) (w.go (0 + j + 1) (split a (0 + j + 1) (term.Var (0 + j))))
      inner =
          shifted_all 0 j 1 _ ∙ ap (λ m. on (join b m (w.go m (split a m (term.Var 0))))) one
          ∙ join_moves 0 (0 + j) term.Var fb 1 _
          ∙ ap (join b (0 + j + 1)) (w.commutes 0 (0 + j) term.Var 1 _ ∙ ap (w.go (0 + j + 1)) (split_moves 0 (0 + j) term.Var fa 1 (term.Var 0) ∙ ap (split a (0 + j + 1)) variable))

  converter_typed : HasType [] (converter a b w.go) (ty.Arrow a b)
  converter_typed = subst (λ n. HasType [] (term.Lam a (join b n (w.go n (split a n (term.Var 0))))) (ty.Arrow a b)) one (HasType.lam a _ (formed_is_type fa) (body_has_type []))
    where
      one : 0 + 1 ≡ 1
      one = omega arith

returns : (a b : Ty) → Formed a → Formed b → (w : Way (types a) (types b)) (v : Way (types b) (types a)) → Undoes (types a) w.go v.go → Converts [] (ty.Arrow a a) (composed a (converter b a v.go) (converter a b w.go)) (identity a)
returns a b fa fb w v h =
    subst₂ (λ f t. Converts [] (ty.Arrow a a) (term.Lam a (term.App f (term.App t x))) (term.Lam a x)) (sym (converter_shifted b a fb fa v 1)) (sym (converter_shifted a b fa fb w 1)) (Converts.lam a _ x (formed_is_type fa) body)
  where
    x : Term
    x = term.Var 0

    c1 : List Ty
    c1 = a ∷ []

    to : Term
    to = converter_in a b w.go 1

    from : Term
    from = converter_in b a v.go 1

    y : Term
    y = join b 1 (w.go 1 (split a 1 x))

    x_typed : HasType c1 x a
    x_typed = HasType.var 0 refl (formed_is_type fa)

    first : Converts c1 b (term.App to x) y
    first = converter_applied a b fa fb w c1 x x_typed

    y_typed : HasType c1 y b
    y_typed = (converts_typed first).1

    from_typed : HasType c1 from (ty.Arrow b a)
    from_typed = HasType.lam b _ (formed_is_type fb) (body_has_type b a fb fa v c1)

    there : ConvertEach c1 (types b) (w.go 1 (split a 1 x)) (w.go 1 (split a 1 x))
    there = w.converts c1 _ _ (split_converts fa c1 x x (Converts.same x_typed))

    here : ConvertEach c1 (types a) (v.go 1 (split b 1 y)) (split a 1 x)
    here = chain_each (v.converts c1 _ _ (splits fb c1 (w.go 1 (split a 1 x)) (each_typed there).0)) (h c1 (split a 1 x) (split_converts fa c1 x x (Converts.same x_typed)))

    body : Converts c1 a (term.App from (term.App to x)) x
    body = Converts.chain (Converts.app from from (term.App to x) y (Converts.same from_typed) first)
        (Converts.chain (converter_applied b a fb fa v c1 y y_typed) (Converts.chain (join_converts fa c1 _ _ here) (joins fa c1 x x_typed)))

pub converters_inverse : (a b : Ty) → Formed a → Formed b → (w : Way (types a) (types b)) (v : Way (types b) (types a)) → Undoes (types a) w.go v.go → Undoes (types b) v.go w.go → IsInversePair a b (converter a b w.go) (converter b a v.go)
converters_inverse a b fa fb w v h k = record {
  to_typed = converter_typed a b fa fb w;
  from_typed = converter_typed b a fb fa v;
  undone = returns a b fa fb w v h;
  redone = returns b a fb fa v w k;
}
