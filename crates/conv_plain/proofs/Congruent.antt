-- What converts is split into terms that convert, and is joined from such.
use Rattle.std.proofs.Common.{◌≡◌, ◌≢◌, ℕ, ◌+◌, ◌-◌, ◌≤◌, List, [], ◌∷◌, ◌++◌, map, length, refl, sym, ap, ◌∙◌, subst, subst₂, arith, append_assoc, Some, slice_get}
use Rattle.type_core.specs.declared.ty.Ty.{Ty}
use Rattle.type_core.specs.declared.ty.Ty.TheVariants as ty
use Rattle.type_core.specs.Types.{IsType}
use Rattle.conv_terms.specs.declared.term.Term.{Term}
use Rattle.conv_terms.specs.declared.term.Term.TheVariants as term
use Rattle.conv_terms.specs.Shifting.{shifted}
use Rattle.conv_typing.specs.Typing.{HasType, HaveTypes}
use Rattle.conv_typing.specs.Conversion.{Converts, ConvertEach}
use Rattle.conv_typing.proofs.Weakening.{get_right, one_more}
use Rattle.conv_typing.proofs.Kept.{converts_typed, each_typed, last_type}
use Rattle.conv_typing.proofs.Congruence.{length_of}
use Rattle.conv_plain.specs.Functions.{arrows, first_of, variables}
use Rattle.conv_plain.specs.CoordinateTypes.{coordinate_types}
use Rattle.conv_plain.specs.SplitJoin.{applied_each, join, join_all, split, split_all}
use Rattle.conv_plain.proofs.Equations.{opened, types_of_all, types_at_atom, types_tup, types_arrow, split_atom, split_tup, split_arrow, join_atom, join_tup, join_arrow}
use Rattle.conv_plain.proofs.Lists.{same_each, append_each, take_each, drop_each, abstractions_convert_each, applied_convert, variables_typed, shifted_converts_end}
use Rattle.conv_plain.proofs.Formed.{Formed, AllFormed, formed_is_type, coordinates_typed}

first_converts : {ctx : List Ty} (a : Ty) {ts us : List Term} → ConvertEach ctx (a ∷ []) ts us → Converts ctx a (first_of ts) (first_of us)
first_converts a (ConvertEach.more k ks) = k

-- each coordinate of a function, at coordinates of its argument
pub closed_convert : (ctx : List Ty) (a : Ty) (as' : List Ty) (xs : List Term) → HaveTypes (ctx ++ a ∷ []) xs as' → (bs : List Ty) {es us : List Term} → ConvertEach ctx (map (arrows as') bs) es us → ConvertEach (ctx ++ a ∷ []) bs (applied_each (length ctx) xs es) (applied_each (length ctx) xs us)
closed_convert ctx a as' xs l [] ConvertEach.none = ConvertEach.none
closed_convert ctx a as' xs l (b ∷ bs) (ConvertEach.more {t = t} {u = u} k ks) = ConvertEach.more
    (applied_convert (ctx ++ a ∷ []) as' b (shifted (length ctx) 1 t) (shifted (length ctx) 1 u) (shifted_converts_end ctx (a ∷ []) (arrows as' b) t u k) (same_each l))
    (closed_convert ctx a as' xs l bs ks)

abbrev pub types : Ty → List Ty
types = coordinate_types

pub opened_convert : (ctx : List Ty) (a b : Ty) (e f : Term) → Converts ctx (ty.Arrow a b) e f → Converts (ctx ++ types a) a (join a (length (ctx ++ types a)) (variables (length ctx) (length (types a)))) (join a (length (ctx ++ types a)) (variables (length ctx) (length (types a)))) → Converts (ctx ++ types a) b (opened a (length ctx) e) (opened a (length ctx) f)
opened_convert ctx a b e f k l = Converts.app _ _ _ _ (shifted_converts_end ctx (types a) (ty.Arrow a b) e f k)
    (subst (λ n. Converts (ctx ++ types a) a (join a n (variables (length ctx) (length (types a)))) (join a n (variables (length ctx) (length (types a))))) (length_of ctx (types a)) l)

arrow_split_convert : (ctx : List Ty) (a b : Ty) (e f : Term) → Formed a → ConvertEach (ctx ++ types a) (types b) (split b (length (ctx ++ types a)) (opened a (length ctx) e)) (split b (length (ctx ++ types a)) (opened a (length ctx) f)) → ConvertEach ctx (types (ty.Arrow a b)) (split (ty.Arrow a b) (length ctx) e) (split (ty.Arrow a b) (length ctx) f)
arrow_split_convert ctx a b e f fa k =
    subst (λ c. ConvertEach ctx c (split (ty.Arrow a b) (length ctx) e) (split (ty.Arrow a b) (length ctx) f)) (sym (types_arrow a b))
    (subst₂ (ConvertEach ctx (map (arrows (types a)) (types b))) (sym (split_arrow a b (length ctx) e)) (sym (split_arrow a b (length ctx) f))
    (abstractions_convert_each ctx (types a) (types b) (coordinates_typed fa)
    (subst (λ n. ConvertEach (ctx ++ types a) (types b) (split b n (opened a (length ctx) e)) (split b n (opened a (length ctx) f))) (length_of ctx (types a)) k)))

pub place_of : (t : Ty) (ts whole front : List Ty) → whole ≡ front ++ (t ∷ ts) → slice_get whole (length front) ≡ Some t
place_of t ts whole front h =
    let low : length front ≤ length front = omega arith in
    let none : length front - length front ≡ 0 = omega arith in
    ap (λ x. slice_get x (length front)) h ∙ get_right front (t ∷ ts) (length front) low ∙ ap (slice_get (t ∷ ts)) none

last_typed : (ctx : List Ty) (a : Ty) → IsType a → Converts (ctx ++ a ∷ []) a (term.Var (length ctx)) (term.Var (length ctx))
last_typed ctx a is = Converts.same (HasType.var (length ctx) (last_type ctx a) is)

mutual
  pub split_converts : {t : Ty} → Formed t → (ctx : List Ty) (e f : Term) → Converts ctx t e f → ConvertEach ctx (types t) (split t (length ctx) e) (split t (length ctx) f)
  split_converts (Formed.atom t is _) ctx e f k =
      subst (λ c. ConvertEach ctx c (split t (length ctx) e) (split t (length ctx) f)) (sym (types_at_atom t is))
      (subst₂ (ConvertEach ctx (t ∷ [])) (sym (split_atom t is (length ctx) e)) (sym (split_atom t is (length ctx) f)) (ConvertEach.more k ConvertEach.none))
  split_converts (Formed.tup ts l fs) ctx e f k =
      subst (λ c. ConvertEach ctx c (split (ty.Tup ts) (length ctx) e) (split (ty.Tup ts) (length ctx) f)) (sym (types_tup ts))
      (subst₂ (ConvertEach ctx (types_of_all ts)) (sym (split_tup ts (length ctx) e)) (sym (split_tup ts (length ctx) f))
      (split_all_converts fs ctx e f ts l k [] 1 one refl))
    where
      one : 1 ≡ 0 + 1
      one = omega arith
  split_converts (Formed.arrow a b fa fb) ctx e f k = arrow_split_convert ctx a b e f fa
      (split_converts fb (ctx ++ types a) (opened a (length ctx) e) (opened a (length ctx) f)
      (opened_convert ctx a b e f k (join_converts fa (ctx ++ types a) _ _ (same_each (variables_typed ctx (types a) (coordinates_typed fa))))))

  pub join_converts : {t : Ty} → Formed t → (ctx : List Ty) (es fs : List Term) → ConvertEach ctx (types t) es fs → Converts ctx t (join t (length ctx) es) (join t (length ctx) fs)
  join_converts (Formed.atom t is _) ctx es fs k =
      subst₂ (Converts ctx t) (sym (join_atom t is (length ctx) es)) (sym (join_atom t is (length ctx) fs))
      (first_converts t (subst (λ c. ConvertEach ctx c es fs) (types_at_atom t is) k))
  join_converts (Formed.tup ts l gs) ctx es fs k =
      subst₂ (Converts ctx (ty.Tup ts)) (sym (join_tup ts (length ctx) es)) (sym (join_tup ts (length ctx) fs))
      (Converts.tup ts _ _ l (join_all_converts gs ctx es fs (subst (λ c. ConvertEach ctx c es fs) (types_tup ts) k)))
  join_converts (Formed.arrow a b fa fb) ctx es fs k =
      subst₂ (Converts ctx (ty.Arrow a b)) (sym (join_arrow a b (length ctx) es)) (sym (join_arrow a b (length ctx) fs))
      (Converts.lam a _ _ (formed_is_type fa) (subst (λ n. Converts (ctx ++ a ∷ []) b (join b n (applied_each (length ctx) (split a (length ctx + 1) (term.Var (length ctx))) es)) (join b n (applied_each (length ctx) (split a (length ctx + 1) (term.Var (length ctx))) fs))) (one_more ctx a)
      (join_converts fb (ctx ++ a ∷ []) _ _ (closed_convert ctx a (types a) (split a (length ctx + 1) (term.Var (length ctx)))
      (subst (λ n. HaveTypes (ctx ++ a ∷ []) (split a n (term.Var (length ctx))) (types a)) (one_more ctx a)
      (each_typed (split_converts fa (ctx ++ a ∷ []) (term.Var (length ctx)) (term.Var (length ctx)) (last_typed ctx a (formed_is_type fa)))).0)
      (types b) (subst (λ c. ConvertEach ctx c es fs) (types_arrow a b) k)))))

  pub split_all_converts : {ts : List Ty} → AllFormed ts → (ctx : List Ty) (e f : Term) (whole : List Ty) → length whole ≢ 1 → Converts ctx (ty.Tup whole) e f → (front : List Ty) (i : ℕ) → i ≡ length front + 1 → whole ≡ front ++ ts → ConvertEach ctx (types_of_all ts) (split_all ts (length ctx) i (length whole) e) (split_all ts (length ctx) i (length whole) f)
  split_all_converts AllFormed.none ctx e f whole l k front i p h = ConvertEach.none
  split_all_converts (AllFormed.more t ts g gs) ctx e f whole l k front i p h = append_each
      (split_converts g ctx (term.Proj i (length whole) e) (term.Proj i (length whole) f)
      (subst (λ i. Converts ctx t (term.Proj i (length whole) e) (term.Proj i (length whole) f)) (sym p) (Converts.proj (length front) whole e f l (place_of t ts whole front h) k)))
      (split_all_converts gs ctx e f whole l k (front ++ t ∷ []) (i + 1) (ap (λ i. i + 1) (p ∙ sym (one_more front t))) (h ∙ sym (append_assoc front (t ∷ []) ts)))

  pub join_all_converts : {ts : List Ty} → AllFormed ts → (ctx : List Ty) (es fs : List Term) → ConvertEach ctx (types_of_all ts) es fs → ConvertEach ctx ts (join_all ts (length ctx) es) (join_all ts (length ctx) fs)
  join_all_converts AllFormed.none ctx es fs k = ConvertEach.none
  join_all_converts (AllFormed.more t ts g gs) ctx es fs k = ConvertEach.more
      (join_converts g ctx _ _ (take_each (types t) (types_of_all ts) k))
      (join_all_converts gs ctx _ _ (drop_each (types t) (types_of_all ts) k))

-- the body of a function that is joined
pub body_typed : (a b : Ty) → Formed a → Formed b → (ctx : List Ty) (es : List Term) → HaveTypes ctx es (types (ty.Arrow a b)) → HasType (ctx ++ a ∷ []) (join b (length ctx + 1) (applied_each (length ctx) (split a (length ctx + 1) (term.Var (length ctx))) es)) b
body_typed a b fa fb ctx es k =
    (converts_typed (subst (λ n. Converts (ctx ++ a ∷ []) b (join b n (applied_each (length ctx) (split a (length ctx + 1) (term.Var (length ctx))) es)) (join b n (applied_each (length ctx) (split a (length ctx + 1) (term.Var (length ctx))) es))) (one_more ctx a)
    (join_converts fb (ctx ++ a ∷ []) _ _ (closed_convert ctx a (types a) (split a (length ctx + 1) (term.Var (length ctx)))
    (subst (λ n. HaveTypes (ctx ++ a ∷ []) (split a n (term.Var (length ctx))) (types a)) (one_more ctx a)
    (each_typed (split_converts fa (ctx ++ a ∷ []) (term.Var (length ctx)) (term.Var (length ctx)) (last_typed ctx a (formed_is_type fa)))).0)
    (types b) (subst (λ c. ConvertEach ctx c es es) (types_arrow a b) (same_each k)))))).0
