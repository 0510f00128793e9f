-- Splitting and joining undo each other.
use Rattle.std.proofs.Common.{◌≡◌, ◌≢◌, ℕ, ◌+◌, List, [], ◌∷◌, ◌++◌, map, length, take, drop, refl, sym, ap, ◌∙◌, subst, arith, suc, append_assoc, slice_get, Some}
use Rattle.type_core.specs.declared.ty.Ty.{Ty}
use Rattle.type_core.specs.declared.ty.Ty.TheVariants as ty
use Rattle.conv_terms.specs.declared.term.Term.{Term}
use Rattle.conv_terms.specs.declared.term.Term.TheVariants as term
use Rattle.conv_terms.specs.Shifting.{shifted}
use Rattle.conv_typing.specs.Typing.{HasType, HaveTypes}
use Rattle.conv_terms.specs.Contraction.{projections}
use Rattle.conv_typing.specs.Conversion.{Converts, ConvertEach}
use Rattle.conv_typing.proofs.Weakening.{one_more, shifted_typed_end}
use Rattle.conv_typing.proofs.Kept.{converts_typed, each_typed, last_type}
use Rattle.conv_typing.proofs.Congruence.{length_of}
use Rattle.conv_plain.specs.Functions.{arrows, abstractions, applied, first_of, variables}
use Rattle.conv_plain.specs.SplitJoin.{applied_each, join, join_all, split, split_all}
use Rattle.conv_plain.proofs.Equations.{types_of_all, types_at_atom, types_tup, types_arrow, split_atom, split_tup, split_arrow, join_atom, join_tup, join_arrow}
use Rattle.conv_plain.proofs.Lists.{AreTypes, same_each, chain_each, append_each, length_each, take_drop, take_front, drop_front, abstractions_convert_each, applied_convert, variables_typed, take_each, drop_each}
use Rattle.conv_plain.proofs.Formed.{Formed, AllFormed, formed_is_type, coordinates_typed}
use Rattle.conv_plain.proofs.Congruent.{types, split_converts, join_converts, join_all_converts, place_of}
use Rattle.conv_plain.proofs.Natural.{split_shifted, join_shifted}
use Rattle.conv_plain.proofs.Opened.{arrow_applied, joined_applied, many_eta}

abbrev Joins : Ty → Type 0
Joins t = (ctx : List Ty) (e : Term) → HasType ctx e t → Converts ctx t (join t (length ctx) (split t (length ctx) e)) e

abbrev Splits : Ty → Type 0
Splits t = (ctx : List Ty) (es : List Term) → HaveTypes ctx es (types t) → ConvertEach ctx (types t) (split t (length ctx) (join t (length ctx) es)) es

left_typed : {ctx : List Ty} {as' : List Ty} {ts us : List Term} → ConvertEach ctx as' ts us → HaveTypes ctx ts as'
left_typed k = (each_typed k).0

applied_shifted : (n : ℕ) (xs es : List Term) → map (λ f. applied f xs) (map (shifted n 1) es) ≡ applied_each n xs es
applied_shifted n xs [] = refl
applied_shifted n xs (e ∷ es) = ap (λ ts. applied (shifted n 1 e) xs ∷ ts) (applied_shifted n xs es)

-- an arrow
arrow_joins : (a b : Ty) → Formed a → Formed b → Joins a → Joins b → Joins (ty.Arrow a b)
arrow_joins a b fa fb ja jb ctx e k = subst (λ t. Converts ctx (ty.Arrow a b) t e) (path (length c1) (one_more ctx a))
    (Converts.chain (Converts.lam a _ (term.App e1 x) (formed_is_type fa) body) (Converts.eta a b e k))
  where
    n : ℕ
    n = length ctx

    c1 : List Ty
    c1 = ctx ++ a ∷ []

    e1 : Term
    e1 = shifted n 1 e

    x : Term
    x = term.Var n

    x_typed : HasType c1 x a
    x_typed = HasType.var n (last_type ctx a) (formed_is_type fa)

    e1_typed : HasType c1 e1 (ty.Arrow a b)
    e1_typed = shifted_typed_end ctx (a ∷ []) e (ty.Arrow a b) k

    xs : List Term
    xs = split a (length c1) x

    xs_typed : HaveTypes c1 xs (types a)
    xs_typed = left_typed (split_converts fa c1 x x (Converts.same x_typed))

    body : Converts c1 b (join b (length c1) (map (λ f. applied f xs) (split (ty.Arrow a b) (length c1) e1))) (term.App e1 x)
    body = Converts.chain
        (join_converts fb c1 _ _ (chain_each (arrow_applied a b fa fb c1 e1 xs e1_typed xs_typed)
        (split_converts fb c1 (term.App e1 (join a (length c1) xs)) (term.App e1 x) (Converts.app e1 e1 (join a (length c1) xs) x (Converts.same e1_typed) (ja c1 x x_typed)))))
        (jb c1 (term.App e1 x) (HasType.app e1 x e1_typed x_typed))

    path : (m : ℕ) → m ≡ n + 1 → term.Lam a (join b m (map (λ f. applied f (split a m x)) (split (ty.Arrow a b) m e1))) ≡ join (ty.Arrow a b) n (split (ty.Arrow a b) n e)
    path m p =
        ap (λ m. term.Lam a (join b m (map (λ f. applied f (split a m x)) (split (ty.Arrow a b) m e1)))) p
        ∙ ap (λ fs. term.Lam a (join b (n + 1) (map (λ f. applied f (split a (n + 1) x)) fs))) (sym (split_shifted (Formed.arrow a b fa fb) n 1 e))
        ∙ ap (λ fs. term.Lam a (join b (n + 1) fs)) (applied_shifted n (split a (n + 1) x) (split (ty.Arrow a b) n e))
        ∙ sym (join_arrow a b n (split (ty.Arrow a b) n e))

applied_all : (ctx as' bs : List Ty) {es us vs : List Term} → HaveTypes ctx es (map (arrows as') bs) → ConvertEach ctx as' us vs → ConvertEach ctx bs (map (λ e. applied e us) es) (map (λ e. applied e vs) es)
applied_all ctx as' [] HaveTypes.none l = ConvertEach.none
applied_all ctx as' (b ∷ bs) (HaveTypes.more {t = t} k ks) l = ConvertEach.more (applied_convert ctx as' b t t (Converts.same k) l) (applied_all ctx as' bs ks l)

many_eta_each : (ctx as' bs : List Ty) {es : List Term} → AreTypes as' → HaveTypes ctx es (map (arrows as') bs) → ConvertEach ctx (map (arrows as') bs) (map (abstractions as') (map (λ e. applied e (variables (length ctx) (length as'))) (map (shifted (length ctx) (length as')) es))) es
many_eta_each ctx as' [] ok HaveTypes.none = ConvertEach.none
many_eta_each ctx as' (b ∷ bs) ok (HaveTypes.more {t = t} k ks) = ConvertEach.more (many_eta ctx as' b t ok k) (many_eta_each ctx as' bs ok ks)

shifted_each : (ctx x : List Ty) {as' : List Ty} {es : List Term} → HaveTypes ctx es as' → HaveTypes (ctx ++ x) (map (shifted (length ctx) (length x)) es) as'
shifted_each ctx x HaveTypes.none = HaveTypes.none
shifted_each ctx x (HaveTypes.more {t = t} {a = a} k ks) = HaveTypes.more (shifted_typed_end ctx x t a k) (shifted_each ctx x ks)

arrow_splits : (a b : Ty) → Formed a → Formed b → Splits a → Splits b → Splits (ty.Arrow a b)
arrow_splits a b fa fb sa sb ctx es k =
    subst (λ c. ConvertEach ctx c (split (ty.Arrow a b) n (join (ty.Arrow a b) n es)) es) (sym (types_arrow a b))
    (subst (λ ts. ConvertEach ctx (map (arrows as') (types b)) ts es) (path (length c2) (length_of ctx as'))
    (chain_each (abstractions_convert_each ctx as' (types b) ok inside) (many_eta_each ctx as' (types b) ok k1)))
  where
    n : ℕ
    n = length ctx

    as' : List Ty
    as' = types a

    ok : AreTypes as'
    ok = coordinates_typed fa

    m : ℕ
    m = length as'

    c2 : List Ty
    c2 = ctx ++ as'

    ys : List Term
    ys = variables n m

    es2 : List Term
    es2 = map (shifted n m) es

    u : Term
    u = join a (length c2) ys

    k1 : HaveTypes ctx es (map (arrows as') (types b))
    k1 = subst (HaveTypes ctx es) (types_arrow a b) k

    es2_typed : HaveTypes c2 es2 (map (arrows as') (types b))
    es2_typed = shifted_each ctx as' k1

    ys_typed : HaveTypes c2 ys as'
    ys_typed = variables_typed ctx as' ok

    u_typed : HasType c2 u a
    u_typed = (converts_typed (join_converts fa c2 ys ys (same_each ys_typed))).0

    at_once : Converts c2 b (term.App (join (ty.Arrow a b) (length c2) es2) u) (join b (length c2) (map (λ e. applied e ys) es2))
    at_once = Converts.chain
        (joined_applied a b fa fb c2 es2 u (subst (HaveTypes c2 es2) (sym (types_arrow a b)) es2_typed) u_typed)
        (join_converts fb c2 _ _ (applied_all c2 as' (types b) es2_typed (sa c2 ys ys_typed)))

    inside : ConvertEach c2 (types b) (split b (length c2) (term.App (join (ty.Arrow a b) (length c2) es2) u)) (map (λ e. applied e ys) es2)
    inside = chain_each (split_converts fb c2 _ _ at_once) (sb c2 (map (λ e. applied e ys) es2) (left_typed (applied_all c2 as' (types b) es2_typed (same_each ys_typed))))

    path : (l : ℕ) → l ≡ n + m → map (abstractions as') (split b l (term.App (join (ty.Arrow a b) l es2) (join a l ys))) ≡ split (ty.Arrow a b) n (join (ty.Arrow a b) n es)
    path l p =
        ap (λ l. map (abstractions as') (split b l (term.App (join (ty.Arrow a b) l es2) (join a l ys)))) p
        ∙ ap (λ j. map (abstractions as') (split b (n + m) (term.App j (join a (n + m) ys)))) (sym (join_shifted (Formed.arrow a b fa fb) n m es))
        ∙ sym (split_arrow a b n (join (ty.Arrow a b) n es))

-- tuples
get_at : {A : Type 0} (front rest : List A) (x : A) (n : ℕ) → n ≡ length front → slice_get (front ++ (x ∷ rest)) n ≡ Some x
get_at [] rest x n p = ap (slice_get (x ∷ rest)) p
get_at (y ∷ front) rest x n p = ap (slice_get (y ∷ front ++ (x ∷ rest))) p ∙ get_at front rest x (length front) refl

head_of : {ctx as' : List Ty} {a : Ty} {t u : Term} {ts us : List Term} → ConvertEach ctx (a ∷ as') (t ∷ ts) (u ∷ us) → Converts ctx a t u
head_of (ConvertEach.more k ks) = k

tail_of : {ctx as' : List Ty} {a : Ty} {t u : Term} {ts us : List Term} → ConvertEach ctx (a ∷ as') (t ∷ ts) (u ∷ us) → ConvertEach ctx as' ts us
tail_of (ConvertEach.more k ks) = ks

length_more : (ds : List Term) (d : Term) (front : List Ty) (a : Ty) → length ds ≡ length front → length (ds ++ d ∷ []) ≡ length (front ++ a ∷ [])
length_more [] d [] a h = refl
length_more [] d (b ∷ front) a h = let no : ⊥ = omega arith in absurd no
length_more (e ∷ ds) d [] a h = let no : ⊥ = omega arith in absurd no
length_more (e ∷ ds) d (b ∷ front) a h = let less : length ds ≡ length front = omega arith in ap suc (length_more ds d front a less)

projections_convert : (ctx : List Ty) (ds : List Term) (whole : List Ty) → length whole ≢ 1 → HaveTypes ctx ds whole → (front : List Ty) (fds : List Term) (i : ℕ) → i ≡ length front + 1 → length fds ≡ length front → {rest : List Ty} {rds : List Term} → HaveTypes ctx rds rest → whole ≡ front ++ rest → ds ≡ fds ++ rds → ConvertEach ctx rest (projections (term.Tup ds) (length whole) i (length rest)) rds
projections_convert ctx ds whole l w front fds i p q HaveTypes.none r s = ConvertEach.none
projections_convert ctx ds whole l w front fds i p q (HaveTypes.more {t = d} {a = a} {terms = rds} {types = rest} k ks) r s = ConvertEach.more
    (subst (λ i. Converts ctx a (term.Proj i (length whole) (term.Tup ds)) d) (sym p)
    (Converts.projection (length front) whole ds d l w (ap (λ x. slice_get x (length front)) r ∙ get_at front rest a (length front) refl) (ap (λ x. slice_get x (length front)) s ∙ get_at fds rds d (length front) (sym q))))
    (projections_convert ctx ds whole l w (front ++ a ∷ []) (fds ++ d ∷ []) (i + 1) (ap (λ i. i + 1) (p ∙ sym (one_more front a))) (length_more fds d front a q) ks (r ∙ sym (append_assoc front (a ∷ []) rest)) (s ∙ sym (append_assoc fds (d ∷ []) rds)))

all_projections_convert : (ctx : List Ty) (ds : List Term) (whole : List Ty) → length whole ≢ 1 → HaveTypes ctx ds whole → ConvertEach ctx whole (projections (term.Tup ds) (length whole) 1 (length whole)) ds
all_projections_convert ctx ds whole l w = let one : 1 ≡ 0 + 1 = omega arith in projections_convert ctx ds whole l w [] [] 1 one refl w refl refl

part_joins : (t : Ty) (ts : List Ty) → Formed t → Joins t → (ctx : List Ty) (p : Term) (rest : List Term) (us : List Term) → HasType ctx p t → ConvertEach ctx ts (join_all ts (length ctx) rest) us → ConvertEach ctx (t ∷ ts) (join_all (t ∷ ts) (length ctx) (split t (length ctx) p ++ rest)) (p ∷ us)
part_joins t ts g j ctx p rest us k l =
    let len : length (split t (length ctx) p) ≡ length (types t) = (length_each (split_converts g ctx p p (Converts.same k))).0 in
    ConvertEach.more
    (subst (λ es. Converts ctx t (join t (length ctx) es) p) (sym (take_front (split t (length ctx) p) rest (length (types t)) len)) (j ctx p k))
    (subst (λ es. ConvertEach ctx ts (join_all ts (length ctx) es) us) (sym (drop_front (split t (length ctx) p) rest (length (types t)) len)) l)

part_splits : (t : Ty) (ts : List Ty) → Formed t → Splits t → (ctx : List Ty) (p : Term) (i len : ℕ) (e : Term) (es : List Term) → Converts ctx t p (join t (length ctx) (take (length (types t)) es)) → HaveTypes ctx (take (length (types t)) es) (types t) → ConvertEach ctx (types_of_all ts) (split_all ts (length ctx) i len e) (drop (length (types t)) es) → ConvertEach ctx (types_of_all (t ∷ ts)) (split t (length ctx) p ++ split_all ts (length ctx) i len e) es
part_splits t ts g s ctx p i len e es k h l = subst (ConvertEach ctx (types_of_all (t ∷ ts)) (split t (length ctx) p ++ split_all ts (length ctx) i len e)) (take_drop es (length (types t)))
    (append_each (chain_each (split_converts g ctx p _ k) (s ctx (take (length (types t)) es) h)) l)

mutual
  pub joins : {t : Ty} → Formed t → Joins t
  joins (Formed.atom t is _) ctx e k = subst (λ u. Converts ctx t u e) (sym (join_atom t is (length ctx) (split t (length ctx) e) ∙ ap first_of (split_atom t is (length ctx) e))) (Converts.same k)
  joins (Formed.tup ts l fs) ctx e k =
      subst (λ u. Converts ctx (ty.Tup ts) u e) (sym (join_tup ts (length ctx) (split (ty.Tup ts) (length ctx) e) ∙ ap (λ es. term.Tup (join_all ts (length ctx) es)) (split_tup ts (length ctx) e)))
      (Converts.chain (Converts.tup ts _ _ l (joins_all fs ctx e ts l k [] 1 one refl)) (Converts.surjective_pairing ts e l k))
    where
      one : 1 ≡ 0 + 1
      one = omega arith
  joins (Formed.arrow a b fa fb) ctx e k = arrow_joins a b fa fb (joins fa) (joins fb) ctx e k

  joins_all : {ts : List Ty} → AllFormed ts → (ctx : List Ty) (e : Term) (whole : List Ty) → length whole ≢ 1 → HasType ctx e (ty.Tup whole) → (front : List Ty) (i : ℕ) → i ≡ length front + 1 → whole ≡ front ++ ts → ConvertEach ctx ts (join_all ts (length ctx) (split_all ts (length ctx) i (length whole) e)) (projections e (length whole) i (length ts))
  joins_all AllFormed.none ctx e whole l k front i p h = ConvertEach.none
  joins_all (AllFormed.more t ts g gs) ctx e whole l k front i p h = part_joins t ts g (joins g) ctx (term.Proj i (length whole) e) (split_all ts (length ctx) (i + 1) (length whole) e) _
      (subst (λ i. HasType ctx (term.Proj i (length whole) e) t) (sym p) (HasType.proj (length front) e whole l (place_of t ts whole front h) k))
      (joins_all gs ctx e whole l k (front ++ t ∷ []) (i + 1) (ap (λ i. i + 1) (p ∙ sym (one_more front t))) (h ∙ sym (append_assoc front (t ∷ []) ts)))

nothing_left : {ctx : List Ty} {es : List Term} → HaveTypes ctx es [] → ConvertEach ctx [] [] es
nothing_left HaveTypes.none = ConvertEach.none

first_splits : {ctx : List Ty} (a : Ty) {es : List Term} → HaveTypes ctx es (a ∷ []) → ConvertEach ctx (a ∷ []) (first_of es ∷ []) es
first_splits a (HaveTypes.more k HaveTypes.none) = ConvertEach.more (Converts.same k) ConvertEach.none

tuple_typed : (ts : List Ty) → AllFormed ts → (ctx : List Ty) (es : List Term) → HaveTypes ctx es (types (ty.Tup ts)) → HaveTypes ctx (join_all ts (length ctx) es) ts
tuple_typed ts fs ctx es k = left_typed (join_all_converts fs ctx es es (subst (λ c. ConvertEach ctx c es es) (types_tup ts) (same_each k)))

mutual
  pub splits : {t : Ty} → Formed t → Splits t
  splits (Formed.atom t is _) ctx es k =
      subst (λ c. ConvertEach ctx c (split t (length ctx) (join t (length ctx) es)) es) (sym (types_at_atom t is))
      (subst (λ us. ConvertEach ctx (t ∷ []) us es) (sym (split_atom t is (length ctx) _ ∙ ap (λ e. e ∷ []) (join_atom t is (length ctx) es)))
      (first_splits t (subst (HaveTypes ctx es) (types_at_atom t is) k)))
  splits (Formed.tup ts l fs) ctx es k =
      subst (λ c. ConvertEach ctx c (split (ty.Tup ts) (length ctx) (join (ty.Tup ts) (length ctx) es)) es) (sym (types_tup ts))
      (subst (λ us. ConvertEach ctx (types_of_all ts) us es) (sym (split_tup ts (length ctx) (join (ty.Tup ts) (length ctx) es) ∙ ap (split_all ts (length ctx) 1 (length ts)) (join_tup ts (length ctx) es)))
      (splits_all fs ctx es (subst (HaveTypes ctx es) (types_tup ts) k) (term.Tup (join_all ts (length ctx) es)) (length ts) 1
      (all_projections_convert ctx (join_all ts (length ctx) es) ts l (tuple_typed ts fs ctx es k))))
  splits (Formed.arrow a b fa fb) ctx es k = arrow_splits a b fa fb (splits fa) (splits fb) ctx es k

  splits_all : {ts : List Ty} → AllFormed ts → (ctx : List Ty) (es : List Term) → HaveTypes ctx es (types_of_all ts) → (e : Term) (len i : ℕ) → ConvertEach ctx ts (projections e len i (length ts)) (join_all ts (length ctx) es) → ConvertEach ctx (types_of_all ts) (split_all ts (length ctx) i len e) es
  splits_all AllFormed.none ctx es k e len i l = nothing_left k
  splits_all (AllFormed.more t ts g gs) ctx es k e len i l = part_splits t ts g (splits g) ctx (term.Proj i len e) (i + 1) len e es (head_of l)
      (left_typed (take_each (types t) (types_of_all ts) (same_each k)))
      (splits_all gs ctx (drop (length (types t)) es) (left_typed (drop_each (types t) (types_of_all ts) (same_each k))) e len (i + 1) (tail_of l))
