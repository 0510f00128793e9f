-- Agreement of lists of factors is an equivalence, and is kept by joining lists and by arrows.
use Rattle.std.proofs.Common.{◌≡◌, List, [], ◌∷◌, ◌++◌, map, refl, sym, ap, ◌∙◌, subst, subst₂, append-nil}
use Rattle.type_core.specs.declared.ty.Ty.{Ty}
use Rattle.iso_normal.specs.declared.factor.Factor.{Factor}
use Rattle.iso_normal.specs.declared.factor.Factor.TheVariants as factor
use Rattle.iso_normal.specs.declared.factor.Factor.TheVariants.{outs-Atom, outs-Arr}
use Rattle.iso_normal.specs.declared.factor.Factor.TheOpen.{Factor-F, Atom, Arr}
use Rattle.iso_normal.specs.declared.factor.Factor.TheViews.{out-Factor, roll-Factor, out-roll-Factor}
use Rattle.iso_normal.specs.declared.factor.Factor.TheFolds.{ind-Factor, map-Factor}
use Rattle.iso_normal.specs.Agreement.{Agree, AreAlike, Takes, first, later, none, more, atoms, arrows}
use Rattle.iso_normal.specs.Factors.{arrow_to, factors_of_arrow}
use Rattle.iso_normal.proofs.Readings.{behind, to_each}

-- of two that are taken, either may be the first
pub exchange : {x y : Factor} {all mid rest : List Factor} → Takes x all mid → Takes y mid rest → (other : List Factor) × Takes y all other × Takes x other rest
exchange {x} (first mid) t = (x ∷ _, later x t, first _)
exchange (later d t) (first _) = (_, first _, t)
exchange (later d t) (later _ u) = let found = exchange t u in (d ∷ found.0, later d found.1, later d found.2)

takes_append : {f : Factor} {fs rest : List Factor} (gs : List Factor) → Takes f fs rest → Takes f (fs ++ gs) (rest ++ gs)
takes_append gs (first _) = first _
takes_append gs (later f t) = later f (takes_append gs t)

takes_middle : (f : Factor) (fs gs : List Factor) → Takes f (fs ++ f ∷ gs) (fs ++ gs)
takes_middle f [] gs = first gs
takes_middle f (g ∷ fs) gs = later g (takes_middle f fs gs)

takes_map : (to : Factor → Factor) {f : Factor} {fs rest : List Factor} → Takes f fs rest → Takes (to f) (map to fs) (map to rest)
takes_map to (first _) = first _
takes_map to (later f t) = later (to f) (takes_map to t)

-- a factor, taken apart to the bottom
mutual
  pub data IsMade : Factor → Type 0 where
    made : (f : Factor) → IsLayer (out-Factor f) → IsMade f

  pub data IsLayer : Factor-F Factor → Type 0 where
    made_atom : (t : Ty) → IsLayer (Atom t)
    made_arrow : (args results : List Factor) → AreMade args → AreMade results → IsLayer (Arr args results)

  pub data AreMade : List Factor → Type 0 where
    nothing : AreMade []
    also : (f : Factor) (fs : List Factor) → IsMade f → AreMade fs → AreMade (f ∷ fs)

all_made : (fs : List ((f : Factor) × IsMade f)) → AreMade (map (λ e. e.0) fs)
all_made [] = nothing
all_made (f ∷ fs) = also f.0 _ f.1 (all_made fs)

layer_made : (y : Factor-F ((f : Factor) × IsMade f)) → IsLayer (map-Factor ((f : Factor) × IsMade f) Factor (λ e. e.0) y)
layer_made (Atom t) = made_atom t
layer_made (Arr args results) = made_arrow _ _ (all_made args) (all_made results)

pub is_made : (f : Factor) → IsMade f
is_made = ind-Factor IsMade (λ x y is. made (roll-Factor x) (subst IsLayer (is ∙ sym (out-roll-Factor x)) (layer_made y)))

pub are_made : (fs : List Factor) → AreMade fs
are_made [] = nothing
are_made (f ∷ fs) = also f fs (is_made f) (are_made fs)

mutual
  reflexive : {fs : List Factor} → AreMade fs → Agree fs fs
  reflexive nothing = none
  reflexive (also f fs m rest) = more (first fs) (reflexive_one m) (reflexive rest)

  reflexive_one : {f : Factor} → IsMade f → AreAlike (out-Factor f) (out-Factor f)
  reflexive_one (made f layer) = reflexive_layer layer

  reflexive_layer : {x : Factor-F Factor} → IsLayer x → AreAlike x x
  reflexive_layer (made_atom t) = atoms t
  reflexive_layer (made_arrow args results m n) = arrows (reflexive m) (reflexive n)

pub agree_refl : (fs : List Factor) → Agree fs fs
agree_refl fs = reflexive (are_made fs)

pub alike_refl : (f : Factor) → AreAlike (out-Factor f) (out-Factor f)
alike_refl f = reflexive_one (is_made f)

pub agree_of_eq : {fs gs : List Factor} → fs ≡ gs → Agree fs gs
agree_of_eq {fs} e = subst (Agree fs) e (agree_refl fs)

pub agree_comm : (fs gs : List Factor) → Agree (fs ++ gs) (gs ++ fs)
agree_comm [] gs = agree_of_eq (sym (append-nil gs))
agree_comm (f ∷ fs) gs = more (takes_middle f gs fs) (alike_refl f) (agree_comm fs gs)

-- the partner of one that is taken
pub record Partner (g : Factor) (rest all : List Factor) : Type 0 where
  pub partner : Factor
  pub left : List Factor
  pub taken : Takes partner all left
  pub like : AreAlike (out-Factor g) (out-Factor partner)
  pub others : Agree rest left

pub partner_of : {g : Factor} {gs rest all : List Factor} → Takes g gs rest → Agree gs all → Partner g rest all
partner_of (first _) (more t s others) = record { partner = _; left = _; taken = t; like = s; others = others }
partner_of (later _ u) (more t s others) =
    let p = partner_of u others in
    let swapped = exchange t p.taken in
    record { partner = p.partner; left = swapped.0; taken = swapped.1; like = p.like; others = more swapped.2 s p.others }

mutual
  pub agree_trans : {fs gs hs : List Factor} → Agree fs gs → Agree gs hs → Agree fs hs
  agree_trans none none = none
  agree_trans (more t s others) q = let p = partner_of t q in more p.taken (alike_trans s p.like) (agree_trans others p.others)

  pub alike_trans : {x y z : Factor-F Factor} → AreAlike x y → AreAlike y z → AreAlike x z
  alike_trans (atoms t) (atoms _) = atoms t
  alike_trans (arrows a p) (arrows b q) = arrows (agree_trans a b) (agree_trans p q)

put : {f g : Factor} {fs gs rest : List Factor} → Takes g gs rest → AreAlike (out-Factor g) (out-Factor f) → Agree rest fs → Agree gs (f ∷ fs)
put (first _) s p = more (first _) s p
put (later _ t) s (more u r p) = more (later _ u) r (put t s p)

mutual
  pub agree_sym : {fs gs : List Factor} → Agree fs gs → Agree gs fs
  agree_sym none = none
  agree_sym (more t s others) = put t (alike_sym s) (agree_sym others)

  alike_sym : {x y : Factor-F Factor} → AreAlike x y → AreAlike y x
  alike_sym (atoms t) = atoms t
  alike_sym (arrows a p) = arrows (agree_sym a) (agree_sym p)

pub agree_append : {xs ys fs gs : List Factor} → Agree xs ys → Agree fs gs → Agree (xs ++ fs) (ys ++ gs)
agree_append none q = q
agree_append (more t s others) q = more (takes_append _ t) s (agree_append others q)

-- arrows
one_agrees : {x y : Factor} → AreAlike (out-Factor x) (out-Factor y) → Agree (x ∷ []) (y ∷ [])
one_agrees s = more (first []) s none

alike_arrows : {xs ys ps qs : List Factor} → Agree xs ys → Agree ps qs → AreAlike (out-Factor (factor.Arr xs ps)) (out-Factor (factor.Arr ys qs))
alike_arrows a p = subst₂ AreAlike (sym (outs-Arr _ _)) (sym (outs-Arr _ _)) (arrows a p)

pub alike_arrow_to : {ps qs : List Factor} {x y : Factor-F Factor} → Agree ps qs → AreAlike x y → AreAlike (out-Factor (arrow_to ps x)) (out-Factor (arrow_to qs y))
alike_arrow_to p (atoms t) = alike_arrows p (agree_refl _)
alike_arrow_to p (arrows a r) = alike_arrows (agree_append p a) r

-- where a factor can be taken, the list isn't empty
module _ (gs : List Factor) where
  to_none : {g : Factor} {qs rest : List Factor} → Takes g qs rest → factors_of_arrow qs [] ≡ factor.Arr qs [] ∷ []
  to_none (first _) = refl
  to_none (later _ t) = refl

  to_one : {g : Factor} {qs rest : List Factor} (h : Factor) → Takes g qs rest → factors_of_arrow qs (h ∷ []) ≡ arrow_to qs (out-Factor h) ∷ []
  to_one h (first _) = refl
  to_one h (later _ t) = refl

to_several : {g h k : Factor} {qs rest hs mid left : List Factor} → Takes g qs rest → Takes h hs mid → Takes k mid left → factors_of_arrow qs hs ≡ factor.Arr qs hs ∷ []
to_several (first _) (first _) (first _) = refl
to_several (first _) (first _) (later _ _) = refl
to_several (first _) (later _ (first _)) u = refl
to_several (first _) (later _ (later _ _)) u = refl
to_several (later _ _) (first _) (first _) = refl
to_several (later _ _) (first _) (later _ _) = refl
to_several (later _ _) (later _ (first _)) u = refl
to_several (later _ _) (later _ (later _ _)) u = refl

pub agree_arrow : {ps qs fs gs : List Factor} → Agree ps qs → Agree fs gs → Agree (factors_of_arrow ps fs) (factors_of_arrow qs gs)
agree_arrow none e = e
agree_arrow (more t s others) none = subst (Agree _) (sym (to_none [] t)) (one_agrees (alike_arrows (more t s others) none))
agree_arrow (more t s others) (more {g = h} (first _) r none) = subst (Agree _) (sym (to_one [] h t)) (one_agrees (alike_arrow_to (more t s others) r))
agree_arrow (more t s others) (more u r (more v q last)) =
    subst (Agree _) (sym (to_several t u v)) (one_agrees (alike_arrows (more t s others) (more u r (more v q last))))

taken_behind : {g : Factor} {qs rest : List Factor} (y : Factor) → Takes g qs rest → behind qs y ≡ arrow_to qs (out-Factor y)
taken_behind y (first _) = refl
taken_behind y (later _ t) = refl

pub alike_behind : {ps qs : List Factor} (x y : Factor) → Agree ps qs → AreAlike (out-Factor x) (out-Factor y) → AreAlike (out-Factor (behind ps x)) (out-Factor (behind qs y))
alike_behind x y none s = s
alike_behind x y (more t r others) s = subst (AreAlike _) (ap out-Factor (sym (taken_behind y t))) (alike_arrow_to (more t r others) s)

pub agree_to_each : {ps qs fs gs : List Factor} → Agree ps qs → Agree fs gs → Agree (to_each ps fs) (to_each qs gs)
agree_to_each p none = none
agree_to_each {qs} p (more {f} {g} t s others) = more (takes_map (behind qs) t) (alike_behind f g p s) (agree_to_each p others)
