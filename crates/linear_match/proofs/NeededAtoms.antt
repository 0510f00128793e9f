-- A list that a word splits along a pattern holds the atoms that the pattern needs.
use Rattle.std.proofs.Common.{◌≡◌, ℕ, zero, suc, ◌+◌, ◌%◌, ◌≤◌, List, [], ◌∷◌, ◌++◌, map, replicate, Some, slice_get, refl, ap, ◌∙◌, arith}
use Rattle.std.proofs.lemmas.Option.{slice_get_within}
use Rattle.type_core.specs.declared.ty.NameId.{NameId}
use Rattle.type_core.specs.declared.ty.Ty.{Ty}
use Rattle.type_core.specs.declared.ty.Field.{Field}
use Rattle.type_core.specs.declared.ty.Ty.TheOpen.{Ty-F, Var, Con, Rec, Tup, Arrow}
use Rattle.type_core.specs.declared.ty.Ty.TheFolds.{fold_out-Ty, fold-Field, map-Ty}
use Rattle.type_core.specs.declared.ty.Ty.TheViews.{out-Ty}
use Rattle.type_core.specs.Lists.{sum_of}
use Rattle.iso_normal.specs.declared.factor.Factor.{Factor}
use Rattle.iso_normal.specs.declared.factor.Factor.TheVariants as factor
use Rattle.iso_normal.specs.declared.factor.Factor.TheVariants.{outs-Atom, outs-Arr}
use Rattle.iso_normal.specs.declared.factor.Factor.TheOpen.{Factor-F, Atom, Arr}
use Rattle.iso_normal.specs.declared.factor.Factor.TheViews.{out-Factor}
use Rattle.iso_normal.specs.declared.factor.Factor.TheFolds.{fold_out-Factor, map-Factor}
use Rattle.iso_normal.specs.Factors.{arrow_to, factors_of_arrow}
use Rattle.linear_match.specs.Meetings.{Meeting, Meets, meets_application}
use Rattle.linear_match.specs.Splits.{Dealt, Sorted, SplitEach, Splits, dealt_more, dealt_none, keep, put_at, send, sorted_none, split_application, split_arrow, split_more, split_none, split_other, split_record, split_tuple, split_variable}
use Rattle.linear_match.proofs.Bound.{some_is}
use Rattle.linear_match.specs.search.Needs.{headed, held, held_by, held_step, needed, needed_step, one_of}

-- what factors hold
pub held_append : (head : ℕ) (fs gs : List Factor) → held head (fs ++ gs) ≡ held head fs + held head gs
held_append head [] gs = omega arith
held_append head (f ∷ fs) gs = omega (arith, held_append head fs gs)

held_out : (head : ℕ) (f : Factor)
    → held_by head f ≡ held_step head (map-Factor Factor ℕ (held_by head) (out-Factor f))
held_out head f = fold_out-Factor ℕ (held_step head) f

held_atom : (head : ℕ) (f : Factor) {t : Ty} → out-Factor f ≡ Atom t → held_by head f ≡ headed head (out-Ty t)
held_atom head f e = held_out head f ∙ ap (λ x. held_step head (map-Factor Factor ℕ (held_by head) x)) e

held_arr : (head : ℕ) (f : Factor) {arguments results : List Factor} → out-Factor f ≡ Arr arguments results
    → held_by head f ≡ held head arguments + held head results
held_arr head f e = held_out head f ∙ ap (λ x. held_step head (map-Factor Factor ℕ (held_by head) x)) e

held_made : (head : ℕ) (arguments results : List Factor)
    → held_by head (factor.Arr arguments results) ≡ held head arguments + held head results
held_made head arguments results = held_arr head (factor.Arr arguments results) (outs-Arr arguments results)

to_one : (head : ℕ) (f : Factor) (fs : List Factor) (g : Factor) (x : Factor-F Factor) → out-Factor g ≡ x
    → held_by head (arrow_to (f ∷ fs) x) ≤ held head (f ∷ fs) + held_by head g
to_one head f fs g (Atom t) e =
    omega (
      arith,
      held_made head (f ∷ fs) (factor.Atom t ∷ []),
      held_atom head g e,
      held_atom head (factor.Atom t) (outs-Atom t),
    )
to_one head f fs g (Arr own results) e =
    omega (arith, held_made head ((f ∷ fs) ++ own) results, held_append head (f ∷ fs) own, held_arr head g e)

held_arrow : (head : ℕ) (fs gs : List Factor) → held head (factors_of_arrow fs gs) ≤ held head fs + held head gs
held_arrow head [] gs = omega arith
held_arrow head (f ∷ fs) [] = omega (arith, held_made head (f ∷ fs) [])
held_arrow head (f ∷ fs) (g ∷ []) = omega (arith, to_one head f fs g (out-Factor g) refl)
held_arrow head (f ∷ fs) (g ∷ h ∷ gs) = omega (arith, held_made head (f ∷ fs) (g ∷ h ∷ gs))

-- what is dealt and sorted is held by the factors
abbrev held_in_all : ℕ → List (List Factor) → ℕ
held_in_all head pieces = sum_of (map (held head) pieces)

none_held : (head n : ℕ) → held_in_all head (replicate n []) ≡ 0
none_held head zero = omega arith
none_held head (suc n) = omega (arith, none_held head n)

put_held : (head k : ℕ) (f : Factor) (pieces : List (List Factor))
    → held_in_all head (put_at k f pieces) ≤ held_by head f + held_in_all head pieces
put_held head k f [] = omega arith
put_held head zero f (piece ∷ pieces) = omega arith
put_held head (suc k) f (piece ∷ pieces) = omega (arith, put_held head k f pieces)

dealt_held : (head : ℕ) {n j : ℕ} {letters : List ℕ} {fs : List Factor} {pieces : List (List Factor)}
    → Dealt n j letters fs pieces → held_in_all head pieces ≤ held head fs
dealt_held head {n} (dealt_none j) = omega (arith, none_held head n)
dealt_held head {n} {j} (dealt_more {pieces} l f b d) =
    omega (arith, put_held head ((j + l) % n) f pieces, dealt_held head d)

sorted_held : (head : ℕ) {letters : List ℕ} {fs sent kept : List Factor} → Sorted letters fs sent kept
    → held head sent + held head kept ≤ held head fs
sorted_held head sorted_none = omega arith
sorted_held head (send f s) = omega (arith, sorted_held head s)
sorted_held head (keep f s) = omega (arith, sorted_held head s)

piece_held : (head : ℕ) (pieces : List (List Factor)) (k : ℕ) {piece : List Factor}
    → slice_get pieces k ≡ Some piece → held head piece ≤ held_in_all head pieces
piece_held head [] k {piece} e = absurd (omega (arith, slice_get_within [] k piece e))
piece_held head (x ∷ pieces) zero e = omega (arith, ap (held head) (some_is e))
piece_held head (x ∷ pieces) (suc k) e = omega (arith, piece_held head pieces k e)

pub got_held : (head : ℕ) {n j : ℕ} {letters : List ℕ} {fs got : List Factor} {pieces : List (List Factor)} (k : ℕ)
    → Dealt n j letters fs pieces → slice_get pieces k ≡ Some got → held head got ≤ held head fs
got_held head {pieces} k d e = omega (arith, dealt_held head d, piece_held head pieces k e)

-- what a pattern of one form needs
abbrev needed_level : ℕ → Ty-F Ty Field → ℕ
needed_level head (Var v) = 0
needed_level head (Con name arguments) = one_of head name
needed_level head (Rec fields) = 0
needed_level head (Tup ps) = sum_of (map (needed head) ps)
needed_level head (Arrow p q) = needed head p + needed head q

abbrev needed_field : ℕ → Field → ℕ
needed_field head = fold-Field ℕ ℕ (needed_step head) (λ field. 0)

needed_in : (head : ℕ) (p : Ty) {x : Ty-F Ty Field} → out-Ty p ≡ x
    → needed head p ≡ needed_step head (map-Ty _ _ _ _ (needed head) (needed_field head) x)
needed_in head p e =
    fold_out-Ty _ _ (needed_step head) (λ field. 0) p
    ∙ ap (λ x. needed_step head (map-Ty _ _ _ _ (needed head) (needed_field head) x)) e

needed_out : (head : ℕ) (p : Ty) (x : Ty-F Ty Field) → out-Ty p ≡ x → needed head p ≡ needed_level head x
needed_out head p (Var v) e = needed_in head p e
needed_out head p (Con name arguments) e = needed_in head p e
needed_out head p (Rec fields) e = needed_in head p e
needed_out head p (Tup ps) e = needed_in head p e
needed_out head p (Arrow from to) e = needed_in head p e

one_met : (head : ℕ) {name : NameId} {ps : List Ty} {t : Ty} {ms : List Meeting} → Meets (Con name ps) t ms
    → headed head (out-Ty t) ≡ one_of head name
one_met head (meets_application name e each) = ap (headed head) e

mutual
  level_held : (head : ℕ) {x : Ty-F Ty Field} {fs : List Factor} {word : List ℕ} {ms : List Meeting}
      → Splits x fs word ms → needed_level head x ≤ held head fs
  level_held head (split_variable v fs) = omega arith
  level_held head (split_application {f} name e m) = omega (arith, held_atom head f e, one_met head m)
  level_held head (split_record e m) = omega arith
  level_held head (split_tuple d each) = omega (arith, dealt_held head d, each_held head each)
  level_held head (split_arrow {p} {q} {f} {results} {kept} e s m n) =
      omega (
        arith,
        held_arr head f e,
        sorted_held head s,
        held_arrow head kept results,
        needed_out head p (out-Ty p) refl,
        needed_out head q (out-Ty q) refl,
        level_held head m,
        level_held head n,
      )
  level_held head (split_other {p} {q} i m n) =
      omega (
        arith,
        needed_out head p (out-Ty p) refl,
        needed_out head q (out-Ty q) refl,
        level_held head m,
        level_held head n,
      )

  each_held : (head : ℕ) {ps : List Ty} {pieces : List (List Factor)} {word : List ℕ} {ms : List Meeting}
      → SplitEach ps pieces word ms → sum_of (map (needed head) ps) ≤ held_in_all head pieces
  each_held head split_none = omega arith
  each_held head (split_more {p} s each) =
      omega (arith, needed_out head p (out-Ty p) refl, level_held head s, each_held head each)

pub needed_held : (head : ℕ) (p : Ty) {fs : List Factor} {word : List ℕ} {ms : List Meeting}
    → Splits (out-Ty p) fs word ms → needed head p ≤ held head fs
needed_held head p s = omega (arith, needed_out head p (out-Ty p) refl, level_held head s)
