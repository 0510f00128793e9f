-- A direct converter has no redex.
use Rattle.std.proofs.Common.{◌≡◌, ℕ, ◌+◌, ◌-◌, ltb, ◌==◌, ◌&&◌, not, if◌then◌else◌, Bool, true, false, List, [], ◌∷◌, ◌++◌, map, length, take, drop, get_or, refl, sym, ap, ◌∙◌, subst, zero, suc}
use Rattle.type_core.specs.declared.ty.Ty.{Ty}
use Rattle.type_core.specs.declared.ty.Ty.TheVariants as ty
use Rattle.type_core.specs.Coordinates.{coordinates}
use Rattle.type_core.proofs.Trees.{EachOf, induct_type}
use Rattle.iso_normal.specs.declared.pair_tree.PairTree.{PairTree}
use Rattle.iso_normal.specs.declared.pair_tree.Entry.{Entry}
use Rattle.iso_normal.specs.PairTrees.{ArePermuted, IsPermuted, entries_of, level, more, none}
use Rattle.conv_terms.specs.declared.term.Term.{Term}
use Rattle.conv_terms.specs.declared.term.Term.TheVariants as term
use Rattle.conv_terms.specs.LongForm.{abstraction_form, is_abstraction, tuple_form, is_tuple_of}
use Rattle.conv_terms.proofs.Forms.{out_var, out_app, out_proj}
use Rattle.conv_terms.proofs.RedexFree.{is_redex_free, are_redex_free, free_var, free_lam, free_app, free_tup, free_proj, both_true}
use Rattle.conv_build.specs.direct.References.{Hole, Reference, first_filled, given, no_reference, references}
use Rattle.conv_build.specs.direct.LongSides.{joined, spine}
use Rattle.conv_build.specs.direct.HoleMoves.{HoleMoves, brought_holes, hole_moves, referred, sent_hole, sent_holes, with_hole_moves}
use Rattle.conv_build.specs.direct.DirectConverter.{direct_converter, direct_converter_back}
use Rattle.conv_build.proofs.Equations.{IsLongAtom, joined_all, joined_arrow, joined_atom, joined_tup, long_atom_con, long_atom_rec, long_atom_var, spine_all, spine_arrow, spine_atom, spine_tup}
use Rattle.conv_build.proofs.Sending.{back_is, forth_is}

-- no redex is in the term, and none comes where it is applied or projected from
abbrev IsNeutral : Term → Type 0
IsNeutral t = (is_redex_free t ≡ true) × (is_abstraction t ≡ false) × ((m : ℕ) → is_tuple_of m t ≡ false)

-- each of the holes' terms is such
abbrev AreNeutral : List Hole → Type 0
AreNeutral [] = Unit {0}
AreNeutral (hole ∷ holes) = ((n : ℕ) (vs : List Reference) → IsNeutral (hole n vs)) × AreNeutral holes

neutral_var : (i : ℕ) → IsNeutral (term.Var i)
neutral_var i = (free_var i, ap abstraction_form (out_var i), λ m. ap (tuple_form m) (out_var i))

neutral_app : (f e : Term) → IsNeutral f → is_redex_free e ≡ true → IsNeutral (term.App f e)
neutral_app f e k h = (
  free_app f e ∙ both_true (not (is_abstraction f)) (is_redex_free f && is_redex_free e) (ap not k.1) (both_true (is_redex_free f) (is_redex_free e) k.0 h),
  ap abstraction_form (out_app f e),
  λ m. ap (tuple_form m) (out_app f e),
)

neutral_proj : (i count : ℕ) (e : Term) → IsNeutral e → IsNeutral (term.Proj i count e)
neutral_proj i count e k = (free_proj i count e ∙ both_true (not (is_tuple_of count e)) (is_redex_free e) (ap not (k.2 count)) k.0, ap abstraction_form (out_proj i count e), λ m. ap (tuple_form m) (out_proj i count e))

take_neutral : (n : ℕ) (holes : List Hole) → AreNeutral holes → AreNeutral (take n holes)
take_neutral zero holes k = tt
take_neutral (suc n) [] k = tt
take_neutral (suc n) (hole ∷ holes) k = (k.0, take_neutral n holes k.1)

drop_neutral : (n : ℕ) (holes : List Hole) → AreNeutral holes → AreNeutral (drop n holes)
drop_neutral zero holes k = k
drop_neutral (suc n) [] k = tt
drop_neutral (suc n) (hole ∷ holes) k = drop_neutral n holes k.1

given_neutral : (rs : List Reference) (holes : List Hole) → AreNeutral holes → AreNeutral (map (given rs) holes)
given_neutral rs [] k = tt
given_neutral rs (hole ∷ holes) k = (λ n vs. k.0 n (rs ++ vs), given_neutral rs holes k.1)

first_free : (holes : List Hole) (n : ℕ) → AreNeutral holes → is_redex_free (first_filled holes n) ≡ true
first_free [] n k = free_tup []
first_free (hole ∷ holes) n k = (k.0 n []).0

abbrev JoinedFree : Ty → Type 0
JoinedFree t = (n : ℕ) (holes : List Hole) → AreNeutral holes → is_redex_free (joined t n holes) ≡ true

atom_free : (t : Ty) → IsLongAtom t → JoinedFree t
atom_free t is n holes k = ap is_redex_free (joined_atom t is n holes) ∙ first_free holes n k

joined_free : (t : Ty) → JoinedFree t
joined_free = induct_type JoinedFree
    (λ v. atom_free (ty.Var v) (long_atom_var v))
    (λ name ts ihs. atom_free (ty.Con name ts) (long_atom_con name ts))
    (λ fields ihs. atom_free (ty.Rec fields) (long_atom_rec fields))
    (λ ts ihs n holes k. ap is_redex_free (joined_tup ts n holes) ∙ free_tup (joined_all ts n holes) ∙ all ts ihs n holes k)
    (λ a b iha ihb n holes k. ap is_redex_free (joined_arrow a b n holes) ∙ free_lam a _ ∙ ihb (n + 1) (map (given (references n a)) holes) (given_neutral (references n a) holes k))
  where
    all : (ts : List Ty) → EachOf JoinedFree ts → (n : ℕ) (holes : List Hole) → AreNeutral holes → are_redex_free (joined_all ts n holes) ≡ true
    all [] ihs n holes k = refl
    all (t ∷ ts) ihs n holes k =
        both_true (is_redex_free (joined t n (take (length (coordinates t)) holes))) (are_redex_free (joined_all ts n (drop (length (coordinates t)) holes)))
        (ihs.0 n _ (take_neutral (length (coordinates t)) holes k)) (all ts ihs.1 n _ (drop_neutral (length (coordinates t)) holes k))

either : (b : Bool) (x y : Term) → IsNeutral x → IsNeutral y → IsNeutral (if b then x else y)
either true x y k l = k
either false x y k l = l

abbrev SpineNeutral : Ty → Type 0
SpineNeutral t = (place n : ℕ) (e : Term) (holes : List Hole) → IsNeutral e → AreNeutral holes → IsNeutral (spine t place n e holes)

atom_neutral : (t : Ty) → IsLongAtom t → SpineNeutral t
atom_neutral t is place n e holes k l = subst IsNeutral (sym (spine_atom t is place n e holes)) k

spine_neutral : (t : Ty) → SpineNeutral t
spine_neutral = induct_type SpineNeutral
    (λ v. atom_neutral (ty.Var v) (long_atom_var v))
    (λ name ts ihs. atom_neutral (ty.Con name ts) (long_atom_con name ts))
    (λ fields ihs. atom_neutral (ty.Rec fields) (long_atom_rec fields))
    (λ ts ihs place n e holes k l. subst IsNeutral (sym (spine_tup ts place n e holes)) (all ts ihs place 1 (length ts) n e holes k l))
    (λ a b iha ihb place n e holes k l. subst IsNeutral (sym (spine_arrow a b place n e holes))
    (ihb place n _ _ (neutral_app e _ k (joined_free a n _ (take_neutral (length (coordinates a)) holes l))) (drop_neutral (length (coordinates a)) holes l)))
  where
    all : (ts : List Ty) → EachOf SpineNeutral ts → (place i count n : ℕ) (e : Term) (holes : List Hole) → IsNeutral e → AreNeutral holes → IsNeutral (spine_all ts place i count n e holes)
    all [] ihs place i count n e holes k l = k
    all (t ∷ ts) ihs place i count n e holes k l =
        either (ltb place (length (coordinates t))) _ _ (ihs.0 place n (term.Proj i count e) holes (neutral_proj i count e k) l) (all ts ihs.1 (place - length (coordinates t)) (i + 1) count n e holes k l)

referred_neutral : (r : Reference) (n : ℕ) (holes : List Hole) → AreNeutral holes → IsNeutral (referred r n holes)
referred_neutral r n holes k = spine_neutral r.type r.place n (term.Var r.level) holes (neutral_var r.level) k

-- each of these makes such holes, there and back
abbrev MakeNeutral : List (ℕ × HoleMoves) → Type 0
MakeNeutral [] = Unit {0}
MakeNeutral (m ∷ ms) = ((rs : List Reference) → AreNeutral ((m.1).forth rs) × AreNeutral ((m.1).back rs)) × MakeNeutral ms

sent_neutral : (ms : List (ℕ × HoleMoves)) → MakeNeutral ms → (k : ℕ) (rs : List Reference) (n : ℕ) (vs : List Reference) → IsNeutral (sent_hole k ms rs n vs)
sent_neutral [] h k rs n vs = neutral_var 0
sent_neutral (m ∷ ms) h k [] n vs = neutral_var 0
sent_neutral (m ∷ ms) h k (r ∷ rs) n vs = either (m.0 == k) _ _ (referred_neutral r n ((m.1).back vs) (h.0 vs).1) (sent_neutral ms h.1 k rs n vs)

sent_are_neutral : (ms : List (ℕ × HoleMoves)) → MakeNeutral ms → (k count : ℕ) (rs : List Reference) → AreNeutral (sent_holes k count ms rs)
sent_are_neutral ms h k zero rs = tt
sent_are_neutral ms h k (suc count) rs = (sent_neutral ms h k rs, sent_are_neutral ms h (k + 1) count rs)

brought_are_neutral : (ms : List (ℕ × HoleMoves)) → MakeNeutral ms → (rs : List Reference) → AreNeutral (brought_holes ms rs)
brought_are_neutral [] h rs = tt
brought_are_neutral (m ∷ ms) h rs = (λ n vs. referred_neutral (get_or rs m.0 no_reference) n ((m.1).forth vs) (h.0 vs).0, brought_are_neutral ms h.1 rs)

level_neutral : (p : PairTree) → MakeNeutral (map with_hole_moves (entries_of p)) → (rs : List Reference) → AreNeutral ((hole_moves p).forth rs) × AreNeutral ((hole_moves p).back rs)
level_neutral p h rs = (subst AreNeutral (sym (forth_is p rs)) (sent_are_neutral (map with_hole_moves (entries_of p)) h 0 (length (entries_of p)) rs), subst AreNeutral (sym (back_is p rs)) (brought_are_neutral (map with_hole_moves (entries_of p)) h rs))

mutual
  holes_neutral : {p : PairTree} → IsPermuted p → (rs : List Reference) → AreNeutral ((hole_moves p).forth rs) × AreNeutral ((hole_moves p).back rs)
  holes_neutral (level {p} permutes inner) rs = level_neutral p (make_neutral inner) rs

  make_neutral : {es : List Entry} → ArePermuted es → MakeNeutral (map with_hole_moves es)
  make_neutral none = tt
  make_neutral (more k ks) = (holes_neutral k, make_neutral ks)

pub direct_free : (a b : Ty) (p : PairTree) → IsPermuted p → is_redex_free (direct_converter a b p) ≡ true
direct_free a b p k = free_lam a _ ∙ joined_free b 1 ((hole_moves p).forth (references 0 a)) (holes_neutral k (references 0 a)).0

pub direct_back_free : (a b : Ty) (p : PairTree) → IsPermuted p → is_redex_free (direct_converter_back a b p) ≡ true
direct_back_free a b p k = free_lam b _ ∙ joined_free a 1 ((hole_moves p).back (references 0 b)) (holes_neutral k (references 0 b)).1
