-- Joining is filling the atoms' places, and so is coming to a coordinate.
use Rattle.std.proofs.Common.{◌≡◌, ℕ, ◌+◌, ◌-◌, ltb, if◌then◌else◌, Bool, true, false, List, [], ◌∷◌, ◌++◌, map, length, take, drop, refl, sym, ap, ap₂, ◌∙◌, arith, zero, suc}
use Rattle.std.proofs.lemmas.List.{length-append, length-map}
use Rattle.type_core.specs.declared.ty.VarId.{VarId}
use Rattle.type_core.specs.declared.ty.NameId.{NameId}
use Rattle.type_core.specs.declared.ty.Ty.{Ty}
use Rattle.type_core.specs.declared.ty.Field.{Field}
use Rattle.type_core.specs.declared.ty.Ty.TheVariants as ty
use Rattle.type_core.specs.Coordinates.{coordinates, taking}
use Rattle.type_core.specs.Lists.{concatenated}
use Rattle.type_core.proofs.Trees.{EachOf, induct_type, coordinates_tup, coordinates_arrow}
use Rattle.conv_terms.specs.declared.term.Term.{Term}
use Rattle.conv_terms.specs.declared.term.Term.TheVariants as term
use Rattle.conv_plain.specs.Functions.{first_of}
use Rattle.conv_build.specs.direct.References.{Hole, Reference, first_filled, given, references}
use Rattle.conv_build.specs.direct.LongSides.{joined, spine}
use Rattle.conv_build.specs.direct.TwoPasses.{Leaf, atom_passes, behind, built, built_all, filled, leaves, leaves_all, passes, reached, way}
use Rattle.conv_build.proofs.Equations.{IsLongAtom, joined_all, joined_arrow, joined_atom, joined_tup, long_atom_con, long_atom_rec, long_atom_var, spine_all, spine_arrow, spine_atom, spine_tup}
use Rattle.conv_build.proofs.PassEquations.{built_arrow, built_enough, built_tup, leaves_arrow, leaves_tup, passes_con, passes_rec, passes_var, reached_all, reached_arrow, reached_tup, way_all, way_arrow, way_tup}

-- an atom has one leaf
pub record IsLeaf (t : Ty) : Type 0 where
  pub long : IsLongAtom t
  pub passes_are : passes t ≡ atom_passes

pub leaf_var : (v : VarId) → IsLeaf (ty.Var v)
leaf_var v = record { long = long_atom_var v; passes_are = passes_var v }

pub leaf_con : (name : NameId) (ts : List Ty) → IsLeaf (ty.Con name ts)
leaf_con name ts = record { long = long_atom_con name ts; passes_are = passes_con name ts }

pub leaf_rec : (fields : List Field) → IsLeaf (ty.Rec fields)
leaf_rec fields = record { long = long_atom_rec fields; passes_are = passes_rec fields }

module _ (t : Ty) (is : IsLeaf t) where
  pub leaves_leaf : (n : ℕ) → leaves t n ≡ record { depth = n; arguments = [] } ∷ []
  leaves_leaf n = ap (λ s. s.leaves n) is.passes_are

  pub built_leaf : (terms : List Term) → built t terms ≡ first_of terms
  built_leaf terms = ap (λ s. s.built terms) is.passes_are

  pub reached_leaf : (place : ℕ) (e : Term) (terms : List Term) → reached t place e terms ≡ e
  reached_leaf place e terms = ap (λ s. s.reached place e terms) is.passes_are

-- as many leaves as coordinates
abbrev AsMany : Ty → Type 0
AsMany t = (n : ℕ) → length (leaves t n) ≡ length (coordinates t)

atom_as_many : (t : Ty) → IsLeaf t → AsMany t
atom_as_many t is n = ap length (leaves_leaf t is n) ∙ sym (ap length is.long.plain.coordinates_are)

pub leaves_length : (t : Ty) → AsMany t
leaves_length = induct_type AsMany
    (λ v. atom_as_many (ty.Var v) (leaf_var v))
    (λ name ts ihs. atom_as_many (ty.Con name ts) (leaf_con name ts))
    (λ fields ihs. atom_as_many (ty.Rec fields) (leaf_rec fields))
    (λ ts ihs n. ap length (leaves_tup ts n) ∙ all ts ihs n ∙ sym (ap length (coordinates_tup ts)))
    (λ a b iha ihb n. ap length (leaves_arrow a b n) ∙ length-map (leaves b (n + 1)) (behind (references n a)) ∙ ihb (n + 1) ∙ sym (length-map (coordinates b) (taking (coordinates a))) ∙ sym (ap length (coordinates_arrow a b)))
  where
    all : (ts : List Ty) → EachOf AsMany ts → (n : ℕ) → length (leaves_all ts n) ≡ length (concatenated (map coordinates ts))
    all [] ihs n = refl
    all (t ∷ ts) ihs n = length-append (leaves t n) (leaves_all ts n) ∙ ap₂ ◌+◌ (ihs.0 n) (all ts ihs.1 n) ∙ sym (length-append (coordinates t) (concatenated (map coordinates ts)))

-- filling
take_filled : (m : ℕ) (holes : List Hole) (ls others : List Leaf) → length ls ≡ m → take m (filled holes (ls ++ others)) ≡ filled (take m holes) ls
take_filled zero holes [] others h = refl
take_filled zero holes (l ∷ ls) others h = let no : ⊥ = omega (arith, h) in absurd no
take_filled (suc m) holes [] others h = let no : ⊥ = omega (arith, h) in absurd no
take_filled (suc m) [] (l ∷ ls) others h = refl
take_filled (suc m) (hole ∷ holes) (l ∷ ls) others h = let less : length ls ≡ m = omega (arith, h) in ap (λ r. hole l.depth l.arguments ∷ r) (take_filled m holes ls others less)

drop_filled : (m : ℕ) (holes : List Hole) (ls others : List Leaf) → length ls ≡ m → drop m (filled holes (ls ++ others)) ≡ filled (drop m holes) others
drop_filled zero holes [] others h = refl
drop_filled zero holes (l ∷ ls) others h = let no : ⊥ = omega (arith, h) in absurd no
drop_filled (suc m) holes [] others h = let no : ⊥ = omega (arith, h) in absurd no
drop_filled (suc m) [] (l ∷ ls) others h = refl
drop_filled (suc m) (hole ∷ holes) (l ∷ ls) others h = let less : length ls ≡ m = omega (arith, h) in drop_filled m holes ls others less

given_filled : (rs : List Reference) (holes : List Hole) (ls : List Leaf) → filled (map (given rs) holes) ls ≡ filled holes (map (behind rs) ls)
given_filled rs [] ls = refl
given_filled rs (hole ∷ holes) [] = refl
given_filled rs (hole ∷ holes) (l ∷ ls) = ap (λ r. hole l.depth (rs ++ l.arguments) ∷ r) (given_filled rs holes ls)

one_filled : (holes : List Hole) (n : ℕ) → first_filled holes n ≡ first_of (filled holes (record { depth = n; arguments = [] } ∷ []))
one_filled [] n = refl
one_filled (hole ∷ holes) n = refl

abbrev Fills : Ty → Type 0
Fills t = (n : ℕ) (holes : List Hole) → joined t n holes ≡ built t (filled holes (leaves t n))

atom_fills : (t : Ty) → IsLeaf t → Fills t
atom_fills t is n holes =
    joined_atom t is.long n holes ∙ one_filled holes n ∙ ap (λ ls. first_of (filled holes ls)) (sym (leaves_leaf t is n)) ∙ sym (built_leaf t is (filled holes (leaves t n)))

pub fills : (t : Ty) → Fills t
fills = induct_type Fills
    (λ v. atom_fills (ty.Var v) (leaf_var v))
    (λ name ts ihs. atom_fills (ty.Con name ts) (leaf_con name ts))
    (λ fields ihs. atom_fills (ty.Rec fields) (leaf_rec fields))
    (λ ts ihs n holes. joined_tup ts n holes ∙ ap term.Tup (all ts ihs n holes) ∙ sym (built_tup ts (filled holes (leaves_all ts n))) ∙ ap (λ ls. built (ty.Tup ts) (filled holes ls)) (sym (leaves_tup ts n)))
    (λ a b iha ihb n holes.
    joined_arrow a b n holes ∙ ap (term.Lam a) (ihb (n + 1) (map (given (references n a)) holes) ∙ ap (built b) (given_filled (references n a) holes (leaves b (n + 1))))
    ∙ sym (built_arrow a b (filled holes (map (behind (references n a)) (leaves b (n + 1))))) ∙ ap (λ ls. built (ty.Arrow a b) (filled holes ls)) (sym (leaves_arrow a b n)))
  where
    all : (ts : List Ty) → EachOf Fills ts → (n : ℕ) (holes : List Hole) → joined_all ts n holes ≡ built_all ts (filled holes (leaves_all ts n))
    all [] ihs n holes = refl
    all (t ∷ ts) ihs n holes = ap₂ ◌∷◌
        (ihs.0 n (take (length (coordinates t)) holes) ∙ ap (built t) (sym (take_filled (length (coordinates t)) holes (leaves t n) (leaves_all ts n) (leaves_length t n))) ∙ built_enough t (filled holes (leaves t n ++ leaves_all ts n)))
        (all ts ihs.1 n (drop (length (coordinates t)) holes) ∙ ap (built_all ts) (sym (drop_filled (length (coordinates t)) holes (leaves t n) (leaves_all ts n) (leaves_length t n))))

-- the way to a place
abbrev Reaches : Ty → Type 0
Reaches t = (place n : ℕ) (e : Term) (holes : List Hole) → spine t place n e holes ≡ reached t place e (filled holes (way t place n))

atom_reaches : (t : Ty) → IsLeaf t → Reaches t
atom_reaches t is place n e holes = spine_atom t is.long place n e holes ∙ sym (reached_leaf t is place e (filled holes (way t place n)))

chosen : (b : Bool) (x y : Term) (go to : List Term → Term) (holes : List Hole) (ls others : List Leaf) → x ≡ go (filled holes ls) → y ≡ to (filled holes others)
    → (if b then x else y) ≡ (if b then go (filled holes (if b then ls else others)) else to (filled holes (if b then ls else others)))
chosen true x y go to holes ls others p q = p
chosen false x y go to holes ls others p q = q

pub reaches : (t : Ty) → Reaches t
reaches = induct_type Reaches
    (λ v. atom_reaches (ty.Var v) (leaf_var v))
    (λ name ts ihs. atom_reaches (ty.Con name ts) (leaf_con name ts))
    (λ fields ihs. atom_reaches (ty.Rec fields) (leaf_rec fields))
    (λ ts ihs place n e holes. spine_tup ts place n e holes ∙ all ts ihs place 1 (length ts) n e holes ∙ sym (reached_tup ts place e (filled holes (way_all ts place n)))
    ∙ ap (λ ls. reached (ty.Tup ts) place e (filled holes ls)) (sym (way_tup ts place n)))
    (λ a b iha ihb place n e holes. spine_arrow a b place n e holes ∙ ihb place n _ (drop (length (coordinates a)) holes)
    ∙ ap₂ (λ x ys. reached b place (term.App e x) ys)
    (fills a n (take (length (coordinates a)) holes) ∙ ap (built a) (sym (take_filled (length (coordinates a)) holes (leaves a n) (way b place n) (leaves_length a n))) ∙ built_enough a (filled holes (leaves a n ++ way b place n)))
    (sym (drop_filled (length (coordinates a)) holes (leaves a n) (way b place n) (leaves_length a n)))
    ∙ sym (reached_arrow a b place e (filled holes (leaves a n ++ way b place n))) ∙ ap (λ ls. reached (ty.Arrow a b) place e (filled holes ls)) (sym (way_arrow a b place n)))
  where
    all : (ts : List Ty) → EachOf Reaches ts → (place i count n : ℕ) (e : Term) (holes : List Hole) → spine_all ts place i count n e holes ≡ reached_all ts place i count e (filled holes (way_all ts place n))
    all [] ihs place i count n e holes = refl
    all (t ∷ ts) ihs place i count n e holes = chosen (ltb place (length (coordinates t))) _ _ (reached t place (term.Proj i count e)) (reached_all ts (place - length (coordinates t)) (i + 1) count e) holes (way t place n) (way_all ts (place - length (coordinates t)) n)
        (ihs.0 place n (term.Proj i count e) holes) (all ts ihs.1 (place - length (coordinates t)) (i + 1) count n e holes)
