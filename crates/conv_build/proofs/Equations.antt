-- The equations of long forms at each form of type, and types by their forms.
use Rattle.std.proofs.Common.{◌≡◌, ◌≢◌, ℕ, ◌+◌, ◌-◌, ltb, if◌then◌else◌, List, [], ◌∷◌, map, length, take, drop, refl, sym, ap, ◌∙◌}
use Rattle.std.proofs.lemmas.List.{length-map}
use Rattle.type_core.specs.declared.ty.VarId.{VarId}
use Rattle.type_core.specs.declared.ty.NameId.{NameId}
use Rattle.type_core.specs.declared.ty.Ty.{Ty}
use Rattle.type_core.specs.declared.ty.Field.{Field}
use Rattle.type_core.specs.declared.ty.Ty.TheVariants as ty
use Rattle.type_core.specs.declared.ty.Ty.TheVariants.{rolls-Var, rolls-Con, rolls-Rec, rolls-Tup, rolls-Arrow}
use Rattle.type_core.specs.declared.ty.Ty.TheFolds.{para-roll-Ty}
use Rattle.type_core.specs.Coordinates.{coordinates}
use Rattle.type_core.specs.Types.{IsType}
use Rattle.type_core.proofs.Trees.{EachOf, induct_type}
use Rattle.type_core.proofs.TypeTests.{all_are_types, sides_are_types, components_are_types}
use Rattle.conv_terms.specs.declared.term.Term.{Term}
use Rattle.conv_terms.specs.declared.term.Term.TheVariants as term
use Rattle.conv_plain.specs.CoordinateTypes.{coordinate_type, coordinate_types}
use Rattle.conv_plain.proofs.Equations.{IsAtom, atom_var, atom_con, atom_rec}
use Rattle.conv_plain.proofs.Formed.{Formed, AllFormed}
use Rattle.conv_plain.proofs.Lists.{AreTypes}
use Rattle.conv_build.specs.direct.References.{Hole, first_filled, given, references}
use Rattle.conv_build.specs.direct.LongSides.{LongSides, atom_long_sides, joined, joined_each, long_sides, long_sides_step, spine, spine_each}

pub count_of_types : (t : Ty) → length (coordinate_types t) ≡ length (coordinates t)
count_of_types t = length-map (coordinates t) coordinate_type

long_sides_var : (v : VarId) → long_sides (ty.Var v) ≡ atom_long_sides
unfolding long_sides
long_sides_var v = ap long_sides (sym (rolls-Var v)) ∙ para-roll-Ty _ _ long_sides_step _ _

long_sides_con : (name : NameId) (ts : List Ty) → long_sides (ty.Con name ts) ≡ atom_long_sides
unfolding long_sides
long_sides_con name ts = ap long_sides (sym (rolls-Con name ts)) ∙ para-roll-Ty _ _ long_sides_step _ _

long_sides_rec : (fields : List Field) → long_sides (ty.Rec fields) ≡ atom_long_sides
unfolding long_sides
long_sides_rec fields = ap long_sides (sym (rolls-Rec fields)) ∙ para-roll-Ty _ _ long_sides_step _ _

abbrev with_long_sides : Ty → Ty × LongSides
with_long_sides t = (t, long_sides t)

abbrev tuple_long_sides : List (Ty × LongSides) → LongSides
tuple_long_sides parts = record {
  joined = λ n holes. term.Tup (joined_each parts n holes);
  spine = λ place n e holes. spine_each parts place 1 (length parts) n e holes;
}

long_sides_tup : (ts : List Ty) → long_sides (ty.Tup ts) ≡ tuple_long_sides (map with_long_sides ts)
unfolding long_sides
long_sides_tup ts = ap long_sides (sym (rolls-Tup ts)) ∙ para-roll-Ty _ _ long_sides_step _ _

abbrev arrow_long_sides : Ty → Ty → LongSides
arrow_long_sides a b = record {
  joined = λ n holes. term.Lam a (joined b (n + 1) (map (given (references n a)) holes));
  spine = λ place n e holes. spine b place n (term.App e (joined a n (take (length (coordinates a)) holes))) (drop (length (coordinates a)) holes);
}

long_sides_arrow : (a b : Ty) → long_sides (ty.Arrow a b) ≡ arrow_long_sides a b
unfolding long_sides
long_sides_arrow a b = ap long_sides (sym (rolls-Arrow a b)) ∙ para-roll-Ty _ _ long_sides_step _ _

-- the same over the components' types alone
abbrev pub joined_all : List Ty → ℕ → List Hole → List Term
joined_all [] n holes = []
joined_all (t ∷ ts) n holes = joined t n (take (length (coordinates t)) holes) ∷ joined_all ts n (drop (length (coordinates t)) holes)

abbrev pub spine_all : List Ty → ℕ → ℕ → ℕ → ℕ → Term → List Hole → Term
spine_all [] place i count n e holes = e
spine_all (t ∷ ts) place i count n e holes =
    if ltb place (length (coordinates t)) then spine t place n (term.Proj i count e) holes
    else spine_all ts (place - length (coordinates t)) (i + 1) count n e holes

joined_each_all : (ts : List Ty) (n : ℕ) (holes : List Hole) → joined_each (map with_long_sides ts) n holes ≡ joined_all ts n holes
joined_each_all [] n holes = refl
joined_each_all (t ∷ ts) n holes = ap (λ x. joined t n (take (length (coordinates t)) holes) ∷ x) (joined_each_all ts n (drop (length (coordinates t)) holes))

spine_each_all : (ts : List Ty) (place i count n : ℕ) (e : Term) (holes : List Hole) → spine_each (map with_long_sides ts) place i count n e holes ≡ spine_all ts place i count n e holes
spine_each_all [] place i count n e holes = refl
spine_each_all (t ∷ ts) place i count n e holes =
    ap (λ x. if ltb place (length (coordinates t)) then spine t place n (term.Proj i count e) holes else x) (spine_each_all ts (place - length (coordinates t)) (i + 1) count n e holes)

-- an atom of the plain converter is one here
pub record IsLongAtom (t : Ty) : Type 0 where
  pub plain : IsAtom t
  pub long_sides_are : long_sides t ≡ atom_long_sides

pub long_atom_var : (v : VarId) → IsLongAtom (ty.Var v)
long_atom_var v = record { plain = atom_var v; long_sides_are = long_sides_var v }

pub long_atom_con : (name : NameId) (ts : List Ty) → IsLongAtom (ty.Con name ts)
long_atom_con name ts = record { plain = atom_con name ts; long_sides_are = long_sides_con name ts }

pub long_atom_rec : (fields : List Field) → IsLongAtom (ty.Rec fields)
long_atom_rec fields = record { plain = atom_rec fields; long_sides_are = long_sides_rec fields }

module _ (t : Ty) (is : IsLongAtom t) where
  pub joined_atom : (n : ℕ) (holes : List Hole) → joined t n holes ≡ first_filled holes n
  joined_atom n holes = ap (λ s. s.joined n holes) is.long_sides_are

  pub spine_atom : (place n : ℕ) (e : Term) (holes : List Hole) → spine t place n e holes ≡ e
  spine_atom place n e holes = ap (λ s. s.spine place n e holes) is.long_sides_are

pub joined_tup : (ts : List Ty) (n : ℕ) (holes : List Hole) → joined (ty.Tup ts) n holes ≡ term.Tup (joined_all ts n holes)
joined_tup ts n holes = ap (λ s. s.joined n holes) (long_sides_tup ts) ∙ ap term.Tup (joined_each_all ts n holes)

pub joined_arrow : (a b : Ty) (n : ℕ) (holes : List Hole) → joined (ty.Arrow a b) n holes ≡ term.Lam a (joined b (n + 1) (map (given (references n a)) holes))
joined_arrow a b n holes = ap (λ s. s.joined n holes) (long_sides_arrow a b)

pub spine_tup : (ts : List Ty) (place n : ℕ) (e : Term) (holes : List Hole) → spine (ty.Tup ts) place n e holes ≡ spine_all ts place 1 (length ts) n e holes
spine_tup ts place n e holes =
    ap (λ s. s.spine place n e holes) (long_sides_tup ts)
    ∙ ap (λ count. spine_each (map with_long_sides ts) place 1 count n e holes) (length-map ts with_long_sides) ∙ spine_each_all ts place 1 (length ts) n e holes

pub spine_arrow : (a b : Ty) (place n : ℕ) (e : Term) (holes : List Hole) → spine (ty.Arrow a b) place n e holes ≡ spine b place n (term.App e (joined a n (take (length (coordinates a)) holes))) (drop (length (coordinates a)) holes)
spine_arrow a b place n e holes = ap (λ s. s.spine place n e holes) (long_sides_arrow a b)

mutual
  pub data Form : Ty → Type 0 where
    atom : (t : Ty) → IsLongAtom t → IsType t → Form t
    tup : (ts : List Ty) → length ts ≢ 1 → Forms ts → Form (ty.Tup ts)
    arrow : (a b : Ty) → Form a → Form b → Form (ty.Arrow a b)

  pub data Forms : List Ty → Type 0 where
    none : Forms []
    more : (t : Ty) (ts : List Ty) → Form t → Forms ts → Forms (t ∷ ts)

abbrev HasForm : Ty → Type 0
HasForm t = IsType t → Form t

have_forms : (ts : List Ty) → EachOf HasForm ts → AreTypes ts → Forms ts
have_forms [] fs k = Forms.none
have_forms (t ∷ ts) fs k = let both = all_are_types t ts k in Forms.more t ts (fs.0 both.0) (have_forms ts fs.1 both.1)

pub form_of : (t : Ty) → IsType t → Form t
form_of = induct_type HasForm
    (λ v k. Form.atom (ty.Var v) (long_atom_var v) k)
    (λ name ts fs k. Form.atom (ty.Con name ts) (long_atom_con name ts) k)
    (λ fields fs k. Form.atom (ty.Rec fields) (long_atom_rec fields) k)
    (λ ts fs k. let parts = components_are_types ts k in Form.tup ts parts.0 (have_forms ts fs parts.1))
    (λ a b f g k. let parts = sides_are_types a b k in Form.arrow a b (f parts.0) (g parts.1))

mutual
  pub formed : {t : Ty} → Form t → Formed t
  formed (Form.atom t is k) = Formed.atom t is.plain k
  formed (Form.tup ts l fs) = Formed.tup ts l (all_formed fs)
  formed (Form.arrow a b f g) = Formed.arrow a b (formed f) (formed g)

  all_formed : {ts : List Ty} → Forms ts → AllFormed ts
  all_formed Forms.none = AllFormed.none
  all_formed (Forms.more t ts f fs) = AllFormed.more t ts (formed f) (all_formed fs)
