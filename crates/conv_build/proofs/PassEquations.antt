-- The equations of the two passes at each form of type.
use Rattle.std.proofs.Common.{◌≡◌, ℕ, ◌+◌, ◌-◌, ltb, if◌then◌else◌, List, [], ◌∷◌, ◌++◌, map, length, take, drop, refl, sym, ap, ap₂, ◌∙◌, arith, zero, suc, append-nil, length-append}
use Rattle.std.proofs.lemmas.List.{append_assoc, drop-take, length-map}
use Rattle.type_core.specs.declared.ty.VarId.{VarId}
use Rattle.type_core.specs.declared.ty.NameId.{NameId}
use Rattle.type_core.specs.declared.ty.Ty.{Ty}
use Rattle.type_core.specs.declared.ty.Field.{Field}
use Rattle.type_core.specs.declared.ty.Ty.TheVariants as ty
use Rattle.type_core.specs.declared.ty.Ty.TheVariants.{rolls-Var, rolls-Con, rolls-Rec, rolls-Tup, rolls-Arrow}
use Rattle.type_core.specs.declared.ty.Ty.TheFolds.{para-roll-Ty}
use Rattle.type_core.specs.Coordinates.{coordinates, taking}
use Rattle.type_core.specs.Lists.{concatenated}
use Rattle.type_core.proofs.Trees.{induct_type, coordinates_var, coordinates_con, coordinates_rec, coordinates_tup, coordinates_arrow}
use Rattle.conv_terms.specs.declared.term.Term.{Term}
use Rattle.conv_terms.specs.declared.term.Term.TheVariants as term
use Rattle.conv_plain.specs.Functions.{first_of}
use Rattle.conv_build.specs.direct.References.{Reference, references}
use Rattle.conv_build.specs.direct.TwoPasses.{Leaf, Passes, atom_passes, behind, built, built_all, built_each, leaf, leaves, leaves_all, leaves_each, passes, passes_step, reached, reached_each, rest_all, way, way_each}

pub passes_var : (v : VarId) → passes (ty.Var v) ≡ atom_passes
unfolding passes
passes_var v = ap passes (sym (rolls-Var v)) ∙ para-roll-Ty _ _ passes_step _ _

pub passes_con : (name : NameId) (ts : List Ty) → passes (ty.Con name ts) ≡ atom_passes
unfolding passes
passes_con name ts = ap passes (sym (rolls-Con name ts)) ∙ para-roll-Ty _ _ passes_step _ _

pub passes_rec : (fields : List Field) → passes (ty.Rec fields) ≡ atom_passes
unfolding passes
passes_rec fields = ap passes (sym (rolls-Rec fields)) ∙ para-roll-Ty _ _ passes_step _ _

abbrev with_passes : Ty → Ty × Passes
with_passes t = (t, passes t)

abbrev tuple_passes : List (Ty × Passes) → Passes
tuple_passes parts = record {
  leaves = leaves_each parts;
  built = λ terms. term.Tup (built_each parts terms);
  way = way_each parts;
  reached = λ place e terms. reached_each parts place 1 (length parts) e terms;
}

passes_tup : (ts : List Ty) → passes (ty.Tup ts) ≡ tuple_passes (map with_passes ts)
unfolding passes
passes_tup ts = ap passes (sym (rolls-Tup ts)) ∙ para-roll-Ty _ _ passes_step _ _

abbrev arrow_passes : Ty → Ty → Passes
arrow_passes a b = record {
  leaves = λ n. map (behind (references n a)) (leaves b (n + 1));
  built = λ terms. term.Lam a (built b terms);
  way = λ place n. leaves a n ++ way b place n;
  reached = λ place e terms. reached b place (term.App e (built a (take (length (coordinates a)) terms))) (drop (length (coordinates a)) terms);
}

passes_arrow : (a b : Ty) → passes (ty.Arrow a b) ≡ arrow_passes a b
unfolding passes
passes_arrow a b = ap passes (sym (rolls-Arrow a b)) ∙ para-roll-Ty _ _ passes_step _ _

-- leaves, with more arguments before their own
behind_twice : (first more : List Reference) (leaves : List Leaf) → map (behind (first ++ more)) leaves ≡ map (behind first) (map (behind more) leaves)
behind_twice first more [] = refl
behind_twice first more (l ∷ leaves) = ap₂ ◌∷◌ (ap (leaf l.depth) (append_assoc first more l.arguments)) (behind_twice first more leaves)

pub behind_none : (leaves : List Leaf) → map (behind []) leaves ≡ leaves
behind_none [] = refl
behind_none (l ∷ leaves) = ap (λ x. l ∷ x) (behind_none leaves)

behind_atom : (t : Ty) (first : List Reference) (n : ℕ) → passes t ≡ atom_passes → map (behind first) (leaves t n) ≡ leaf n first ∷ []
behind_atom t first n is = ap (λ p. map (behind first) (p.leaves n)) is ∙ ap (λ x. leaf n x ∷ []) (append-nil first)

pub behind_var : (v : VarId) (first : List Reference) (n : ℕ) → map (behind first) (leaves (ty.Var v) n) ≡ leaf n first ∷ []
behind_var v first n = behind_atom (ty.Var v) first n (passes_var v)

pub behind_con : (name : NameId) (ts : List Ty) (first : List Reference) (n : ℕ) → map (behind first) (leaves (ty.Con name ts) n) ≡ leaf n first ∷ []
behind_con name ts first n = behind_atom (ty.Con name ts) first n (passes_con name ts)

pub behind_rec : (fields : List Field) (first : List Reference) (n : ℕ) → map (behind first) (leaves (ty.Rec fields) n) ≡ leaf n first ∷ []
behind_rec fields first n = behind_atom (ty.Rec fields) first n (passes_rec fields)

leaves_each_all : (ts : List Ty) (n : ℕ) → leaves_each (map with_passes ts) n ≡ leaves_all ts n
leaves_each_all [] n = refl
leaves_each_all (t ∷ ts) n = ap (λ x. leaves t n ++ x) (leaves_each_all ts n)

pub leaves_tup : (ts : List Ty) (n : ℕ) → leaves (ty.Tup ts) n ≡ leaves_all ts n
leaves_tup ts n = ap (λ p. p.leaves n) (passes_tup ts) ∙ leaves_each_all ts n

pub behind_tup : (ts : List Ty) (first : List Reference) (n : ℕ) → map (behind first) (leaves (ty.Tup ts) n) ≡ map (behind first) (leaves_all ts n)
behind_tup ts first n = ap (map (behind first)) (leaves_tup ts n)

pub leaves_arrow : (a b : Ty) (n : ℕ) → leaves (ty.Arrow a b) n ≡ map (behind (references n a)) (leaves b (n + 1))
leaves_arrow a b n = ap (λ p. p.leaves n) (passes_arrow a b)

pub behind_arrow : (a b : Ty) (first : List Reference) (n : ℕ) → map (behind first) (leaves (ty.Arrow a b) n) ≡ map (behind (first ++ references n a)) (leaves b (n + 1))
behind_arrow a b first n = ap (map (behind first)) (leaves_arrow a b n) ∙ sym (behind_twice first (references n a) (leaves b (n + 1)))

pub ruleset leaves_behind = (behind_var, behind_con, behind_rec, behind_tup, behind_arrow, behind_none)

-- the way to a place
pub way_var : (v : VarId) (place n : ℕ) → way (ty.Var v) place n ≡ []
way_var v place n = ap (λ p. p.way place n) (passes_var v)

pub way_con : (name : NameId) (ts : List Ty) (place n : ℕ) → way (ty.Con name ts) place n ≡ []
way_con name ts place n = ap (λ p. p.way place n) (passes_con name ts)

pub way_rec : (fields : List Field) (place n : ℕ) → way (ty.Rec fields) place n ≡ []
way_rec fields place n = ap (λ p. p.way place n) (passes_rec fields)

-- the leaves on the way to a place of the tuple of these types
abbrev pub way_all : List Ty → ℕ → ℕ → List Leaf
way_all [] place n = []
way_all (t ∷ ts) place n = if ltb place (length (coordinates t)) then way t place n else way_all ts (place - length (coordinates t)) n

way_each_all : (ts : List Ty) (place n : ℕ) → way_each (map with_passes ts) place n ≡ way_all ts place n
way_each_all [] place n = refl
way_each_all (t ∷ ts) place n = ap (λ x. if ltb place (length (coordinates t)) then way t place n else x) (way_each_all ts (place - length (coordinates t)) n)

pub way_tup : (ts : List Ty) (place n : ℕ) → way (ty.Tup ts) place n ≡ way_all ts place n
way_tup ts place n = ap (λ p. p.way place n) (passes_tup ts) ∙ way_each_all ts place n

pub way_arrow : (a b : Ty) (place n : ℕ) → way (ty.Arrow a b) place n ≡ leaves a n ++ way b place n
way_arrow a b place n = ap (λ p. p.way place n) (passes_arrow a b)

pub ruleset way_at = (way_var, way_con, way_rec, way_tup, way_arrow)

-- how many coordinates there are
pub count_var : (v : VarId) → length (coordinates (ty.Var v)) ≡ 1
count_var v = ap length (coordinates_var v)

pub count_con : (name : NameId) (ts : List Ty) → length (coordinates (ty.Con name ts)) ≡ 1
count_con name ts = ap length (coordinates_con name ts)

pub count_rec : (fields : List Field) → length (coordinates (ty.Rec fields)) ≡ 1
count_rec fields = ap length (coordinates_rec fields)

pub count_arrow : (a b : Ty) → length (coordinates (ty.Arrow a b)) ≡ length (coordinates b)
count_arrow a b = ap length (coordinates_arrow a b) ∙ length-map (coordinates b) (taking (coordinates a))

abbrev count_of_all : List Ty → ℕ
count_of_all [] = 0
count_of_all (t ∷ ts) = length (coordinates t) + count_of_all ts

count_concatenated : (ts : List Ty) → length (concatenated (map coordinates ts)) ≡ count_of_all ts
count_concatenated [] = refl
count_concatenated (t ∷ ts) = length-append (coordinates t) (concatenated (map coordinates ts)) ∙ ap (λ n. length (coordinates t) + n) (count_concatenated ts)

count_tup : (ts : List Ty) → length (coordinates (ty.Tup ts)) ≡ count_of_all ts
count_tup ts = ap length (coordinates_tup ts) ∙ count_concatenated ts

drop_none : (n : ℕ) → drop {A = Term} n [] ≡ []
drop_none zero = refl
drop_none (suc n) = refl

drop_sum : (n m : ℕ) (terms : List Term) → drop m (drop n terms) ≡ drop (n + m) terms
drop_sum zero m terms = let all : 0 + m ≡ m = omega arith in ap (λ k. drop k terms) (sym all)
drop_sum (suc n) m [] = drop_none m ∙ sym (drop_none (suc n + m))
drop_sum (suc n) m (t ∷ terms) = let more : suc n + m ≡ suc (n + m) = omega arith in drop_sum n m terms ∙ ap (λ k. drop k (t ∷ terms)) (sym more)

rest_is : (ts : List Ty) (terms : List Term) → rest_all ts terms ≡ drop (count_of_all ts) terms
rest_is [] terms = refl
rest_is (t ∷ ts) terms = rest_is ts (drop (length (coordinates t)) terms) ∙ drop_sum (length (coordinates t)) (count_of_all ts) terms

pub drop_var : (v : VarId) (terms : List Term) → drop (length (coordinates (ty.Var v))) terms ≡ drop 1 terms
drop_var v terms = ap (λ n. drop n terms) (count_var v)

pub drop_con : (name : NameId) (ts : List Ty) (terms : List Term) → drop (length (coordinates (ty.Con name ts))) terms ≡ drop 1 terms
drop_con name ts terms = ap (λ n. drop n terms) (count_con name ts)

pub drop_rec : (fields : List Field) (terms : List Term) → drop (length (coordinates (ty.Rec fields))) terms ≡ drop 1 terms
drop_rec fields terms = ap (λ n. drop n terms) (count_rec fields)

pub drop_tup : (ts : List Ty) (terms : List Term) → drop (length (coordinates (ty.Tup ts))) terms ≡ rest_all ts terms
drop_tup ts terms = ap (λ n. drop n terms) (count_tup ts) ∙ sym (rest_is ts terms)

pub drop_arrow : (a b : Ty) (terms : List Term) → drop (length (coordinates (ty.Arrow a b))) terms ≡ drop (length (coordinates b)) terms
drop_arrow a b terms = ap (λ n. drop n terms) (count_arrow a b)

-- more terms than there are atoms change nothing
first_enough : (n : ℕ) (terms : List Term) → n ≡ 1 → first_of (take n terms) ≡ first_of terms
first_enough n [] is = ap (λ n. first_of (take n [])) is
first_enough n (t ∷ terms) is = ap (λ n. first_of (take n (t ∷ terms))) is

pub built_var : (v : VarId) (terms : List Term) → built (ty.Var v) terms ≡ first_of terms
built_var v terms = ap (λ p. p.built terms) (passes_var v)

pub built_con : (name : NameId) (ts : List Ty) (terms : List Term) → built (ty.Con name ts) terms ≡ first_of terms
built_con name ts terms = ap (λ p. p.built terms) (passes_con name ts)

pub built_rec : (fields : List Field) (terms : List Term) → built (ty.Rec fields) terms ≡ first_of terms
built_rec fields terms = ap (λ p. p.built terms) (passes_rec fields)

pub built_arrow : (a b : Ty) (terms : List Term) → built (ty.Arrow a b) terms ≡ term.Lam a (built b terms)
built_arrow a b terms = ap (λ p. p.built terms) (passes_arrow a b)

abbrev Enough : Ty → Type 0
Enough t = (terms : List Term) → built t (take (length (coordinates t)) terms) ≡ built t terms

take_less : (n m : ℕ) (terms : List Term) → take n (take (n + m) terms) ≡ take n terms
take_less zero m terms = refl
take_less (suc n) m [] = let more : suc n + m ≡ suc (n + m) = omega arith in ap (λ k. take (suc n) (take {A = Term} k [])) more
take_less (suc n) m (t ∷ terms) = let more : suc n + m ≡ suc (n + m) = omega arith in ap (λ k. take (suc n) (take k (t ∷ terms))) more ∙ ap (λ x. t ∷ x) (take_less n m terms)

enough_each : (ts : List Ty) → (terms : List Term) → built_each (map with_passes ts) (take (count_of_all ts) terms) ≡ built_each (map with_passes ts) terms
enough_each [] terms = refl
enough_each (t ∷ ts) terms =
    ap₂ ◌∷◌ (ap (built t) (take_less (length (coordinates t)) (count_of_all ts) terms))
    (ap (built_each (map with_passes ts)) (drop-take (length (coordinates t)) (count_of_all ts) terms) ∙ enough_each ts (drop (length (coordinates t)) terms))

pub built_enough : (t : Ty) (terms : List Term) → built t (take (length (coordinates t)) terms) ≡ built t terms
built_enough = induct_type Enough
    (λ v terms. built_var v _ ∙ first_enough _ terms (count_var v) ∙ sym (built_var v terms))
    (λ name ts _ terms. built_con name ts _ ∙ first_enough _ terms (count_con name ts) ∙ sym (built_con name ts terms))
    (λ fields _ terms. built_rec fields _ ∙ first_enough _ terms (count_rec fields) ∙ sym (built_rec fields terms))
    (λ ts _ terms.
    ap (λ p. p.built (take (length (coordinates (ty.Tup ts))) terms)) (passes_tup ts)
    ∙ ap (λ n. term.Tup (built_each (map with_passes ts) (take n terms))) (count_tup ts)
    ∙ ap term.Tup (enough_each ts terms) ∙ sym (ap (λ p. p.built terms) (passes_tup ts)))
    (λ a b _ enough terms.
    built_arrow a b _ ∙ ap (λ n. term.Lam a (built b (take n terms))) (count_arrow a b)
    ∙ ap (term.Lam a) (enough terms) ∙ sym (built_arrow a b terms))

built_each_all : (ts : List Ty) (terms : List Term) → built_each (map with_passes ts) terms ≡ built_all ts terms
built_each_all [] terms = refl
built_each_all (t ∷ ts) terms = ap₂ ◌∷◌ (built_enough t terms) (built_each_all ts (drop (length (coordinates t)) terms))

pub built_tup : (ts : List Ty) (terms : List Term) → built (ty.Tup ts) terms ≡ term.Tup (built_all ts terms)
built_tup ts terms = ap (λ p. p.built terms) (passes_tup ts) ∙ ap term.Tup (built_each_all ts terms)

pub ruleset built_at = (built_var, built_con, built_rec, built_tup, built_arrow, drop_var, drop_con, drop_rec, drop_tup, drop_arrow)

-- the coordinate at a place
pub reached_var : (v : VarId) (place : ℕ) (e : Term) (terms : List Term) → reached (ty.Var v) place e terms ≡ e
reached_var v place e terms = ap (λ p. p.reached place e terms) (passes_var v)

pub reached_con : (name : NameId) (ts : List Ty) (place : ℕ) (e : Term) (terms : List Term) → reached (ty.Con name ts) place e terms ≡ e
reached_con name ts place e terms = ap (λ p. p.reached place e terms) (passes_con name ts)

pub reached_rec : (fields : List Field) (place : ℕ) (e : Term) (terms : List Term) → reached (ty.Rec fields) place e terms ≡ e
reached_rec fields place e terms = ap (λ p. p.reached place e terms) (passes_rec fields)

-- the coordinate at the place of the tuple of these types, whose components count from i on
abbrev pub reached_all : List Ty → ℕ → ℕ → ℕ → Term → List Term → Term
reached_all [] place i count e terms = e
reached_all (t ∷ ts) place i count e terms =
    if ltb place (length (coordinates t)) then reached t place (term.Proj i count e) terms
    else reached_all ts (place - length (coordinates t)) (i + 1) count e terms

reached_each_all : (ts : List Ty) (place i count : ℕ) (e : Term) (terms : List Term) → reached_each (map with_passes ts) place i count e terms ≡ reached_all ts place i count e terms
reached_each_all [] place i count e terms = refl
reached_each_all (t ∷ ts) place i count e terms =
    ap (λ x. if ltb place (length (coordinates t)) then reached t place (term.Proj i count e) terms else x) (reached_each_all ts (place - length (coordinates t)) (i + 1) count e terms)

pub reached_tup : (ts : List Ty) (place : ℕ) (e : Term) (terms : List Term) → reached (ty.Tup ts) place e terms ≡ reached_all ts place 1 (length ts) e terms
reached_tup ts place e terms =
    ap (λ p. p.reached place e terms) (passes_tup ts)
    ∙ ap (λ count. reached_each (map with_passes ts) place 1 count e terms) (length-map ts with_passes) ∙ reached_each_all ts place 1 (length ts) e terms

pub reached_arrow : (a b : Ty) (place : ℕ) (e : Term) (terms : List Term) → reached (ty.Arrow a b) place e terms ≡ reached b place (term.App e (built a terms)) (drop (length (coordinates a)) terms)
reached_arrow a b place e terms =
    ap (λ p. p.reached place e terms) (passes_arrow a b)
    ∙ ap (λ x. reached b place (term.App e x) (drop (length (coordinates a)) terms)) (built_enough a terms)

pub ruleset reached_at = (reached_var, reached_con, reached_rec, reached_tup, reached_arrow)
