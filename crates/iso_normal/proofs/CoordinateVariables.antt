-- The variables of coordinates: they are among those of the type, and a pairing is of them alone.
use Rattle.std.proofs.Common.{◌≡◌, inl, inr, List, [], ◌∷◌, ◌++◌, map, sym, ap, ◌∙◌, subst, true}
use Rattle.type_core.specs.declared.coordinate.Coordinate.{Coordinate}
use Rattle.type_core.specs.declared.coordinate.Coordinate.TheFolds.{fold_out-Coordinate}
use Rattle.type_core.specs.declared.ty.VarId.{VarId}
use Rattle.type_core.specs.declared.ty.Ty.{Ty}
use Rattle.type_core.specs.declared.ty.Ty.TheVariants as ty
use Rattle.type_core.specs.Coordinates.{arguments_of, atom, coordinate, coordinates, head_of, taking}
use Rattle.type_core.specs.Lists.{concatenated}
use Rattle.type_core.specs.Renaming.{Renaming, renamed}
use Rattle.type_core.specs.Variables.{occurs, same_variable, variables}
use Rattle.type_core.proofs.Places.{Within, left_or, occurs_left, occurs_right, right_or, same_is}
use Rattle.type_core.proofs.Renamed.{variables_renamed}
use Rattle.type_core.proofs.Trees.{EachOf, induct_type, coordinates_var, coordinates_con, coordinates_rec, coordinates_tup, coordinates_arrow, variables_tup, variables_arrow}
use Rattle.iso_axioms.proofs.Extended.{or_cases}
use Rattle.iso_normal.specs.declared.pair_tree.PairTree.{PairTree}
use Rattle.iso_normal.specs.declared.pair_tree.Entry.{Entry}
use Rattle.iso_normal.specs.Consistency.{Turns, variables_among, variables_step}
use Rattle.iso_normal.specs.PairTrees.{args_of}
use Rattle.iso_normal.specs.Pairings as pairing
use Rattle.iso_normal.specs.Pairings.{PairEach, Pairs, pairs}
use Rattle.iso_normal.proofs.Permutations.{some_injective}
use Rattle.iso_normal.proofs.Taking.{arguments_made, head_made}

-- what holds of each variable of two lists holds of each of them joined
abbrev OfEach : (VarId → Type 0) → List VarId → Type 0
OfEach P vs = (v : VarId) → occurs v vs ≡ true → P v

each_append : (P : VarId → Type 0) (vs ws : List VarId) → OfEach P vs → OfEach P ws → OfEach P (vs ++ ws)
each_append P [] ws p q v e = q v e
each_append P (x ∷ vs) ws p q v e = elim (or_cases (same_variable v x) (occurs v (vs ++ ws)) e) [
  | inl a ↦ p v (left_or (same_variable v x) (occurs v vs) a)
  | inr b ↦ each_append P vs ws (λ w f. p w (right_or (same_variable w x) (occurs w vs) f)) q v b
]

within_append : (all vs ws : List VarId) → Within all vs → Within all ws → Within all (vs ++ ws)
within_append all = each_append (λ v. occurs v all ≡ true)

-- the variables of coordinates
variables_more : (c : Coordinate) (cs : List Coordinate) → variables_among (c ∷ cs) ≡ (variables (head_of c) ++ variables_among (arguments_of c)) ++ variables_among cs
variables_more c cs = ap (λ vs. vs ++ variables_among cs) (fold_out-Coordinate (List VarId) variables_step c)

module _ (all : List VarId) where
  abbrev IsInside : List Coordinate → Type 0
  IsInside cs = Within all (variables_among cs)

  none_inside : IsInside []
  none_inside v e = absurd (cc e)

  more_inside : (c : Coordinate) (cs : List Coordinate) → IsInside (arguments_of c) → Within all (variables (head_of c)) → IsInside cs → IsInside (c ∷ cs)
  more_inside c cs p q others = subst (Within all) (sym (variables_more c cs)) (within_append all _ _ (within_append all _ _ q p) others)

  record Inside (c : Coordinate) (cs : List Coordinate) : Type 0 where
    arguments : IsInside (arguments_of c)
    head : Within all (variables (head_of c))
    others : IsInside cs

  parts_inside : (c : Coordinate) (cs : List Coordinate) → IsInside (c ∷ cs) → Inside c cs
  parts_inside c cs p =
      let q = subst (Within all) (variables_more c cs) p in
      record {
        arguments = λ v e. q v (occurs_left v _ _ (occurs_right v (variables (head_of c)) _ e));
        head = λ v e. q v (occurs_left v _ _ (occurs_left v _ _ e));
        others = λ v e. q v (occurs_right v (variables (head_of c) ++ variables_among (arguments_of c)) _ e);
      }

  append_inside : (cs ds : List Coordinate) → IsInside cs → IsInside ds → IsInside (cs ++ ds)
  append_inside [] ds p q = q
  append_inside (c ∷ cs) ds p q = let parts = parts_inside c cs p in more_inside c (cs ++ ds) parts.arguments parts.head (append_inside cs ds parts.others q)

  taking_inside : (xs cs : List Coordinate) → IsInside xs → IsInside cs → IsInside (map (taking xs) cs)
  taking_inside xs [] p q = none_inside
  taking_inside xs (c ∷ cs) p q =
      let parts = parts_inside c cs q in
      more_inside (taking xs c) (map (taking xs) cs)
      (subst IsInside (sym (arguments_made (xs ++ arguments_of c) (head_of c))) (append_inside xs (arguments_of c) p parts.arguments))
      (subst (λ h. Within all (variables h)) (sym (head_made (xs ++ arguments_of c) (head_of c))) parts.head)
      (taking_inside xs cs p parts.others)

  atom_inside : (t : Ty) → Within all (variables t) → IsInside (atom t)
  atom_inside t p = more_inside (coordinate [] t) [] (subst IsInside (sym (arguments_made [] t)) none_inside) (subst (λ h. Within all (variables h)) (sym (head_made [] t)) p) none_inside

-- the variables of the coordinates are among those of the type
abbrev HasInside : Ty → Type 0
HasInside t = (all : List VarId) → Within all (variables t) → IsInside all (coordinates t)

all_inside : (ts : List Ty) → EachOf HasInside ts → (all : List VarId) → Within all (concatenated (map variables ts)) → IsInside all (concatenated (map coordinates ts))
all_inside [] each all p = none_inside all
all_inside (t ∷ ts) each all p =
    append_inside all (coordinates t) _ (each.0 all (λ v e. p v (occurs_left v (variables t) _ e))) (all_inside ts each.1 all (λ v e. p v (occurs_right v (variables t) _ e)))

one_inside : (t : Ty) → coordinates t ≡ atom t → HasInside t
one_inside t e all p = subst (IsInside all) (sym e) (atom_inside all t p)

type_inside : (t : Ty) → HasInside t
type_inside = induct_type HasInside
    (λ v. one_inside (ty.Var v) (coordinates_var v))
    (λ name ts each. one_inside (ty.Con name ts) (coordinates_con name ts))
    (λ fields each. one_inside (ty.Rec fields) (coordinates_rec fields))
    (λ ts each all p. subst (IsInside all) (sym (coordinates_tup ts)) (all_inside ts each all (subst (Within all) (variables_tup ts) p)))
    (λ a b x y all p. let q = subst (Within all) (variables_arrow a b) p in
    subst (IsInside all) (sym (coordinates_arrow a b)) (taking_inside all (coordinates a) (coordinates b) (x all (λ v e. q v (occurs_left v _ _ e))) (y all (λ v e. q v (occurs_right v (variables a) _ e)))))

pub variables_within : (t : Ty) → Within (variables t) (variables_among (coordinates t))
variables_within t = type_inside t (variables t) (λ v e. e)

-- a pairing under one relation of heads is one under another, where heads of these variables go over
module _ {H K : Ty → Ty → Type 0} (all : List VarId) (over : (h k : Ty) → Within all (variables h) → H h k → K h k) where
  mutual
    pub pairs_over : {c d : List Coordinate} {p : PairTree} → Pairs H c d p → Within all (variables_among c) → Pairs K c d p
    pairs_over (pairs l distinct each) i = pairs l distinct (each_over each i)

    pub each_over : {c d : List Coordinate} {es : List Entry} → PairEach H c d es → Within all (variables_among c) → PairEach K c d es
    each_over pairing.none i = pairing.none
    each_over (pairing.more {a} {b} {c} at head inside others) i =
        let parts = parts_inside all a c i in
        pairing.more at (over (head_of a) (head_of b) parts.head head) (pairs_over inside parts.arguments) (each_over others parts.others)

-- two renamings that turn the heads of a pairing into the same heads are one on its variables
module _ (g h : Renaming) where
  abbrev AreOneOn : List VarId → Type 0
  AreOneOn = OfEach (λ v. g v ≡ h v)

  one_on_map : (vs : List VarId) → map g vs ≡ map h vs → AreOneOn vs
  one_on_map [] e v o = absurd (cc o)
  one_on_map (w ∷ vs) e v o = elim (or_cases (same_variable v w) (occurs v vs) o) [
    | inl a ↦ subst (λ u. g u ≡ h u) (sym (same_is v w a)) (cc e)
    | inr b ↦ one_on_map vs (cc e) v b
  ]

  one_on_head : (t u : Ty) → renamed g t ≡ u → renamed h t ≡ u → AreOneOn (variables t)
  one_on_head t u e f = one_on_map (variables t) (sym (variables_renamed g t) ∙ ap variables (e ∙ sym f) ∙ variables_renamed h t)

  module _ {H : Ty → Ty → Type 0} (left : (t u : Ty) → H t u → renamed g t ≡ u) (right : (t u : Ty) → H t u → renamed h t ≡ u) where
    mutual
      pairs_one : {c d : List Coordinate} {p : PairTree} → Pairs H c d p → AreOneOn (variables_among c)
      pairs_one (pairs l distinct each) = each_one each

      pub each_one : {c d : List Coordinate} {es : List Entry} → PairEach H c d es → AreOneOn (variables_among c)
      each_one pairing.none = λ v o. absurd (cc o)
      each_one (pairing.more {a} {b} {c} at head inside others) =
          subst AreOneOn (sym (variables_more a c))
          (each_append _ (variables (head_of a) ++ variables_among (arguments_of a)) (variables_among c)
          (each_append _ (variables (head_of a)) (variables_among (arguments_of a)) (one_on_head (head_of a) (head_of b) (left _ _ head) (right _ _ head)) (pairs_one inside)) (each_one others))

-- so are they where each turns the heads of one pairing
abbrev Both : (Ty → Ty → Type 0) → (Ty → Ty → Type 0) → Ty → Ty → Type 0
Both H K h k = H h k × K h k

module _ {H K : Ty → Ty → Type 0} where
  mutual
    pairs_both : {c d : List Coordinate} {p : PairTree} → Pairs H c d p → Pairs K c d p → Pairs (Both H K) c d p
    pairs_both (pairs l distinct each) (pairs _ _ others) = pairs l distinct (each_both each others)

    each_both : {c d : List Coordinate} {es : List Entry} → PairEach H c d es → PairEach K c d es → PairEach (Both H K) c d es
    each_both pairing.none pairing.none = pairing.none
    each_both (pairing.more {a} {b} {e} at head inside others) (pairing.more {b = partner} also head_too inside_too others_too) =
        let same : partner ≡ b = some_injective partner b (sym also ∙ at) in
        pairing.more at (head, subst (λ x. K (head_of a) (head_of x)) same head_too)
        (pairs_both inside (subst (λ x. Pairs K (arguments_of a) (arguments_of x) (args_of e)) same inside_too)) (each_both others others_too)

pub pairs_fix : (g h : Renaming) {c d : List Coordinate} {p : PairTree} → Pairs (Turns g) c d p → Pairs (Turns h) c d p → (v : VarId) → occurs v (variables_among c) ≡ true → g v ≡ h v
pairs_fix g h first second = pairs_one g h (λ t u e. e.0) (λ t u e. e.1) (pairs_both first second)
