-- Pairings under a renaming are pairings of the renamed coordinates.
use Rattle.std.proofs.Common.{◌≡◌, List, [], ◌∷◌, ◌++◌, map, length, refl, sym, ap, ap₂, ◌∙◌, subst}
use Rattle.std.proofs.lemmas.List.{length-map, map-append}
use Rattle.type_core.specs.declared.coordinate.Coordinate.{Coordinate}
use Rattle.type_core.specs.declared.coordinate.Coordinate.TheFolds.{fold-roll-Coordinate, fold_out-Coordinate}
use Rattle.type_core.specs.declared.ty.Ty.{Ty}
use Rattle.type_core.specs.declared.ty.Ty.TheVariants as ty
use Rattle.type_core.specs.Coordinates.{arguments_of, atom, coordinate, coordinates, head_of, taking}
use Rattle.type_core.specs.Lists.{concatenated}
use Rattle.type_core.specs.Renaming.{Renaming, field_renamed, renamed}
use Rattle.type_core.proofs.Trees.{EachOf, induct_type, coordinates_var, coordinates_con, coordinates_rec, coordinates_tup, coordinates_arrow, renamed_var, renamed_con, renamed_rec, renamed_tup, renamed_arrow}
use Rattle.iso_normal.specs.Consistency.{IsConsistent, Turns, renamed_coordinate, renamed_step}
use Rattle.iso_normal.specs.declared.pair_tree.PairTree.{PairTree}
use Rattle.iso_normal.specs.declared.pair_tree.Entry.{Entry}
use Rattle.iso_normal.specs.PairTrees.{args_of}
use Rattle.iso_normal.specs.Pairings as pairing
use Rattle.iso_normal.specs.Pairings.{PairEach, Pairs, pairs}
use Rattle.iso_normal.proofs.Paired.{same_first, same_rest}
use Rattle.iso_normal.proofs.Taking.{arguments_made, head_made}

module _ (r : Renaming) where
  abbrev pub all_renamed : List Coordinate → List Coordinate
  all_renamed cs = map (renamed_coordinate r) cs

  renamed_is : (c : Coordinate) → renamed_coordinate r c ≡ coordinate (all_renamed (arguments_of c)) (renamed r (head_of c))
  renamed_is c = fold_out-Coordinate Coordinate (renamed_step r) c

  renamed_of : (arguments : List Coordinate) (head : Ty) → renamed_coordinate r (coordinate arguments head) ≡ coordinate (all_renamed arguments) (renamed r head)
  renamed_of arguments head = fold-roll-Coordinate Coordinate (renamed_step r) _

  arguments_renamed : (c : Coordinate) → arguments_of (renamed_coordinate r c) ≡ all_renamed (arguments_of c)
  arguments_renamed c = ap arguments_of (renamed_is c) ∙ arguments_made _ _

  head_renamed : (c : Coordinate) → head_of (renamed_coordinate r c) ≡ renamed r (head_of c)
  head_renamed c = ap head_of (renamed_is c) ∙ head_made _ _

  taking_renamed : (xs : List Coordinate) (c : Coordinate) → taking (all_renamed xs) (renamed_coordinate r c) ≡ renamed_coordinate r (taking xs c)
  taking_renamed xs c = ap₂ coordinate (ap (λ ys. all_renamed xs ++ ys) (arguments_renamed c) ∙ sym (map-append (renamed_coordinate r) xs (arguments_of c))) (head_renamed c)
      ∙ sym (renamed_of (xs ++ arguments_of c) (head_of c))

  all_taking_renamed : (xs cs : List Coordinate) → map (taking (all_renamed xs)) (all_renamed cs) ≡ all_renamed (map (taking xs) cs)
  all_taking_renamed xs [] = refl
  all_taking_renamed xs (c ∷ cs) = ap₂ ◌∷◌ (taking_renamed xs c) (all_taking_renamed xs cs)

  abbrev IsRenamed : Ty → Type 0
  IsRenamed t = coordinates (renamed r t) ≡ all_renamed (coordinates t)

  atom_renamed : (t : Ty) → atom (renamed r t) ≡ all_renamed (atom t)
  atom_renamed t = ap (λ c. c ∷ []) (sym (renamed_of [] t))

  one_renamed : (t u : Ty) → renamed r t ≡ u → coordinates u ≡ atom u → coordinates t ≡ atom t → IsRenamed t
  one_renamed t u e first second = ap coordinates e ∙ first ∙ ap atom (sym e) ∙ atom_renamed t ∙ ap all_renamed (sym second)

  parts_renamed : (ts : List Ty) → EachOf IsRenamed ts → concatenated (map coordinates (map (renamed r) ts)) ≡ all_renamed (concatenated (map coordinates ts))
  parts_renamed [] each = refl
  parts_renamed (t ∷ ts) each = ap₂ ◌++◌ each.0 (parts_renamed ts each.1) ∙ sym (map-append (renamed_coordinate r) (coordinates t) (concatenated (map coordinates ts)))

  -- the coordinates of the renamed type
  pub coordinates_renamed : (t : Ty) → coordinates (renamed r t) ≡ all_renamed (coordinates t)
  coordinates_renamed = induct_type IsRenamed
      (λ v. one_renamed (ty.Var v) (ty.Var (r v)) (renamed_var r v) (coordinates_var (r v)) (coordinates_var v))
      (λ name ts each. one_renamed (ty.Con name ts) (ty.Con name (map (renamed r) ts)) (renamed_con r name ts) (coordinates_con name (map (renamed r) ts)) (coordinates_con name ts))
      (λ fields each. one_renamed (ty.Rec fields) (ty.Rec (map (field_renamed r) fields)) (renamed_rec r fields) (coordinates_rec (map (field_renamed r) fields)) (coordinates_rec fields))
      (λ ts each. ap coordinates (renamed_tup r ts) ∙ coordinates_tup (map (renamed r) ts) ∙ parts_renamed ts each ∙ ap all_renamed (sym (coordinates_tup ts)))
      (λ a b p q. ap coordinates (renamed_arrow r a b) ∙ coordinates_arrow (renamed r a) (renamed r b) ∙ ap₂ (λ xs cs. map (taking xs) cs) p q
      ∙ all_taking_renamed (coordinates a) (coordinates b) ∙ ap all_renamed (sym (coordinates_arrow a b)))

  mutual
    pub pairs_renamed : {c d : List Coordinate} {p : PairTree} → Pairs (Turns r) c d p → Pairs ◌≡◌ (all_renamed c) d p
    pairs_renamed {c} (pairs l distinct each) = pairs (length-map c (renamed_coordinate r) ∙ l) distinct (each_renamed each)

    each_renamed : {c d : List Coordinate} {es : List Entry} → PairEach (Turns r) c d es → PairEach ◌≡◌ (all_renamed c) d es
    each_renamed pairing.none = pairing.none
    each_renamed (pairing.more {a} {b} {e} at head inside others) =
        pairing.more at (head_renamed a ∙ head) (subst (λ xs. Pairs ◌≡◌ xs (arguments_of b) (args_of e)) (sym (arguments_renamed a)) (pairs_renamed inside)) (each_renamed others)

  mutual
    pub renamed_pairs : {cs d : List Coordinate} {p : PairTree} → Pairs ◌≡◌ cs d p → (c : List Coordinate) → cs ≡ all_renamed c → Pairs (Turns r) c d p
    renamed_pairs (pairs l distinct each) c e = pairs (sym (length-map c (renamed_coordinate r)) ∙ sym (ap length e) ∙ l) distinct (renamed_each each c e)

    renamed_each : {cs d : List Coordinate} {es : List Entry} → PairEach ◌≡◌ cs d es → (c : List Coordinate) → cs ≡ all_renamed c → PairEach (Turns r) c d es
    renamed_each pairing.none [] e = pairing.none
    renamed_each pairing.none (a ∷ c) e = absurd (cc e)
    renamed_each (pairing.more at head inside others) [] e = absurd (cc e)
    renamed_each (pairing.more {a = f} at head inside others) (a ∷ c) e =
        let same = same_first e in
        pairing.more at (sym (head_renamed a) ∙ sym (ap head_of same) ∙ head) (renamed_pairs inside (arguments_of a) (ap arguments_of same ∙ arguments_renamed a)) (renamed_each others c (same_rest e))

  -- a consistent pairing pairs the coordinates of the renamed type identically
  pub consistent_pairs : (t : Ty) (d : List Coordinate) (p : PairTree) → IsConsistent r (coordinates t) d p → Pairs ◌≡◌ (coordinates (renamed r t)) d p
  consistent_pairs t d p c = subst (λ cs. Pairs ◌≡◌ cs d p) (sym (coordinates_renamed t)) (pairs_renamed c.pairs)
