-- A pairing keeps the numbers of coordinates.
use Rattle.std.proofs.Common.{◌≡◌, ◌≢◌, ℕ, zero, suc, ◌+◌, ◌/◌, ◌%◌, List, [], ◌∷◌, length, map, Option, Some, None, slice_get, refl, sym, ap, ap₂, ◌∙◌, arith}
use Rattle.std.proofs.Math.Nat.{add-mul-mod_self_left, mod-add-div}
use Rattle.type_core.specs.declared.coordinate.Coordinate.{Coordinate}
use Rattle.type_core.specs.declared.coordinate.Coordinate.TheFolds.{fold_out-Coordinate}
use Rattle.type_core.specs.declared.ty.VarId.{VarId}
use Rattle.type_core.specs.declared.ty.NameId.{NameId}
use Rattle.type_core.specs.declared.ty.Ty.{Ty}
use Rattle.type_core.specs.declared.ty.Field.{Field}
use Rattle.type_core.specs.declared.ty.Ty.TheVariants as ty
use Rattle.type_core.specs.declared.ty.Ty.TheVariants.{rolls-Var, rolls-Con, rolls-Rec, rolls-Tup, rolls-Arrow}
use Rattle.type_core.specs.declared.ty.Ty.TheFolds.{fold-roll-Ty, fold-roll-Field}
use Rattle.type_core.specs.Coordinates.{arguments_of, head_of}
use Rattle.type_core.specs.Renaming.{Renaming, renamed, field_renamed}
use Rattle.type_core.proofs.Trees.{AtField, EachOf, induct_type, renamed_var, renamed_con, renamed_rec, renamed_tup, renamed_arrow, renamed_field}
use Rattle.iso_normal.specs.declared.pair_tree.PairTree.{PairTree}
use Rattle.iso_normal.specs.declared.pair_tree.Entry.{Entry}
use Rattle.iso_normal.specs.PairTrees.{entries_of, place_of, places_of}
use Rattle.iso_normal.specs.Pairings as pairing
use Rattle.iso_normal.specs.Pairings.{PairEach, Pairs, pairs}
use Rattle.iso_normal.proofs.Distinct.{AreDifferent, IsNone, different}
use Rattle.iso_normal.proofs.Permutations.{some_injective}
use Rattle.iso_normal.specs.Consistency.{Turns}
use Rattle.coord_match.specs.search.Fingerprints.{all_mixed, field_fingerprint, mark_number, mixed, fingerprint_of, fingerprint_step, fingerprint_sum, type_fingerprint, type_fingerprint_step}
use Rattle.coord_match.specs.search.Tasks.{Fills, Goal, fill}

pub fingerprint_opened : (c : Coordinate) → fingerprint_of c ≡ mixed (type_fingerprint (head_of c)) (fingerprint_sum (arguments_of c) % 4294967296)
fingerprint_opened c = fold_out-Coordinate ℕ fingerprint_step c

pub sum_step : (sum n rest : ℕ) → ((sum + n) % 4294967296 + rest) % 4294967296 ≡ (sum + (n + rest)) % 4294967296
sum_step sum n rest =
    sym (add-mul-mod_self_left ((sum + n) % 4294967296 + rest) 4294967296 ((sum + n) / 4294967296))
    ∙ ap (λ x. x % 4294967296) (omega (arith, mod-add-div (sum + n) 4294967296))

-- of a type
fingerprint_var : (v : VarId) → type_fingerprint (ty.Var v) ≡ mixed 1 (mark_number v.eq)
fingerprint_var v = ap type_fingerprint (sym (rolls-Var v)) ∙ fold-roll-Ty _ _ type_fingerprint_step _ _

fingerprint_con : (name : NameId) (ts : List Ty) → type_fingerprint (ty.Con name ts) ≡ all_mixed (mixed 2 name.0) (map type_fingerprint ts)
fingerprint_con name ts = ap type_fingerprint (sym (rolls-Con name ts)) ∙ fold-roll-Ty _ _ type_fingerprint_step _ _

fingerprint_rec : (fields : List Field) → type_fingerprint (ty.Rec fields) ≡ all_mixed 3 (map field_fingerprint fields)
fingerprint_rec fields = ap type_fingerprint (sym (rolls-Rec fields)) ∙ fold-roll-Ty _ _ type_fingerprint_step _ _

fingerprint_tup : (ts : List Ty) → type_fingerprint (ty.Tup ts) ≡ all_mixed 4 (map type_fingerprint ts)
fingerprint_tup ts = ap type_fingerprint (sym (rolls-Tup ts)) ∙ fold-roll-Ty _ _ type_fingerprint_step _ _

fingerprint_arrow : (a b : Ty) → type_fingerprint (ty.Arrow a b) ≡ mixed (mixed 5 (type_fingerprint a)) (type_fingerprint b)
fingerprint_arrow a b = ap type_fingerprint (sym (rolls-Arrow a b)) ∙ fold-roll-Ty _ _ type_fingerprint_step _ _

fingerprint_field : (field : Field) → field_fingerprint field ≡ type_fingerprint field.ty
fingerprint_field field = fold-roll-Field _ _ type_fingerprint_step _ (record { label = field.label; ty = field.ty })

module _ (r : Renaming) (marks : (v : VarId) → (r v).eq ≡ v.eq) where
  abbrev IsKept : Ty → Type 0
  IsKept t = type_fingerprint (renamed r t) ≡ type_fingerprint t

  all_kept : (ts : List Ty) → EachOf IsKept ts → map type_fingerprint (map (renamed r) ts) ≡ map type_fingerprint ts
  all_kept [] ihs = refl
  all_kept (t ∷ ts) ihs = ap₂ ◌∷◌ ihs.0 (all_kept ts ihs.1)

  field_kept : (field : Field) → IsKept field.ty → field_fingerprint (field_renamed r field) ≡ field_fingerprint field
  field_kept field ih = ap field_fingerprint (renamed_field r field) ∙ fingerprint_field (record { label = field.label; ty = renamed r field.ty }) ∙ ih ∙ sym (fingerprint_field field)

  fields_kept : (fields : List Field) → EachOf (AtField IsKept) fields → map field_fingerprint (map (field_renamed r) fields) ≡ map field_fingerprint fields
  fields_kept [] ihs = refl
  fields_kept (field ∷ fields) ihs = ap₂ ◌∷◌ (field_kept field ihs.0) (fields_kept fields ihs.1)

  fingerprint_renamed : (t : Ty) → IsKept t
  fingerprint_renamed = induct_type IsKept
      (λ v. ap type_fingerprint (renamed_var r v) ∙ fingerprint_var (r v) ∙ ap (λ eq. mixed 1 (mark_number eq)) (marks v) ∙ sym (fingerprint_var v))
      (λ name ts ihs. ap type_fingerprint (renamed_con r name ts) ∙ fingerprint_con name _ ∙ ap (all_mixed (mixed 2 name.0)) (all_kept ts ihs) ∙ sym (fingerprint_con name ts))
      (λ fields ihs. ap type_fingerprint (renamed_rec r fields) ∙ fingerprint_rec _ ∙ ap (all_mixed 3) (fields_kept fields ihs) ∙ sym (fingerprint_rec fields))
      (λ ts ihs. ap type_fingerprint (renamed_tup r ts) ∙ fingerprint_tup _ ∙ ap (all_mixed 4) (all_kept ts ihs) ∙ sym (fingerprint_tup ts))
      (λ a b p q. ap type_fingerprint (renamed_arrow r a b) ∙ fingerprint_arrow _ _ ∙ ap₂ (λ x y. mixed (mixed 5 x) y) p q ∙ sym (fingerprint_arrow a b))

-- numbers from which some are taken
abbrev left_sum : List (Option ℕ) → ℕ
left_sum [] = 0
left_sum (None ∷ all) = left_sum all
left_sum (Some n ∷ all) = n + left_sum all

abbrev left_count : List (Option ℕ) → ℕ
left_count [] = 0
left_count (None ∷ all) = left_count all
left_count (Some n ∷ all) = 1 + left_count all

abbrev take_out : ℕ → List (Option ℕ) → List (Option ℕ)
take_out k [] = []
take_out zero (o ∷ all) = None ∷ all
take_out (suc k) (o ∷ all) = o ∷ take_out k all

none_left : (all : List (Option ℕ)) → left_count all ≡ 0 → left_sum all ≡ 0
none_left [] e = refl
none_left (None ∷ all) e = none_left all e
none_left (Some n ∷ all) e = absurd (omega (arith, e))

less_sum : (k : ℕ) (all : List (Option ℕ)) (n : ℕ) → slice_get all k ≡ Some (Some n) → left_sum all ≡ n + left_sum (take_out k all)
less_sum k [] n e = absurd (cc e)
less_sum zero (o ∷ all) n e = ap (λ o. left_sum (o ∷ all)) (some_injective o (Some n) e)
less_sum (suc k) (None ∷ all) n e = less_sum k all n e
less_sum (suc k) (Some m ∷ all) n e = omega (arith, less_sum k all n e)

less_count : (k : ℕ) (all : List (Option ℕ)) (n : ℕ) → slice_get all k ≡ Some (Some n) → left_count all ≡ 1 + left_count (take_out k all)
less_count k [] n e = absurd (cc e)
less_count zero (o ∷ all) n e = ap (λ o. left_count (o ∷ all)) (some_injective o (Some n) e)
less_count (suc k) (None ∷ all) n e = less_count k all n e
less_count (suc k) (Some m ∷ all) n e = omega (arith, less_count k all n e)

stays : (k j : ℕ) (all : List (Option ℕ)) → k ≢ j → slice_get (take_out k all) j ≡ slice_get all j
stays k j [] d = refl
stays zero zero (o ∷ all) d = absurd (d refl)
stays zero (suc j) (o ∷ all) d = refl
stays (suc k) zero (o ∷ all) d = refl
stays (suc k) (suc j) (o ∷ all) d = stays k j all (λ e. d (ap suc e))

-- the places to come hold the numbers of their coordinates
abbrev IsOpen : List (Option ℕ) → List Coordinate → ℕ → Type 0
IsOpen all d k = (b : Coordinate) → slice_get d k ≡ Some b → slice_get all k ≡ Some (Some (fingerprint_of b))

abbrev AreOpen : List (Option ℕ) → List Coordinate → List ℕ → Type 0
AreOpen all d [] = Unit {0}
AreOpen all d (k ∷ ks) = IsOpen all d k × AreOpen all d ks

still_open : (k : ℕ) (all : List (Option ℕ)) (d : List Coordinate) (ks : List ℕ) → IsNone k ks → AreOpen all d ks → AreOpen (take_out k all) d ks
still_open k all d [] n o = tt
still_open k all d (j ∷ ks) n o = (λ b e. stays k j all n.0 ∙ o.0 b e, still_open k all d ks n.1 o.1)

all_fingerprints : List Coordinate → List (Option ℕ)
all_fingerprints [] = []
all_fingerprints (c ∷ cs) = Some (fingerprint_of c) ∷ all_fingerprints cs

open_first : (d : List Coordinate) (k : ℕ) → IsOpen (all_fingerprints d) d k
unfolding all_fingerprints
open_first [] k b e = absurd (cc e)
open_first (c ∷ d) zero b e = ap (λ c. Some (Some (fingerprint_of c))) (some_injective c b e)
open_first (c ∷ d) (suc k) b e = open_first d k b e

all_open : (d : List Coordinate) (ks : List ℕ) → AreOpen (all_fingerprints d) d ks
all_open d [] = tt
all_open d (k ∷ ks) = (open_first d k, all_open d ks)

all_sum : (d : List Coordinate) → left_sum (all_fingerprints d) ≡ fingerprint_sum d
unfolding all_fingerprints
all_sum [] = refl
all_sum (c ∷ d) = ap (λ n. fingerprint_of c + n) (all_sum d)

all_count : (d : List Coordinate) → left_count (all_fingerprints d) ≡ length d
unfolding all_fingerprints
all_count [] = refl
all_count (c ∷ d) = omega (arith, all_count d)

module _ {Heads : Ty → Ty → Type 0} (heads : (h k : Ty) → Heads h k → type_fingerprint h ≡ type_fingerprint k) where
  mutual
    sum_paired : {c d : List Coordinate} {p : PairTree} → Pairs Heads c d p → fingerprint_sum c ≡ fingerprint_sum d
    sum_paired {d} {p} (pairs l u each) =
        sum_each each (all_fingerprints d) (different _ u) (all_open d (places_of (entries_of p))) (all_count d ∙ sym l) ∙ all_sum d

    sum_each : {c d : List Coordinate} {es : List Entry} → PairEach Heads c d es → (all : List (Option ℕ)) → AreDifferent (places_of es) → AreOpen all d (places_of es) → left_count all ≡ length c → fingerprint_sum c ≡ left_sum all
    sum_each pairing.none all u o l = sym (none_left all l)
    sum_each (pairing.more {a} {b} {c} {d} {e} {entries = es} at head inner others) all u o l =
        let here : fingerprint_of a ≡ fingerprint_of b = fingerprint_opened a ∙ ap₂ (λ x y. mixed x (y % 4294967296)) (heads (head_of a) (head_of b) head) (sum_paired inner) ∙ sym (fingerprint_opened b) in
        let stands : slice_get all (place_of e) ≡ Some (Some (fingerprint_of b)) = o.0 b at in
        let rest = sum_each others (take_out (place_of e) all) u.1 (still_open (place_of e) all d (places_of es) u.0 o.1) (omega (arith, l, less_count (place_of e) all (fingerprint_of b) stands)) in
        omega (arith, here, rest, less_sum (place_of e) all (fingerprint_of b) stands)

  pub sum_filled : {goal : Goal} {goals : List Goal} {w : List ℕ} → Fills Heads (goal ∷ goals) w → length goal.left ≡ length goal.others → fingerprint_sum goal.left ≡ fingerprint_sum goal.others
  sum_filled {goal} (fill es each u free is others) l =
      sum_each each (all_fingerprints goal.others) (different _ u) (all_open goal.others (places_of es)) (all_count goal.others ∙ sym l) ∙ all_sum goal.others

-- under a renaming that keeps marks
pub fingerprint_turned : (r : Renaming) → ((v : VarId) → (r v).eq ≡ v.eq) → (h k : Ty) → Turns r h k → type_fingerprint h ≡ type_fingerprint k
fingerprint_turned r marks h k e = sym (fingerprint_renamed r marks h) ∙ ap type_fingerprint e

pub ruleset fingerprints = (fingerprint_opened, sum_step)
