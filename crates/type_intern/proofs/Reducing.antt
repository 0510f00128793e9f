-- The erasure and the canonical form of a new coordinate.
use Rattle.std.proofs.Common.{◌≡◌, ◌<◌, ◌+◌, ℕ, suc, zero, List, [], ◌∷◌, ◌++◌, Some, map, length, slice_get, get_or, take, refl, sym, ap, ap₂, ◌∙◌, subst, arith}
use Rattle.std.proofs.lemmas.Option.{none-some, same_Some, slice_get-get_or, slice_get_within, get_or_from_slice_get}
use Rattle.std.proofs.lemmas.List.{take_more}
use Rattle.std.specs.Map.{keys_of, values_of}
use Rattle.type_core.specs.declared.ty.Ty.{Ty}
use Rattle.type_core.specs.declared.coordinate.Coordinate.{Coordinate}
use Rattle.type_intern.specs.declared.node.TyId.{TyId}
use Rattle.type_intern.specs.declared.node.CoordId.{CoordId}
use Rattle.type_intern.specs.declared.node.CoordNode.{CoordNode}
use Rattle.type_intern.specs.declared.node.Numbers.{Numbers}
use Rattle.type_intern.specs.Alike.{AreAlike, IsAlike, alike, more, none}
use Rattle.type_intern.specs.Erasure.{as_is, erase}
use Rattle.type_intern.specs.Numbering.{AllBelow, Grows}
use Rattle.type_intern.specs.Sorting.{sorted}
use Rattle.type_intern.specs.Tops.{numbers_of, type_at}
use Rattle.type_intern.specs.CoordTables.{AreReduced, CoordFits, GrowsTo, IsArena, IsReduced, IsReducedAt, canons_in, coord_of, coords_of, erased_in, number_at, singles_in}
use Rattle.type_intern.proofs.Entries.{length_keys}
use Rattle.type_intern.proofs.Erasing.{erase_twice}
use Rattle.type_intern.proofs.Growing.{fits_on, length_beside}
use Rattle.type_intern.proofs.Places.{grows_map, grows_push, map_push, stays}
use Rattle.type_intern.proofs.Placing.{tops_once}
use Rattle.type_intern.proofs.Reductions.{AreOwn, are_own, number_stands, numbers_below, own_number, own_reduction, reduced_at_stays, reduced_stays, reduced_to_itself, seen_head}
use Rattle.type_intern.proofs.SameNumber.{alike_from_number, same_number}
use Rattle.type_intern.proofs.Sorting.{below_sorted, sorted_map}

mutual
  -- what is alike as it is, is alike as it is seen
  pub alike_seen : (seen : Ty → Ty) {c d : Coordinate} → IsAlike as_is c d → IsAlike seen c d
  alike_seen seen (alike heads arguments) = alike (ap seen heads) (all_alike_seen seen arguments)

  pub all_alike_seen : (seen : Ty → Ty) {cs ds : List Coordinate} → AreAlike as_is cs ds → AreAlike seen cs ds
  all_alike_seen seen none = none
  all_alike_seen seen (more takes first others) = more takes (alike_seen seen first) (all_alike_seen seen others)

pub value_beside : (f : Numbers → ℕ) (es : List (CoordNode × Numbers)) (i : ℕ) (v : Numbers)
    → slice_get (values_of es) i ≡ Some v → slice_get (map (λ e. f e.1) es) i ≡ Some (f v)
value_beside f [] i v e = absurd (none-some v e)
value_beside f (x ∷ es) zero v e = ap (λ (w : Numbers). Some (f w)) (same_Some _ _ e)
value_beside f (x ∷ es) (suc i) v e = value_beside f es i v e

-- a reduction that stands in a table that grew
reduced_there : (seen : Ty → Ty) (types : List Ty) (es fs : List (CoordNode × Numbers)) (keys : List (List CoordId))
    (f : CoordNode × Numbers → ℕ)
    → Grows es fs → IsArena types fs keys → AreReduced seen types (keys_of fs) (map f fs)
    → (n x : CoordNode) (id : ℕ) → AllBelow (length es) (numbers_of n.args) → AllBelow (length es) (numbers_of x.args)
    → IsReduced seen types (map f es) n x → IsReduced seen types (map f es) x x → slice_get (keys_of fs) id ≡ Some x
    → IsReducedAt seen types (keys_of fs) (map f fs) n id
reduced_there seen types es fs keys f g arena are n x id n_below x_below reduced itself at =
    let longer : Grows (map f es) (map f fs) = grows_map f es fs g in
    let below : (ids : List CoordId) → AllBelow (length es) (numbers_of ids) → AllBelow (length (map f es))
    (numbers_of ids) = λ ids h. subst (λ l. AllBelow l (numbers_of ids)) (sym (length_beside f es)) h in
    record {
      to = x;
      stands = at;
      reduced = reduced_stays seen types (map f es) (map f fs) n x longer (below n.args n_below) reduced;
      own = own_number seen types (keys_of fs) (map f fs) are arena.types_once
          (tops_once (coord_of types) (CoordFits (length types)) (keys_of fs) (coords_of types (keys_of fs))
          arena.table) x id at
          (reduced_stays seen types (map f es) (map f fs) x x longer (below x.args x_below) itself);
    }

-- a new top, and what it is reduced to
module _ (types : List Ty) (es : List (CoordNode × Numbers)) (keys : List (List CoordId))
    (arena : IsArena types es keys) (n : CoordNode) (fits : CoordFits (length types) (length es) n) where
  below : AllBelow (length (keys_of es)) (numbers_of n.args)
  below = subst (λ l. AllBelow l (numbers_of n.args)) (sym (length_keys es)) fits.0

  beside_below : (seen : Ty → Ty) (numbers : List ℕ) → AreReduced seen types (keys_of es) numbers → (x : CoordNode)
      → numbers_of x.args ≡ sorted (map (number_at numbers) n.args) → AllBelow (length es) (numbers_of x.args)
  beside_below seen numbers are x args = subst (AllBelow (length es)) (sym args)
      (below_sorted (length es) _ (subst (λ l. AllBelow l (map (number_at numbers) n.args)) (length_keys es)
      (numbers_below seen types (keys_of es) numbers are n.args below)))

  are_canonical : (ids : List CoordId) → AllBelow (length (keys_of es)) (numbers_of ids)
      → AreOwn (canons_in es) (map (number_at (erased_in es)) ids)
  are_canonical [] h = tt
  are_canonical (id ∷ ids) h = (
    arena.canonical id.0 _ (number_stands erase types (keys_of es) (erased_in es) arena.erasures id h.0),
    are_canonical ids h.1,
  )

  -- the erasure
  module _ (x : CoordNode) (args : numbers_of x.args ≡ sorted (map (number_at (erased_in es)) n.args))
      (head : slice_get types x.head.0 ≡ Some (erase (type_at types n.head))) where
    pub erased_fits : CoordFits (length types) (length es) x
    erased_fits = (beside_below erase (erased_in es) arena.erasures x args, slice_get_within types x.head.0 _ head)

    pub erased_itself : IsReduced erase types (erased_in es) x x
    erased_itself = reduced_to_itself erase types (erased_in es) _ x args
        (are_own erase types (keys_of es) (erased_in es) arena.erasures n.args below)
        (seen_head erase erase_twice types x.head (type_at types n.head) head)

    pub erased_canonical : IsReduced as_is types (canons_in es) x x
    erased_canonical = reduced_to_itself as_is types (canons_in es) _ x args (are_canonical n.args below)
        (slice_get-get_or types x.head.0 _ (slice_get_within types x.head.0 _ head))

    pub erased_at : (now : List Ty) (fs : List (CoordNode × Numbers)) (others : List (List CoordId))
        → GrowsTo types now es fs keys others → (id : ℕ) → slice_get (keys_of fs) id ≡ Some x
        → IsReducedAt erase now (keys_of fs) (erased_in fs) n id
    erased_at now fs others g id at =
        let then : IsArena types fs others = subst (λ ts. IsArena ts fs others) g.same_types g.arena in
        subst (λ ts. IsReducedAt erase ts (keys_of fs) (erased_in fs) n id) (sym g.same_types)
        (reduced_there erase types es fs others (λ e. e.1.erased.0) g.entries then then.erasures n x id fits.0
        erased_fits.0 (record { args = args; head = head }) erased_itself at)

  -- the canonical form
  module _ (x : CoordNode) (args : numbers_of x.args ≡ sorted (map (number_at (canons_in es)) n.args))
      (head : x.head ≡ n.head) where
    pub canon_fits : CoordFits (length types) (length es) x
    canon_fits = (
      beside_below as_is (canons_in es) arena.canons x args,
      subst (λ (h : TyId). h.0 < length types) (sym head) fits.1,
    )

    own_head : slice_get types x.head.0 ≡ Some (type_at types x.head)
    own_head = slice_get-get_or types x.head.0 _ canon_fits.1

    pub canon_itself : IsReduced as_is types (canons_in es) x x
    canon_itself = reduced_to_itself as_is types (canons_in es) _ x args
        (are_own as_is types (keys_of es) (canons_in es) arena.canons n.args below) own_head

    pub canon_own : (k : ℕ) → k ≡ length es
        → IsReducedAt as_is types (keys_of es ++ x ∷ []) (canons_in es ++ k ∷ []) x k
    canon_own k last =
        own_reduction as_is types (keys_of es) (canons_in es) x k (last ∙ sym (length_keys es))
        (length_beside (λ e. e.1.canon.0) es ∙ sym (length_keys es))
        (subst (λ l. AllBelow l (numbers_of x.args)) (sym (length_beside (λ e. e.1.canon.0) es)) canon_fits.0)
        canon_itself

    pub canon_at : (now : List Ty) (fs : List (CoordNode × Numbers)) (others : List (List CoordId))
        → GrowsTo types now es fs keys others → (id : ℕ) → slice_get (keys_of fs) id ≡ Some x
        → IsReducedAt as_is now (keys_of fs) (canons_in fs) n id
    canon_at now fs others g id at =
        let then : IsArena types fs others = subst (λ ts. IsArena ts fs others) g.same_types g.arena in
        subst (λ ts. IsReducedAt as_is ts (keys_of fs) (canons_in fs) n id) (sym g.same_types)
        (reduced_there as_is types es fs others (λ e. e.1.canon.0) g.entries then then.canons n x id fits.0 canon_fits.0
        (record { args = args; head = own_head ∙ ap (λ (h : TyId). Some (type_at types h)) head }) canon_itself at)

    -- the canonical form of an argument has the same erasure
    same_erasure : (id : CoordId) → id.0 < length (keys_of es)
        → number_at (erased_in es) (record { 0 = number_at (canons_in es) id }) ≡ number_at (erased_in es) id
    same_erasure id l =
        let beside = number_stands as_is types (keys_of es) (canons_in es) arena.canons id l in
        let long = arena.table.long in
        let within : number_at (canons_in es) id < length (coords_of types (keys_of es)) = omega
        (arith, l, long, arena.canons.no_later id.0 _ beside) in
        let there : id.0 < length (coords_of types (keys_of es)) = omega (arith, l, long) in
        same_number erase types (keys_of es) (erased_in es) arena.types_once arena.table arena.erasures
        (record { 0 = number_at (canons_in es) id }) id within there
        (alike_seen erase (alike_from_number as_is types (keys_of es) (canons_in es) arena.types_once arena.table
        arena.canons (record { 0 = number_at (canons_in es) id }) id within there
        (get_or_from_slice_get (canons_in es) _ _ 0 (arena.canons.own id.0 _ beside))))

    same_erasures : (ids : List CoordId) → AllBelow (length (keys_of es)) (numbers_of ids)
        → map (λ v. number_at (erased_in es) (record { 0 = v })) (map (number_at (canons_in es)) ids) ≡ map
        (number_at (erased_in es)) ids
    same_erasures [] h = refl
    same_erasures (id ∷ ids) h = ap₂ ◌∷◌ (same_erasure id h.0) (same_erasures ids h.1)

    by_numbers : (ids : List CoordId)
        → map (number_at (erased_in es)) ids ≡ map (λ v. number_at (erased_in es) (record { 0 = v })) (numbers_of ids)
    by_numbers [] = refl
    by_numbers (id ∷ ids) = ap (λ s. number_at (erased_in es) id ∷ s) (by_numbers ids)

    pub canon_erased : (e : ℕ) → IsReducedAt erase types (keys_of es) (erased_in es) n e
        → IsReducedAt erase types (keys_of es) (erased_in es) x e
    canon_erased e at = record {
      to = at.to;
      stands = at.stands;
      reduced = record {
        args = at.reduced.args ∙ ap sorted (sym (same_erasures n.args below))
            ∙ sym (sorted_map (λ v. number_at (erased_in es) (record { 0 = v }))
            (map (number_at (canons_in es)) n.args))
            ∙ sym (ap sorted (by_numbers x.args ∙ ap (map (λ v. number_at (erased_in es) (record { 0 = v }))) args));
        head = at.reduced.head ∙ ap (λ (h : TyId). Some (erase (type_at types h))) (sym head);
      };
      own = at.own;
    }

-- the numbers of a new top, after its canonical form was put
module _ (types now : List Ty) (es fs : List (CoordNode × Numbers)) (keys others : List (List CoordId))
    (g : GrowsTo types now es fs keys others) (n : CoordNode) (fits : CoordFits (length types) (length es) n) where
  pub canon_before : (k : ℕ) → IsReducedAt as_is now (keys_of fs) (canons_in fs) n k
      → IsReducedAt as_is now (keys_of fs ++ n ∷ []) (canons_in fs ++ k ∷ []) n k
  canon_before k at = reduced_at_stays as_is now (keys_of fs) _ (canons_in fs) _ n k (grows_push _ n) (grows_push _ k)
      (subst (λ l. AllBelow l (numbers_of n.args)) (sym (length_beside (λ e. e.1.canon.0) fs))
      (fits_on types now es fs keys others g n fits).0) at

  pub erased_before : (k : ℕ) → IsReducedAt erase types (keys_of es) (erased_in es) n k
      → IsReducedAt erase now (keys_of fs) (erased_in fs) n k
  erased_before k at = subst (λ ts. IsReducedAt erase ts (keys_of fs) (erased_in fs) n k) (sym g.same_types)
      (reduced_at_stays erase types (keys_of es) (keys_of fs) (erased_in es) (erased_in fs) n k
      (grows_map (λ e. e.0) es fs g.entries) (grows_map (λ e. e.1.erased.0) es fs g.entries)
      (subst (λ l. AllBelow l (numbers_of n.args)) (sym (length_beside (λ e. e.1.erased.0) es)) fits.0) at)

  pub key_before : (k v : ℕ) → slice_get (singles_in es) k ≡ Some v → slice_get (singles_in fs) k ≡ Some v
  key_before k v at = stays (singles_in es) (singles_in fs) (grows_map (λ e. e.1.key.0) es fs g.entries) k v at

-- the numbers of arguments that were read as a slice
pub args_read : (numbers : List ℕ) (taken slice own : List CoordId)
    → numbers_of taken ≡ sorted (map (number_at numbers) slice) → slice ≡ own
    → numbers_of taken ≡ sorted (map (number_at numbers) own)
args_read numbers taken slice own are same = are ∙ ap (λ ids. sorted (map (number_at numbers) ids)) same

-- one more of the numbers beside coordinates
pub beside_more : (numbers : List ℕ) (ids : List CoordId) (i : ℕ) (d : CoordId) (done next : List CoordId) (x : CoordId)
    → numbers_of done ≡ map (number_at numbers) (take i ids) → i < length ids
    → slice_get numbers (get_or ids i d).0 ≡ Some x.0 → next ≡ done ++ x ∷ []
    → numbers_of next ≡ map (number_at numbers) (take (i + 1) ids)
beside_more numbers ids i d done next x so_far l at pushed =
    ap numbers_of pushed ∙ map_push (λ (id : CoordId). id.0) done x
    ∙ ap₂ (λ s k. s ++ k ∷ []) so_far (sym (get_or_from_slice_get numbers _ x.0 0 at))
    ∙ sym (map_push (number_at numbers) (take i ids) (get_or ids i d)) ∙ sym
    (ap (map (number_at numbers)) (take_more ids i d l))
