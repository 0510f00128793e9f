-- What the numbers of an arena mean, and that they keep it.
use Rattle.std.proofs.Common.{◌≡◌, ◌<◌, ◌≤◌, ℕ, suc, List, [], ◌∷◌, ◌++◌, Some, map, length, slice_get, get_or, refl, sym, ap, ap₂, ◌∙◌, subst, arith}
use Rattle.std.proofs.lemmas.List.{map-append}
use Rattle.std.proofs.lemmas.Option.{same_Some, slice_get-get_or, slice_get_within, slice_get_read, get_or_from_slice_get}
use Rattle.std.specs.Map.{keys_of}
use Rattle.type_core.specs.declared.ty.Ty.{Ty}
use Rattle.type_core.specs.declared.coordinate.Coordinate.{Coordinate}
use Rattle.type_core.specs.Coordinates.{arguments_of, coordinate, head_of}
use Rattle.type_intern.specs.declared.node.TyId.{TyId}
use Rattle.type_intern.specs.declared.node.CoordId.{CoordId}
use Rattle.type_intern.specs.declared.node.CoordNode.{CoordNode}
use Rattle.type_intern.specs.declared.node.Numbers.{Numbers}
use Rattle.type_intern.specs.Alike.{AreAlike, IsAlike}
use Rattle.type_intern.specs.Erasure.{as_is, erase}
use Rattle.type_intern.specs.Meanings.{IsCanonical, IsKey, Keeps}
use Rattle.type_intern.specs.Numbering.{AllBelow, Grows, StandsOnce}
use Rattle.type_intern.specs.Sorting.{sorted}
use Rattle.type_intern.specs.Tables.{IsTableOf, values_from}
use Rattle.type_intern.specs.Tops.{coord_at, coords_at, numbers_of, type_at}
use Rattle.type_intern.specs.CoordTables.{AreReduced, CoordFits, GrowsTo, IsArena, IsKeyAt, canons_in, coord_of, coords_of, erased_in, meanings, number_at, singles_in}
use Rattle.type_intern.proofs.CoordTops.{args_stay, arguments_made, head_made, numbers_same}
use Rattle.type_intern.proofs.Entries.{length_keys}
use Rattle.type_intern.proofs.Places.{get_from_map, get_map, get_within, grows_itself, grows_longer, grows_map, grows_push, grows_trans, stays}
use Rattle.type_intern.proofs.Reductions.{number_stands}
use Rattle.type_intern.proofs.SameNumber.{alike_from_number, alike_from_numbers, same_number, same_numbers}

-- what the top of a coordinate says of it
pub record IsTop (types : List Ty) (coords : List Coordinate) (c : CoordId) (n : CoordNode) : Type 0 where
  pub arguments : coords_at coords n.args ≡ arguments_of (coord_at coords c)
  pub parts : AllBelow c.0 (numbers_of n.args)
  pub head : type_at types n.head ≡ head_of (coord_at coords c)
  pub within : n.head.0 < length types

module _ (types : List Ty) (es : List (CoordNode × Numbers)) (keys : List (List CoordId))
    (arena : IsArena types es keys) where
  abbrev coords : List Coordinate
  coords = coords_of types (keys_of es)

  long : length coords ≡ length es
  long = arena.table.long ∙ length_keys es

  pub top_read : (c : CoordId) → c.0 < length coords → (all : List CoordNode) → all ≡ keys_of es → (n : CoordNode)
      → n ≡ get_or all c.0 n → IsTop types coords c n
  top_read c l all same n read =
      let at : slice_get (keys_of es) c.0 ≡ Some n = slice_get_read (keys_of es) (length (keys_of es)) c.0 n refl
      (omega (arith, l, arena.table.long)) (read ∙ ap (λ xs. get_or xs c.0 n) same) in
      let is : coord_at coords c ≡ coord_of types coords n = same_Some _ _
      (sym (slice_get-get_or coords c.0 _ l) ∙ arena.table.reads c.0 n at) in
      let fits = arena.table.fits c.0 n at in
      record {
        arguments = sym (ap arguments_of is ∙ arguments_made _ _);
        parts = fits.0;
        head = sym (ap head_of is ∙ head_made _ _);
        within = fits.1;
      }

  within_nodes : (c : CoordId) → c.0 < length coords → c.0 < length (keys_of es)
  within_nodes c l = subst (λ n. c.0 < n) arena.table.long l

  pub canonical_is : (c : CoordId) (k : ℕ) → c.0 < length coords → slice_get (canons_in es) c.0 ≡ Some k
      → IsCanonical coords (coord_at coords c) k
  canonical_is c k l at =
      let own : number_at (canons_in es) c ≡ k = get_or_from_slice_get (canons_in es) c.0 k 0 at in
      let within : k < length coords = omega (arith, l, arena.canons.no_later c.0 k at) in
      record {
        value = coord_at coords (record { 0 = k });
        stands = slice_get-get_or coords k _ within;
        holds = alike_from_number as_is types (keys_of es) (canons_in es) arena.types_once arena.table arena.canons
            (record { 0 = k }) c within l (get_or_from_slice_get (canons_in es) k k 0 (arena.canons.own c.0 k at) ∙ sym
            own);
        least = λ i d stands a.
            let there : i < length coords = slice_get_within coords i d stands in
            let is : d ≡ coord_at coords (record { 0 = i }) = same_Some _ _
            (sym stands ∙ slice_get-get_or coords i _ there) in
            let same : number_at (canons_in es) (record { 0 = i }) ≡ k = same_number as_is types (keys_of es)
            (canons_in es) arena.types_once arena.table arena.canons (record { 0 = i }) c there l
            (subst (λ e. IsAlike as_is e (coord_at coords c)) is a) ∙ own in
            subst (λ n. n ≤ i) same (arena.canons.no_later i _ (number_stands as_is types (keys_of es) (canons_in es)
            arena.canons (record { 0 = i }) (within_nodes (record { 0 = i }) there)));
      }

  pub key_is : (ids : List CoordId) (k : ℕ) → AllBelow (length coords) (numbers_of ids)
      → IsKeyAt (erased_in es) keys ids k → IsKey (map (coords_at coords) keys) (coords_at coords ids) k
  key_is ids k below at =
      let below_coords : (l : List CoordId) → AllBelow (length (erased_in es)) (numbers_of l) → AllBelow (length coords)
      (numbers_of l) = λ l h. subst (λ n. AllBelow n (numbers_of l)) (arena.erasures.long ∙ sym arena.table.long) h
      in
      let own = arena.are_keys.lists k at.key at.stands in
      record {
        value = coords_at coords at.key;
        stands = get_map (coords_at coords) keys k at.key at.stands;
        holds = alike_from_numbers erase types (keys_of es) (erased_in es) arena.types_once arena.table arena.erasures
            at.key ids (below_coords at.key own.below) below (sym own.is ∙ at.is);
        least = λ i ds stands a.
            let there = get_from_map (coords_at coords) keys i ds stands in
            let other = arena.are_keys.lists i there.0 there.1 in
            let same : sorted (map (number_at (erased_in es)) there.0) ≡ sorted (map (number_at (erased_in es)) ids) =
            same_numbers erase types (keys_of es) (erased_in es) arena.types_once arena.table arena.erasures there.0 ids
            (below_coords there.0 other.below) below (subst (λ cs. AreAlike erase cs (coords_at coords ids))
            (sym there.2) a) in
            let is : there.0 ≡ at.key = numbers_same there.0 at.key (other.is ∙ same ∙ sym at.is) in
            let one : i ≡ k = arena.are_keys.once i k at.key (there.1 ∙ ap Some is) at.stands in
            omega (arith, one);
      }

  pub single_key : (c : CoordId) (k : ℕ) → c.0 < length coords → slice_get (singles_in es) c.0 ≡ Some k
      → IsKeyAt (erased_in es) keys (c ∷ []) k
  single_key c k l at = record {
    key = record { 0 = number_at (erased_in es) c } ∷ [];
    stands = arena.are_keys.single c.0 _ k (number_stands erase types (keys_of es) (erased_in es) arena.erasures c
        (within_nodes c l)) at;
    is = refl;
  }

-- values of more tops
values_append : {N T : Type 0} (tree : List T → N → T) (done : List T) (ns ms : List N)
    → values_from tree done (ns ++ ms) ≡ values_from tree (values_from tree done ns) ms
unfolding values_from
values_append tree done [] ms = refl
values_append tree done (n ∷ ns) ms = values_append tree (done ++ tree done n ∷ []) ns ms

values_grow : {N T : Type 0} (tree : List T → N → T) (done : List T) (ns : List N)
    → Grows done (values_from tree done ns)
unfolding values_from
values_grow tree done [] = grows_itself done
values_grow tree done (n ∷ ns) = grows_trans done _ _ (grows_push done (tree done n))
    (values_grow tree (done ++ tree done n ∷ []) ns)

maps_same : {A B : Type 0} (f g : A → B) (xs : List A) → ((i : ℕ) (x : A) → slice_get xs i ≡ Some x → f x ≡ g x)
    → map f xs ≡ map g xs
maps_same f g [] h = refl
maps_same f g (x ∷ xs) h = ap₂ ◌∷◌ (h 0 x refl) (maps_same f g xs (λ i y e. h (suc i) y e))

coords_grow : (types : List Ty) (es fs : List (CoordNode × Numbers)) → Grows es fs
    → Grows (coords_of types (keys_of es)) (coords_of types (keys_of fs))
coords_grow types es fs g =
    let is : coords_of types (keys_of fs) ≡ values_from (coord_of types) (coords_of types (keys_of es))
    (keys_of g.more) =
    ap (λ (xs : List (CoordNode × Numbers)). coords_of types (keys_of xs)) g.is ∙ ap (coords_of types)
    (map-append (λ (e : CoordNode × Numbers). e.0) es g.more) ∙ values_append (coord_of types) [] (keys_of es)
    (keys_of g.more) in
    let grown = values_grow (coord_of types) (coords_of types (keys_of es)) (keys_of g.more) in
    record { more = grown.more; is = is ∙ grown.is }

keys_grow : (coords others : List Coordinate) (keys more : List (List CoordId)) → Grows coords others → Grows keys more
    → ((i : ℕ) (ids : List CoordId) → slice_get keys i ≡ Some ids → AllBelow (length coords) (numbers_of ids))
    → Grows (map (coords_at coords) keys) (map (coords_at others) more)
keys_grow coords others keys more g h below =
    let grown = grows_map (coords_at others) keys more h in
    record {
      more = grown.more;
      is = grown.is ∙ ap (λ ks. ks ++ grown.more) (maps_same (coords_at others) (coords_at coords) keys
          (λ i ids e. args_stay coords others g ids (below i ids e)));
    }

pub keeps_meanings : (types now : List Ty) (es fs : List (CoordNode × Numbers)) (keys more : List (List CoordId))
    → IsArena types es keys → GrowsTo types now es fs keys more → Keeps (meanings types es keys) (meanings now fs more)
keeps_meanings types now es fs keys more arena g =
    subst (λ ts. Keeps (meanings types es keys) (meanings ts fs more)) (sym g.same_types) (record {
      types = grows_itself types;
      coords = coords_grow types es fs g.entries;
      keys = keys_grow _ _ keys more (coords_grow types es fs g.entries) g.lists
          (λ i ids e. subst (λ n. AllBelow n (numbers_of ids)) (arena.erasures.long ∙ sym arena.table.long)
          (arena.are_keys.lists i ids e).below);
    })

-- more types
module _ (old new : List Ty) (g : Grows old new) where
  head_stays : (id : TyId) → id.0 < length old → type_at new id ≡ type_at old id
  head_stays id l =
      let there = get_within old id.0 l in
      get_or_from_slice_get new id.0 there.0 _ (stays old new g id.0 there.0 there.1) ∙ sym
      (get_or_from_slice_get old id.0 there.0 _ there.1)

  coord_stays : (coords : List Coordinate) (n : CoordNode) → n.head.0 < length old
      → coord_of new coords n ≡ coord_of old coords n
  coord_stays coords n l = ap (coordinate (coords_at coords n.args)) (head_stays n.head l)

  coords_stay : (done : List Coordinate) (ns : List CoordNode)
      → ((i : ℕ) (n : CoordNode) → slice_get ns i ≡ Some n → n.head.0 < length old)
      → values_from (coord_of new) done ns ≡ values_from (coord_of old) done ns
  unfolding values_from
  coords_stay done [] h = refl
  coords_stay done (n ∷ ns) h =
      ap (λ c. values_from (coord_of new) (done ++ c ∷ []) ns) (coord_stays done n (h 0 n refl)) ∙ coords_stay
      (done ++ coord_of old done n ∷ []) ns (λ i m e. h (suc i) m e)

  reduced_types : (seen : Ty → Ty) (ns : List CoordNode) (numbers : List ℕ)
      → ((i : ℕ) (n : CoordNode) → slice_get ns i ≡ Some n → n.head.0 < length old) → AreReduced seen old ns numbers
      → AreReduced seen new ns numbers
  reduced_types seen ns numbers heads reduced = record {
    long = reduced.long;
    reduced = λ i n k p q.
        let x = reduced.reduced i n k p q in (
          x.0,
          x.1,
          record {
            args = x.2.args;
            head = stays old new g x.0.head.0 _ x.2.head ∙ ap
                (λ (t : Ty). Some (seen t)) (sym (head_stays n.head (heads i n p)));
          },
        );
    no_later = reduced.no_later;
    own = reduced.own;
  }

  module _ (es : List (CoordNode × Numbers)) (keys : List (List CoordId)) (arena : IsArena old es keys) where
    heads : (i : ℕ) (n : CoordNode) → slice_get (keys_of es) i ≡ Some n → n.head.0 < length old
    heads i n e = (arena.table.fits i n e).1

    same_coords : coords_of new (keys_of es) ≡ coords_of old (keys_of es)
    same_coords = coords_stay [] (keys_of es) heads

    pub arena_types : StandsOnce new → IsArena new es keys
    arena_types once = record {
      types_once = once;
      table = subst (IsTableOf (coord_of new) (CoordFits (length new)) (keys_of es)) (sym same_coords) (record {
        long = arena.table.long;
        reads = λ i n e. arena.table.reads i n e ∙ ap Some (sym (coord_stays (coords_of old (keys_of es)) n
            (heads i n e)));
        fits = λ i n e. ((arena.table.fits i n e).0, omega (arith, heads i n e, grows_longer old new g));
        once = arena.table.once;
      });
      canons = reduced_types as_is (keys_of es) (canons_in es) heads arena.canons;
      erasures = reduced_types erase (keys_of es) (erased_in es) heads arena.erasures;
      canonical = arena.canonical;
      are_keys = arena.are_keys;
    }

    pub keeps_types : Keeps (meanings old es keys) (meanings new es keys)
    keeps_types = record {
      types = g;
      coords = subst (Grows (coords_of old (keys_of es))) (sym same_coords) (grows_itself _);
      keys = subst (λ cs. Grows (map (coords_at (coords_of old (keys_of es))) keys) (map (coords_at cs) keys))
          (sym same_coords) (grows_itself _);
    }
