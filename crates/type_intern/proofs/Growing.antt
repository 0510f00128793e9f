-- Arenas that grow.
use Rattle.std.proofs.Common.{◌≡◌, ◌<◌, ℕ, suc, List, [], ◌∷◌, ◌++◌, Some, map, length, slice_get, Bool, true, false, if◌then◌else◌, refl, sym, ap, ◌∙◌, subst, subst₂, arith, inl, inr, length-append}
use Rattle.std.proofs.lemmas.Option.{slice_get_within, get_or_from_slice_get}
use Rattle.std.specs.List.{list_any, position_or_len}
use Rattle.std.specs.Map.{keys_of}
use Rattle.indexmap.specs.IndexMap.{insert_entry}
use Rattle.indexmap.specs.IndexSet.{insert_key}
use Rattle.type_core.specs.declared.ty.Ty.{Ty}
use Rattle.type_intern.specs.declared.node.CoordId.{CoordId}
use Rattle.type_intern.specs.declared.node.CoordNode.{CoordNode}
use Rattle.type_intern.specs.declared.node.Numbers.{Numbers}
use Rattle.type_intern.specs.Erasure.{as_is, erase}
use Rattle.type_intern.specs.Numbering.{AllBelow, Grows, StandsOnce}
use Rattle.type_intern.specs.Sorting.{sorted}
use Rattle.type_intern.specs.Tables.{IsTableOf}
use Rattle.type_intern.specs.Tops.{numbers_of}
use Rattle.type_intern.specs.CoordTables.{AreKeys, AreReduced, CoordFits, GrowsTo, IsArena, IsKeyList, IsReduced, IsReducedAt, canons_in, coord_of, coords_of, erased_in, number_at, singles_in}
use Rattle.type_intern.proofs.CoordEquality.{coord_eq, list_eq, list_eq_itself, list_eq_same}
use Rattle.type_intern.proofs.CoordTops.{coord_tops, numbers_stay}
use Rattle.type_intern.proofs.Entries.{Added, key_grows, key_once, keys_push, length_keys}
use Rattle.type_intern.proofs.Places.{below_weaker, get_append, get_last, get_push, grows_itself, grows_longer, grows_push, map_push, stays}
use Rattle.type_intern.proofs.Placing.{push_table, values_push}
use Rattle.type_intern.proofs.Sorting.{below_sorted}
use Rattle.type_intern.proofs.Reductions.{are_own, numbers_below, own_reduction, push_reduced, reduced_at_stays, sorted_own}

pub length_beside : (f : CoordNode × Numbers → ℕ) (es : List (CoordNode × Numbers)) → length (map f es) ≡ length es
length_beside f [] = refl
length_beside f (e ∷ es) = ap suc (length_beside f es)

pub fits_on : (types now : List Ty) (es fs : List (CoordNode × Numbers)) (keys more : List (List CoordId))
    → GrowsTo types now es fs keys more → (n : CoordNode) → CoordFits (length types) (length es) n
    → CoordFits (length now) (length fs) n
fits_on types now es fs keys more g n fits = (
  below_weaker (length es) (length fs) (numbers_of n.args) (grows_longer es fs g.entries) fits.0,
  subst (λ (ts : List Ty). n.head.0 < length ts) (sym g.same_types) fits.1,
)

-- keys
pub key_list_stays : (erased more : List ℕ) (ids : List CoordId) → Grows erased more → IsKeyList erased ids
    → IsKeyList more ids
key_list_stays erased more ids g p = record {
  below = below_weaker _ _ _ (grows_longer erased more g) p.below;
  is = p.is ∙ sym (ap sorted (numbers_stay erased more g ids p.below));
}

-- what holds of each list and of one more holds of each once this is inserted
pub each_inserted : (P : List CoordId → Type 0) (keys : List (List CoordId)) (l : List CoordId)
    → ((i : ℕ) (ids : List CoordId) → slice_get keys i ≡ Some ids → P ids) → P l → (i : ℕ) (ids : List CoordId)
    → slice_get (insert_key list_eq keys l) i ≡ Some ids → P ids
each_inserted P keys l each p = by (list_any (list_eq l) keys)
  where
    by : (b : Bool) → (i : ℕ) (ids : List CoordId) → slice_get (if b then keys else keys ++ l ∷ []) i ≡ Some ids → P ids
    by true i ids e = each i ids e
    by false i ids e = elim (get_push keys l i ids e) [ inl q ↦ each i ids q | inr q ↦ subst P q.1 p ]

-- one more coordinate, whose key is among the keys
push_keys : (erased singles : List ℕ) (keys more : List (List CoordId)) (e k : ℕ) → AreKeys erased singles keys
    → Grows keys more → StandsOnce more
    → ((i : ℕ) (ids : List CoordId) → slice_get more i ≡ Some ids → IsKeyList (erased ++ e ∷ []) ids)
    → slice_get more k ≡ Some (record { 0 = e } ∷ []) → AreKeys (erased ++ e ∷ []) (singles ++ k ∷ []) more
push_keys erased singles keys more e k are g once lists at = record {
  once = once;
  lists = lists;
  long = simp length-append (omega (arith, are.long));
  single = λ i d j p q. elim (get_push erased e i d p) [
    | inl p ↦ elim (get_push singles k i j q) [
      | inl q ↦ stays keys more g j _ (are.single i d j p q)
      | inr q ↦ absurd (omega (arith, are.long, q.0, slice_get_within erased i d p))
    ]
    | inr p ↦ elim (get_push singles k i j q) [
      | inl q ↦ absurd (omega (arith, are.long, p.0, slice_get_within singles i j q))
      | inr q ↦ ap (slice_get more) (sym q.1) ∙ at ∙ ap (λ (z : ℕ). Some (record { 0 = z } ∷ [])) p.1
    ]
  ];
}

-- one more coordinate
module _ (types : List Ty) (es : List (CoordNode × Numbers)) (keys : List (List CoordId))
    (arena : IsArena types es keys) (n : CoordNode) (k : Numbers) where
  push_arena : (more : List (List CoordId)) → ((i : ℕ) → slice_get (keys_of es) i ≡ Some n → ⊥)
      → CoordFits (length types) (length es) n
      → IsReducedAt as_is types (keys_of es ++ n ∷ []) (canons_in es ++ k.canon.0 ∷ []) n k.canon.0
      → IsReducedAt erase types (keys_of es ++ n ∷ []) (erased_in es ++ k.erased.0 ∷ []) n k.erased.0
      → slice_get (canons_in es ++ k.canon.0 ∷ []) k.erased.0 ≡ Some k.erased.0
      → AreKeys (erased_in es ++ k.erased.0 ∷ []) (singles_in es ++ k.key.0 ∷ []) more
      → IsArena types (es ++ (n, k) ∷ []) more
  push_arena more absent fits canon erased canonical with_keys =
      let fs : List (CoordNode × Numbers) = es ++ (n, k) ∷ [] in
      let nodes : keys_of fs ≡ keys_of es ++ n ∷ [] = keys_push es n k in
      let canons : canons_in fs ≡ canons_in es ++ k.canon.0 ∷ [] = map_push (λ (e : CoordNode × Numbers). e.1.canon.0)
      es (n, k) in
      let erasures : erased_in fs ≡ erased_in es ++ k.erased.0 ∷ [] = map_push
      (λ (e : CoordNode × Numbers). e.1.erased.0) es (n, k) in
      let singles : singles_in fs ≡ singles_in es ++ k.key.0 ∷ [] = map_push (λ (e : CoordNode × Numbers). e.1.key.0) es
      (n, k) in
      let long : length (coords_of types (keys_of es)) ≡ length es = arena.table.long ∙ length_keys es in
      let parts : (i : ℕ) (m : CoordNode) → slice_get (keys_of es) i ≡ Some m → AllBelow i
      (numbers_of m.args) = λ i m e. (arena.table.fits i m e).0 in
      record {
        types_once = arena.types_once;
        table = subst (λ ns. IsTableOf (coord_of types) (CoordFits (length types)) ns (coords_of types ns)) (sym nodes)
            (subst (IsTableOf (coord_of types) (CoordFits (length types)) (keys_of es ++ n ∷ []))
            (sym (values_push (coord_of types) [] (keys_of es) n))
            (push_table (coord_of types) (CoordFits (length types)) (coord_tops types arena.types_once) (keys_of es)
            (coords_of types (keys_of es)) n arena.table (subst (λ l. CoordFits (length types) l n) (sym long) fits)
            absent));
        canons = subst₂ (λ ns cs. AreReduced as_is types ns cs) (sym nodes) (sym canons)
            (push_reduced as_is types (keys_of es) (canons_in es) arena.canons n k.canon.0 parts canon);
        erasures = subst₂ (λ ns cs. AreReduced erase types ns cs) (sym nodes) (sym erasures)
            (push_reduced erase types (keys_of es) (erased_in es) arena.erasures n k.erased.0 parts erased);
        canonical = λ i j p. subst (λ cs. slice_get cs j ≡ Some j) (sym canons)
            (elim (get_push (erased_in es) k.erased.0 i j (subst (λ cs. slice_get cs i ≡ Some j) erasures p)) [
              | inl q ↦ get_append (canons_in es) _ j j (arena.canonical i j q)
              | inr q ↦ subst (λ z. slice_get (canons_in es ++ k.canon.0 ∷ []) z ≡ Some z) q.1 canonical
            ]);
        are_keys = subst₂ (λ e s. AreKeys e s more) (sym erasures) (sym singles) with_keys;
      }

  below_beside : (f : CoordNode × Numbers → ℕ) → CoordFits (length types) (length es) n
      → AllBelow (length (map f es)) (numbers_of n.args)
  below_beside f fits = subst (λ l. AllBelow l (numbers_of n.args)) (sym (length_beside f es)) fits.0

  module _ (fs : List (CoordNode × Numbers)) (new : Added coord_eq es n k) (entries : fs ≡ insert_entry coord_eq es n k)
      (fits : CoordFits (length types) (length es) n) where
    pushed : fs ≡ es ++ (n, k) ∷ []
    pushed = entries ∙ new.entries

    -- with numbers and a key that are there
    pub put_grows : IsReducedAt as_is types (keys_of es ++ n ∷ []) (canons_in es ++ k.canon.0 ∷ []) n k.canon.0
        → IsReducedAt erase types (keys_of es) (erased_in es) n k.erased.0
        → slice_get (singles_in es) k.erased.0 ≡ Some k.key.0 → GrowsTo types types es fs keys keys
    put_grows canon erased key = record {
      same_types = refl;
      arena = subst (λ (xs : List (CoordNode × Numbers)). IsArena types xs keys) (sym pushed)
          (push_arena keys new.absent fits canon
          (reduced_at_stays erase types (keys_of es) (keys_of es ++ n ∷ []) (erased_in es)
          (erased_in es ++ k.erased.0 ∷ []) n k.erased.0 (grows_push _ n) (grows_push _ k.erased.0)
          (below_beside (λ e. e.1.erased.0) fits) erased)
          (get_append (canons_in es) _ _ _ (arena.canonical k.erased.0 k.erased.0 erased.own))
          (push_keys (erased_in es) (singles_in es) keys keys k.erased.0 k.key.0 arena.are_keys (grows_itself keys)
          arena.are_keys.once (λ i ids at. key_list_stays (erased_in es) _ ids (grows_push _ _)
          (arena.are_keys.lists i ids at)) (arena.are_keys.single k.erased.0 k.erased.0 k.key.0 erased.own key)));
      entries = record { more = (n, k) ∷ []; is = pushed };
      lists = grows_itself keys;
    }

    -- with its own numbers and a new key
    pub put_own_grows : (own : ℕ) → own ≡ length es → k.canon.0 ≡ own → k.erased.0 ≡ own → (alone : List CoordId)
        → alone ≡ record { 0 = own } ∷ [] → (more : List (List CoordId)) → more ≡ insert_key list_eq keys alone
        → slice_get more k.key.0 ≡ Some alone → IsReduced erase types (erased_in es) n n
        → IsReduced as_is types (canons_in es) n n → GrowsTo types types es fs keys more
    put_own_grows own last canon_own erased_own alone is_alone more is at erased canonical =
        let e_last : k.erased.0 ≡ length es = erased_own ∙ last in
        let c_last : k.canon.0 ≡ length es = canon_own ∙ last in
        let is_list : alone ≡ record { 0 = k.erased.0 } ∷ [] = is_alone ∙ ap (λ (z : ℕ). record { 0 = z } ∷ [])
        (sym erased_own) in
        let e_long : length (erased_in es) ≡ length es = length_beside (λ e. e.1.erased.0) es in
        let c_long : length (canons_in es) ≡ length es = length_beside (λ e. e.1.canon.0) es in
        let here : slice_get (erased_in es ++ k.erased.0 ∷ []) k.erased.0 ≡ Some k.erased.0 = ap
        (slice_get (erased_in es ++ k.erased.0 ∷ [])) (e_last ∙ sym e_long) ∙ get_last (erased_in es) k.erased.0 in
        let one_key : IsKeyList (erased_in es ++ k.erased.0 ∷ []) (record { 0 = k.erased.0 } ∷ []) = record {
          below = (slice_get_within (erased_in es ++ k.erased.0 ∷ []) k.erased.0 k.erased.0 here, tt);
          is = ap (λ (z : ℕ). z ∷ []) (sym (get_or_from_slice_get (erased_in es ++ k.erased.0 ∷ []) k.erased.0
              k.erased.0 0 here));
        } in
        record {
          same_types = refl;
          arena = subst (λ (xs : List (CoordNode × Numbers)). IsArena types xs more) (sym pushed)
              (push_arena more new.absent fits
              (own_reduction as_is types (keys_of es) (canons_in es) n k.canon.0 (c_last ∙ sym (length_keys es))
              (c_long ∙ sym (length_keys es)) (below_beside (λ e. e.1.canon.0) fits) canonical)
              (own_reduction erase types (keys_of es) (erased_in es) n k.erased.0 (e_last ∙ sym (length_keys es))
              (e_long ∙ sym (length_keys es)) (below_beside (λ e. e.1.erased.0) fits) erased)
              (ap (slice_get (canons_in es ++ k.canon.0 ∷ [])) (e_last ∙ sym c_long) ∙ get_last (canons_in es) k.canon.0
              ∙ ap Some (canon_own ∙ sym erased_own))
              (push_keys (erased_in es) (singles_in es) keys more k.erased.0 k.key.0 arena.are_keys
              (subst (Grows keys) (sym is) (key_grows list_eq list_eq_itself keys alone))
              (subst StandsOnce (sym is) (key_once list_eq list_eq_itself keys alone arena.are_keys.once))
              (λ i ids e. each_inserted (IsKeyList (erased_in es ++ k.erased.0 ∷ [])) keys alone
              (λ j js f. key_list_stays (erased_in es) _ js (grows_push _ _) (arena.are_keys.lists j js f))
              (subst (IsKeyList (erased_in es ++ k.erased.0 ∷ [])) (sym is_list) one_key) i ids
              (subst (λ ks. slice_get ks i ≡ Some ids) is e)) (at ∙ ap Some is_list)));
          entries = record { more = (n, k) ∷ []; is = pushed };
          lists = subst (Grows keys) (sym is) (key_grows list_eq list_eq_itself keys alone);
        }

    pub put_stands : (i : ℕ) → i ≡ position_or_len (coord_eq n) (keys_of es) → slice_get (keys_of fs) i ≡ Some n
    put_stands i at =
        ap (λ (xs : List (CoordNode × Numbers)). slice_get (keys_of xs) i) pushed ∙ ap (λ ns. slice_get ns i)
        (keys_push es n k)
        ∙ ap (slice_get (keys_of es ++ n ∷ [])) (at ∙ new.place ∙ sym (length_keys es)) ∙ get_last (keys_of es) n

-- one more key
pub key_added : (types : List Ty) (es : List (CoordNode × Numbers)) (keys more : List (List CoordId))
    → IsArena types es keys → (ids l : List CoordId) → AllBelow (length es) (numbers_of ids)
    → numbers_of l ≡ sorted (map (number_at (erased_in es)) ids) → more ≡ insert_key list_eq keys l
    → GrowsTo types types es es keys more
key_added types es keys more arena ids l within is added =
    let below : AllBelow (length (keys_of es)) (numbers_of ids) = subst (λ n. AllBelow n (numbers_of ids))
    (sym (length_keys es)) within in
    let key : IsKeyList (erased_in es) l = record {
      below = subst (AllBelow (length (erased_in es))) (sym is) (below_sorted (length (erased_in es)) _
          (subst (λ n. AllBelow n (map (number_at (erased_in es)) ids)) (sym arena.erasures.long)
          (numbers_below erase types (keys_of es) (erased_in es) arena.erasures ids below)));
      is = sorted_own (erased_in es) (map (number_at (erased_in es)) ids) l is
          (are_own erase types (keys_of es) (erased_in es) arena.erasures ids below);
    } in
    let lists : Grows keys more = subst (Grows keys) (sym added) (key_grows list_eq list_eq_itself keys l) in
    record {
      same_types = refl;
      arena = record {
        types_once = arena.types_once;
        table = arena.table;
        canons = arena.canons;
        erasures = arena.erasures;
        canonical = arena.canonical;
        are_keys = record {
          once = subst StandsOnce (sym added) (key_once list_eq list_eq_itself keys l arena.are_keys.once);
          lists = λ i js e. each_inserted (IsKeyList (erased_in es)) keys l arena.are_keys.lists key i js
              (subst (λ ks. slice_get ks i ≡ Some js) added e);
          long = arena.are_keys.long;
          single = λ i e k p q. stays keys more lists k _ (arena.are_keys.single i e k p q);
        };
      };
      entries = grows_itself es;
      lists = lists;
    }

-- a list that is equal to one in its place stands there
pub list_stands : (keys : List (List CoordId)) (l : List CoordId) (k : ℕ)
    → (m : List CoordId) × (slice_get keys k ≡ Some m) × (list_eq l m ≡ true) → slice_get keys k ≡ Some l
list_stands keys l k stored = stored.1 ∙ ap Some (sym (list_eq_same l stored.0 stored.2))
