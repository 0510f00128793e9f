-- What the calls of an arena say of what contracts see of it.
use Rattle.std.proofs.Common.{◌≡◌, ◌<◌, ℕ, List, [], ◌∷◌, Some, map, length, slice_get, get_or, refl, sym, ap, ap₂, ◌∙◌, subst, subst₂}
use Rattle.std.proofs.lemmas.Option.{none-some}
use Rattle.std.specs.Map.{keys_of}
use Rattle.type_core.specs.declared.ty.Ty.{Ty}
use Rattle.type_core.specs.Coordinates.{coordinate}
use Rattle.type_intern.specs.declared.node.TyId.{TyId}
use Rattle.type_intern.specs.declared.node.CoordId.{CoordId}
use Rattle.type_intern.specs.declared.node.CoordNode.{CoordNode}
use Rattle.type_intern.specs.declared.node.Numbers.{Numbers}
use Rattle.type_intern.specs.Erasure.{as_is, erase}
use Rattle.type_intern.specs.Meanings.{IsCanonical, IsKey, Keeps, Meanings, no_meanings}
use Rattle.type_intern.specs.Numbering.{AllBelow, Grows}
use Rattle.type_intern.specs.Tables.{values_from}
use Rattle.type_intern.specs.Tops.{coord_at, coords_at, numbers_of, type_at}
use Rattle.type_intern.specs.CoordTables.{AreReduced, CoordFits, GrowsTo, IsArena, IsKeyAt, canons_in, coord_of, coords_of, erased_in, meanings, singles_in}
use Rattle.type_intern.proofs.CoordTops.{args_stay, coord_tops}
use Rattle.type_intern.proofs.Meaning.{IsTop, canonical_is, key_is, keeps_meanings, keeps_types, single_key, top_read}
use Rattle.type_intern.proofs.Places.{below_weaker, grows_longer, once_empty}
use Rattle.type_intern.proofs.Placing.{empty_table}

-- the arena of nothing
pub empty_arena : (types : List Ty) → types ≡ [] → (es : List (CoordNode × Numbers)) → es ≡ []
    → (keys : List (List CoordId)) → keys ≡ [] → IsArena types es keys
empty_arena types none es empty keys no_keys =
    subst (λ ts. IsArena ts es keys) (sym none) (subst₂ (IsArena []) (sym empty) (sym no_keys) nothing)
  where
    no_reductions : (seen : Ty → Ty) → AreReduced seen [] [] []
    no_reductions seen = record {
      long = refl;
      reduced = λ i n k p q. absurd (none-some n p);
      no_later = λ i k p. absurd (none-some k p);
      own = λ i k p. absurd (none-some k p);
    }

    nothing : IsArena [] [] []
    nothing = record {
      types_once = once_empty;
      table = empty_table (coord_of []) (CoordFits 0) (coord_tops [] once_empty);
      canons = no_reductions as_is;
      erasures = no_reductions erase;
      canonical = λ i k p. absurd (none-some k p);
      are_keys = record {
        once = once_empty;
        lists = λ i ids p. absurd (none-some ids p);
        long = refl;
        single = λ i e k p q. absurd (none-some e p);
      };
    }

pub nothing_meant : (types : List Ty) → types ≡ [] → (es : List (CoordNode × Numbers)) → es ≡ []
    → (keys : List (List CoordId)) → keys ≡ [] → meanings types es keys ≡ no_meanings
unfolding values_from
nothing_meant types none es empty keys no_keys = ap (λ ts. meanings ts es keys) none ∙ ap (λ xs. meanings [] xs keys)
    empty ∙ ap (meanings [] []) no_keys

-- an arena of which contracts see m
module _ (types : List Ty) (es : List (CoordNode × Numbers)) (keys : List (List CoordId))
    (arena : IsArena types es keys) (m : Meanings) (is : meanings types es keys ≡ m) where
  pub top_seen : (c : CoordId) → c.0 < length m.coords → (all : List CoordNode) → all ≡ keys_of es → (n : CoordNode)
      → n ≡ get_or all c.0 n → IsTop m.types m.coords c n
  top_seen c l all same n read = subst (λ (m : Meanings). c.0 < length m.coords → IsTop m.types m.coords c n) is
      (λ l. top_read types es keys arena c l all same n read) l

  pub canonical_seen : (c : CoordId) (k : ℕ) → c.0 < length m.coords → slice_get (canons_in es) c.0 ≡ Some k
      → IsCanonical m.coords (coord_at m.coords c) k
  canonical_seen c k l at = subst (λ (m : Meanings). c.0 < length m.coords → IsCanonical m.coords (coord_at m.coords c)
      k) is (λ l. canonical_is types es keys arena c k l at) l

  pub single_seen : (c : CoordId) (k : ℕ) → c.0 < length m.coords → slice_get (singles_in es) c.0 ≡ Some k
      → IsKey m.keys (coord_at m.coords c ∷ []) k
  single_seen c k l at = subst (λ (m : Meanings). c.0 < length m.coords → IsKey m.keys (coord_at m.coords c ∷ []) k) is
      (λ l. key_is types es keys arena (c ∷ []) k (l, tt) (single_key types es keys arena c k l at)) l

  pub keeps_seen : (now : List Ty) (fs : List (CoordNode × Numbers)) (more : List (List CoordId))
      → GrowsTo types now es fs keys more → Keeps m (meanings now fs more)
  keeps_seen now fs more g = subst (λ m. Keeps m (meanings now fs more)) is
      (keeps_meanings types now es fs keys more arena g)

  pub keeps_types_seen : (new : List Ty) → Grows types new → Keeps m (meanings new es keys)
  keeps_types_seen new g = subst (λ m. Keeps m (meanings new es keys)) is (keeps_types types new g es keys arena)

  module _ (now : List Ty) (fs : List (CoordNode × Numbers)) (more : List (List CoordId))
      (g : GrowsTo types now es fs keys more) where
    coords_stay : (ids : List CoordId) → AllBelow (length m.coords) (numbers_of ids)
        → coords_at (coords_of now (keys_of fs)) ids ≡ coords_at m.coords ids
    coords_stay ids h = args_stay m.coords (coords_of now (keys_of fs)) (keeps_seen now fs more g).coords ids h

    pub coord_seen : (args own : List CoordId) (head : TyId) → own ≡ args → AllBelow (length m.coords) (numbers_of args)
        → head.0 < length m.types → (id : ℕ) → slice_get (keys_of fs) id ≡ Some (record { args = own; head = head })
        → slice_get (coords_of now (keys_of fs)) id ≡ Some (coordinate (coords_at m.coords args) (type_at m.types head))
    coord_seen args own head copied h l id stands =
        g.arena.table.reads id (record { args = own; head = head }) stands
        ∙ ap Some (ap₂ coordinate (ap (coords_at (coords_of now (keys_of fs))) copied ∙ coords_stay args h)
        (ap (λ ts. type_at ts head) (g.same_types ∙ ap (λ (m : Meanings). m.types) is)))

    pub key_seen : (ids : List CoordId) → AllBelow (length m.coords) (numbers_of ids) → (k : ℕ)
        → IsKeyAt (erased_in fs) more ids k
        → IsKey (map (coords_at (coords_of now (keys_of fs))) more) (coords_at m.coords ids) k
    key_seen ids h k at =
        subst (λ cs. IsKey (map (coords_at (coords_of now (keys_of fs))) more) cs k) (coords_stay ids h)
        (key_is now fs more g.arena ids k (below_weaker (length m.coords) (length (coords_of now (keys_of fs)))
        (numbers_of ids) (grows_longer _ _ (keeps_seen now fs more g).coords) h) at)
