-- The plain converters of a pairing and of its inverse.
use Rattle.std.proofs.Common.{◌≡◌, ℕ, List, [], ◌∷◌, length, get_or, Some, slice_get, Result, Ok, Err, IfOk, refl, sym, ap, ◌∙◌, subst}
use Rattle.std.specs.List.{All}
use Rattle.std.proofs.lemmas.List.{length-map}
use Rattle.std.proofs.lemmas.Option.{get_or_from_slice_get, slice_get_within}
use Rattle.sig_base.specs.declared.no_memory.NoMemory.{NoMemory}
use Rattle.type_core.specs.declared.ty.Ty.{Ty}
use Rattle.type_core.specs.declared.coordinate.Coordinate.{Coordinate}
use Rattle.type_core.specs.Coordinates.{arguments_of, coordinates}
use Rattle.type_core.specs.Types.{IsType}
use Rattle.iso_normal.specs.declared.pair_tree.PairTree.{PairTree}
use Rattle.iso_normal.specs.declared.pair_tree.Entry.{Entry}
use Rattle.iso_normal.specs.Pairings.{Pairs}
use Rattle.iso_normal.specs.PairTrees.{args_of, entries_of, inverse, place_of, places_of}
use Rattle.iso_normal.proofs.Distinct.{different}
use Rattle.iso_normal.proofs.InversePairs.{permutes}
use Rattle.conv_terms.specs.declared.term.Term.{Term}
use Rattle.conv_terms.specs.declared.term.Term.TheVariants as term
use Rattle.conv_typing.specs.Typing.{HasType, HaveTypes}
use Rattle.conv_typing.specs.Conversion.{Converts, ConvertEach}
use Rattle.conv_typing.specs.InversePair.{IsInversePair}
use Rattle.conv_typing.proofs.Kept.{each_typed}
use Rattle.conv_plain.specs.CoordinateTypes.{coordinate_type, coordinate_types, types_of}
use Rattle.conv_plain.specs.SplitJoin.{join, split}
use Rattle.conv_plain.specs.Moving.{carried, moved, moved_back, no_term}
use Rattle.conv_plain.specs.PlainConverter.{plain_converter}
use Rattle.conv_plain.proofs.Lists.{all_types, length_each, same_each}
use Rattle.conv_plain.proofs.Formed.{coordinates_typed, formed}
use Rattle.conv_plain.proofs.Congruent.{split_converts}
use Rattle.conv_plain.proofs.Ways.{converter, converters_inverse}
use Rattle.conv_plain.proofs.Moves.{moved_at, moved_length}
use Rattle.conv_plain.proofs.Undoing.{Facts, back_way, forth_way, pairing_facts}
use Rattle.conv_plain.proofs.Inverting.{carried_agree, entry_turned, moved_by_the_inverse}

module _ (a b : Ty) (p : PairTree) (ka : IsType a) (kb : IsType b) (k : Pairs ◌≡◌ (coordinates a) (coordinates b) p) where
  facts : Facts p (coordinates a) (coordinates b)
  facts = pairing_facts k (coordinates_typed (formed a ka)) (coordinates_typed (formed b kb))

  -- the converter by moving back is that by moving along the inverse
  converter_back : converter b a (moved_back p (coordinates a) (coordinates b)) ≡ plain_converter b a (inverse p)
  converter_back =
      let typed = split_converts (formed b kb) (b ∷ []) (term.Var 0) (term.Var 0) (Converts.same (HasType.var 0 refl kb)) in
      ap (λ es. term.Lam b (join a 1 es)) (moved_by_the_inverse k 1 (split b 1 (term.Var 0)) ((length_each typed).0 ∙ length-map (coordinates b) coordinate_type))

  pub plain_inverse : IsInversePair a b (plain_converter a b p) (plain_converter b a (inverse p))
  plain_inverse = subst (IsInversePair a b (plain_converter a b p)) converter_back
      (converters_inverse a b (formed a ka) (formed b kb) (forth_way facts) (back_way facts) facts.undone facts.redone)

-- so is what is made, where it is the plain converter
pub made_inverse : (a b : Ty) (p : PairTree) (r : Result Term NoMemory) → IsType a → IsType b → Pairs ◌≡◌ (coordinates a) (coordinates b) p → IfOk r (λ t. t ≡ plain_converter a b p) → IfOk r (λ t. IsInversePair a b t (plain_converter b a (inverse p)))
made_inverse a b p (Ok t) ka kb k is = subst (λ t. IsInversePair a b t (plain_converter b a (inverse p))) (sym is) (plain_inverse a b p ka kb k)
made_inverse a b p (Err e) ka kb k is = tt

-- what stands at the place of an entry
pub place_has_term : (p : PairTree) (cs ds : List Coordinate) (i n : ℕ) (e : Entry) (c d : Coordinate) (es : List Term) (t : Term) → Pairs ◌≡◌ cs ds p → slice_get (entries_of p) i ≡ Some e → slice_get cs i ≡ Some c → slice_get ds (place_of e) ≡ Some d → slice_get es i ≡ Some t → slice_get (moved p cs ds n es) (place_of e) ≡ Some (carried (types_of (arguments_of d)) (moved (inverse (args_of e)) (arguments_of d) (arguments_of c)) n t)
place_has_term p cs ds i n e c d es t k at there here is =
    moved_at p cs ds es i (place_of e) e c d n (different (places_of (entries_of p)) (permutes ◌≡◌ k).distinct) at refl there here (slice_get_within es i t is)
    ∙ ap Some (carried_agree (arguments_of d) _ _ (entry_turned k i e c d at there here) n (get_or es i no_term) ∙ ap (carried (types_of (arguments_of d)) (moved (inverse (args_of e)) (arguments_of d) (arguments_of c)) n) (get_or_from_slice_get es i t no_term is))

-- terms that are moved have the types of the coordinates that they are moved to, and moving them back undoes it
module _ (ctx : List Ty) (c d : List Coordinate) (p : PairTree) (es : List Term) (kc : All IsType (types_of c)) (kd : All IsType (types_of d)) (k : Pairs ◌≡◌ c d p) (l : HaveTypes ctx es (types_of c)) where
  moving : Facts p c d
  moving = pairing_facts k (all_types (types_of c) kc) (all_types (types_of d) kd)

  pub moved_typed : HaveTypes ctx (moved p c d (length ctx) es) (types_of d)
  moved_typed = (each_typed (moving.forth ctx es es (same_each l))).0

  pub there_and_back : ConvertEach ctx (types_of c) (moved (inverse p) d c (length ctx) (moved p c d (length ctx) es)) es
  there_and_back =
      let there = moved p c d (length ctx) es in
      subst (λ us. ConvertEach ctx (types_of c) us es) (moved_by_the_inverse k (length ctx) there (moved_length p c d (length ctx) es)) (moving.undone ctx es (same_each l))
