-- The details of what a mode found.
use Rattle.std.proofs.Common.{◌≡◌, List, Some, None, refl, ap, subst, sym}
use Rattle.type_core.specs.declared.names.TypeName.{TypeName}
use Rattle.type_core.specs.declared.ty.Scheme.{Scheme}
use Rattle.iso_normal.specs.declared.pair_tree.PairTree.{PairTree}
use Rattle.linear_match.specs.declared.instance.Instance.{Instance}
use Rattle.conv_build.specs.declared.converters.Converters.{Converters}
use Rattle.search_core.specs.declared.answer.Details.{Details}
use Rattle.search_core.specs.declared.answer.Mode.{Mode}
use Rattle.search_core.specs.declared.answer.Mode.TheVariants as mode
use Rattle.search_core.specs.declared.comparing.Found.{Found}
use Rattle.search_core.specs.declared.comparing.Found.TheVariants as found
use Rattle.search_core.specs.declared.converting.Paired.{Paired}
use Rattle.search_core.specs.Comparing.{IsFound}
use Rattle.search_core.specs.Converters.{AreConverters}
use Rattle.search_core.specs.Search.{AreDetails, IsPaired}

module _ (names : List TypeName) (scheme query : Scheme) where
  pub paired_details : (m : Mode) (f : Found) (paired : Paired) (p : PairTree) (c d : Converters)
      → f ≡ found.Paired paired → p ≡ paired.tree → d ≡ c → IsPaired scheme query paired.tree c
      → IsFound names m scheme query f
      → AreDetails names m scheme query (record { pairing = Some p; instance = None; conv = Some d })
  paired_details m f paired p c d is tree same are by_this =
      by m (subst (IsFound names m scheme query) is by_this)
    where
      by : (m : Mode) → IsFound names m scheme query (found.Paired paired)
          → AreDetails names m scheme query (record { pairing = Some p; instance = None; conv = Some d })
      by mode.Same none = absurd none
      by mode.Iso least = (paired.tree, c, ap Some tree, refl, ap Some same, are)
      by mode.General none = absurd none

  pub matched_details : (m : Mode) (f : Found) (i j : Instance) (p q : PairTree) (c d : Converters)
      → f ≡ found.Matched i p → j ≡ i → q ≡ p → d ≡ c → AreConverters i.body query.body p c
      → IsFound names m scheme query f
      → AreDetails names m scheme query (record { pairing = Some q; instance = Some j; conv = Some d })
  matched_details m f i j p q c d is instance tree same are by_this =
      by m (subst (IsFound names m scheme query) is by_this)
    where
      by : (m : Mode) → IsFound names m scheme query (found.Matched i p)
          → AreDetails names m scheme query (record { pairing = Some q; instance = Some j; conv = Some d })
      by mode.Same none = absurd none
      by mode.Iso none = absurd none
      by mode.General match = (
        p,
        i,
        c,
        ap Some tree,
        ap Some instance,
        ap Some same,
        record {
          first = match.first;
          least = match.least;
          converters = are;
        },
      )
