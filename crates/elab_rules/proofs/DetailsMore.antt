-- What is kept beside units, one list after the other.
use Rattle.std.proofs.Common.{◌≡◌, ℕ, zero, suc, List, [], ◌∷◌, ◌++◌, slice_get, Some, refl, ap, arith, subst₂}
use Rattle.elab_rules.specs.declared.detail.Detail.{Detail}
use Rattle.elab_rules.specs.declared.entry.UnitEntry.{UnitEntry}
use Rattle.elab_rules.specs.Details.{AreDetails, IsDetail}

details_cons : (d : Detail) (u : UnitEntry) (ds : List Detail) (us : List UnitEntry) → IsDetail d u → AreDetails ds us → AreDetails (d ∷ ds) (u ∷ us)
details_cons d u ds us here h = record { count = ap suc h.count; each = each }
  where
    each : (n : ℕ) (detail : Detail) (unit : UnitEntry) → slice_get (d ∷ ds) n ≡ Some detail → slice_get (u ∷ us) n ≡ Some unit → IsDetail detail unit
    each zero detail unit a b =
        let same : d ≡ detail = cc in
        let beside : u ≡ unit = cc in
        subst₂ IsDetail same beside here
    each (suc n) detail unit a b = h.each n detail unit a b

details_tail : (d : Detail) (u : UnitEntry) (ds : List Detail) (us : List UnitEntry) → AreDetails (d ∷ ds) (u ∷ us) → AreDetails ds us
details_tail d u ds us h = record {
  count = omega (arith, h.count);
  each = λ n detail unit a b. h.each (suc n) detail unit a b;
}

pub details_appended : (ds es : List Detail) (us vs : List UnitEntry) → AreDetails ds us → AreDetails es vs → AreDetails (ds ++ es) (us ++ vs)
details_appended [] es [] vs h k = k
details_appended [] es (u ∷ us) vs h k = absurd (omega (arith, h.count))
details_appended (d ∷ ds) es [] vs h k = absurd (omega (arith, h.count))
details_appended (d ∷ ds) es (u ∷ us) vs h k = details_cons d u (ds ++ es) (us ++ vs) (h.each 0 d u refl refl) (details_appended ds es us vs (details_tail d u ds us h) k)

pub one_detail : (d : Detail) (u : UnitEntry) → IsDetail d u → AreDetails (d ∷ []) (u ∷ [])
one_detail d u h = details_cons d u [] [] h (record { count = refl; each = λ n detail unit a b. cc })
