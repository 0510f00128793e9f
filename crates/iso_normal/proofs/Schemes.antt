-- Schemes are equal up to isomorphism exactly where their coordinates have a consistent pairing.
use Rattle.std.proofs.Common.{◌≡◌, ◌∙◌, refl, sym, subst}
use Rattle.type_core.specs.Coordinates.{coordinates}
use Rattle.type_core.specs.Renaming.{Renaming, field_renamed, renamed}
use Rattle.type_core.specs.Types.{IsType}
use Rattle.type_core.specs.declared.ty.Scheme.{Scheme}
use Rattle.iso_axioms.specs.SchemeEquality.{AreEqualIn}
use Rattle.iso_axioms.specs.Theory.{IsIsomorphic}
use Rattle.iso_axioms.proofs.Extended.{extended, extended_keeps_marks, extended_one_to_one, renamed_extended}
use Rattle.iso_axioms.proofs.Replaced.{keeps_types, renaming_replaces}
use Rattle.iso_normal.specs.Consistency.{IsConsistent, Turns, variables_among}
use Rattle.iso_normal.specs.declared.pair_tree.PairTree.{PairTree}
use Rattle.iso_normal.specs.Pairings.{Pairs}
use Rattle.iso_normal.proofs.Complete.{alike_isomorphic}
use Rattle.iso_normal.proofs.Consistent.{coordinates_renamed, pairs_renamed, renamed_pairs}
use Rattle.iso_normal.proofs.CoordinateVariables.{pairs_over, variables_within}
use Rattle.iso_normal.proofs.Paired.{agree_of_pairs, paired}
use Rattle.iso_normal.proofs.Sound.{isomorphic_alike}

pub consistent : (a b : Scheme) → AreEqualIn IsIsomorphic a b → (r : Renaming) × (p : PairTree) × IsConsistent r (coordinates a.body) (coordinates b.body) p
consistent a b e =
    let r : Renaming = e.0 in
    let equal = subst (λ t. IsIsomorphic t b.body) (sym e.2.makes) e.3 in
    let found = paired (isomorphic_alike equal) (coordinates (renamed r a.body)) (coordinates b.body) refl refl in (
      r,
      found.0,
      record {
        one_to_one = λ v w p q. e.2.one_to_one v w (variables_within a.body v p) (variables_within a.body w q);
        keeps_marks = λ v p. e.2.keeps_marks v (variables_within a.body v p);
        pairs = renamed_pairs r found.1 (coordinates a.body) (coordinates_renamed r a.body);
      },
    )

pub equal_in_theory : (a b : Scheme) → IsType a.body → IsType b.body → (r : Renaming) (p : PairTree) → IsConsistent r (coordinates a.body) (coordinates b.body) p → AreEqualIn IsIsomorphic a b
equal_in_theory a b is_a is_b r p c =
    let vs = variables_among (coordinates a.body) in
    let s : Renaming = extended r vs in
    let turned : Pairs (Turns s) (coordinates a.body) (coordinates b.body) p = pairs_over vs (λ h k inside e. renamed_extended r vs h inside ∙ e) c.pairs (λ v e. e) in
    let same = subst (λ cs. Pairs ◌≡◌ cs (coordinates b.body) p) (sym (coordinates_renamed s a.body)) (pairs_renamed s turned) in
    let is_type = keeps_types (renamed s) (field_renamed s) (renaming_replaces s) a.body is_a in (
      s,
      renamed s a.body,
      record {
        one_to_one = λ v w p q. extended_one_to_one r vs c.one_to_one v w;
        keeps_marks = λ v p. extended_keeps_marks r vs c.keeps_marks v;
        makes = refl;
      },
      alike_isomorphic (renamed s a.body) b.body is_type is_b (agree_of_pairs same),
    )
