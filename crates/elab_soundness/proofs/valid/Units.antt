-- The paths of what units have are distinct.
use Rattle.std.proofs.Common.{◌≡◌, ◌≢◌, ℕ, Bool, true, List, [], ◌∷◌, map, append_assoc, codes, sym, ◌∙◌, subst}
use Rattle.std.proofs.lemmas.List.Elements.{All-append, All-head, All-nil, All-tail, All-weaker}
use Rattle.std.specs.List.{All}
use Rattle.sig_base.specs.Identifiers.{IsAlphanumeric}
use Rattle.type_core.specs.Lists.{concatenated}
use Rattle.type_core.specs.ValidLibrary.{AreDistinct}
use Rattle.elab_rules.specs.declared.entry.UnitEntry.{UnitEntry}
use Rattle.elab_rules.specs.Environments.{Environment}
use Rattle.elab_soundness.specs.Soundness.{IsSoundUnit, known_by}
use Rattle.elab_rules.specs.States.{State, within}
use Rattle.elab_soundness.proofs.valid.Body.{no_dots}
use Rattle.elab_types.proofs.Lists.{no_pairs, pairs_parts}
use Rattle.sig_base.proofs.LongIdentifiers.{word_no_dot}
use Rattle.elab_soundness.proofs.valid.LongPaths.{same_before_dot}
use Rattle.elab_soundness.proofs.valid.Paths.{ArePaths, StandsIn, distinct_both, distinct_paths, under}

abbrev pub unit_ids : List UnitEntry → List (List ℕ)
unit_ids units = map (λ (unit : UnitEntry). unit.id) units

same_unit : (u v y z : List ℕ) → IsAlphanumeric u → IsAlphanumeric v → within u y ≡ within v z → u ≡ v
same_unit u v y z h k e = same_before_dot u v y z (word_no_dot u h) (word_no_dot v k) (sym (append_assoc u (codes ".") y) ∙ e ∙ append_assoc v (codes ".") z)

module _ (types values : Bool) (paths : List ℕ → Environment → List (List ℕ)) (are : ArePaths types values paths) (one : types ≡ true → values ≡ true → ⊥) (s : State) where
  abbrev pub all_paths : List UnitEntry → List (List ℕ)
  all_paths units = concatenated (map (λ (unit : UnitEntry). paths unit.id unit.entries) units)

  others : (id rest : List ℕ) → IsAlphanumeric id → (units : List UnitEntry) → All (IsSoundUnit s) units → All (λ other. id ≢ other) (unit_ids units) → All (λ y. within id rest ≢ y) (all_paths units)
  others id rest alphanumeric [] h apart = All-nil _
  others id rest alphanumeric (unit ∷ units) h apart =
      let u = All-head (IsSoundUnit s) unit units h in
      let far = All-head (λ other. id ≢ other) unit.id (unit_ids units) apart in
      All-append (λ y. within id rest ≢ y) (paths unit.id unit.entries) (all_paths units)
      (All-weaker (StandsIn types values paths are unit.id) (λ y. within id rest ≢ y) (λ y k e. far (same_unit id unit.id rest k.0 alphanumeric (u.id).alphanumeric (e ∙ k.1))) (paths unit.id unit.entries) (under types values paths are unit.id unit.entries (no_dots (known_by s) unit.entries (u.entries).entries)))
      (others id rest alphanumeric units (All-tail (IsSoundUnit s) unit units h) (All-tail (λ other. id ≢ other) unit.id (unit_ids units) apart))

  pub units_distinct : (units : List UnitEntry) → All (IsSoundUnit s) units → AreDistinct (unit_ids units) → AreDistinct (all_paths units)
  units_distinct [] h d = no_pairs
  units_distinct (unit ∷ units) h d =
      let u = All-head (IsSoundUnit s) unit units h in
      let rest = All-tail (IsSoundUnit s) unit units h in
      let p = pairs_parts (λ a b. a ≢ b) unit.id (unit_ids units) d in
      let dots = no_dots (known_by s) unit.entries (u.entries).entries in
      distinct_both (paths unit.id unit.entries) (all_paths units)
      (distinct_paths types values paths are unit.id unit.entries one dots (u.entries).distinct)
      (units_distinct units rest p.1)
      (All-weaker (StandsIn types values paths are unit.id) (λ x. All (λ y. x ≢ y) (all_paths units))
      (λ x k. subst (λ z. All (λ y. z ≢ y) (all_paths units)) (sym k.1) (others unit.id k.0 (u.id).alphanumeric units rest p.0))
      (paths unit.id unit.entries) (under types values paths are unit.id unit.entries dots))
