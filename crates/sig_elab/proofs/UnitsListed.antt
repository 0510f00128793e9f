-- The library of units whose names the code numbered without gaps.
use Rattle.std.proofs.Common.{◌≡◌, ℕ, ◌<◌, Bool, List, [], ◌∷◌, length, map, refl, ap, ap₂, ◌∙◌}
use Rattle.std.proofs.lemmas.List.Elements.{All-head, All-tail, All-weaker}
use Rattle.std.specs.List.{All}
use Rattle.type_core.specs.declared.library.Library.{Library}
use Rattle.type_core.specs.declared.library.Tycon.{Tycon}
use Rattle.type_core.specs.declared.library.Unit.{Unit as LibraryUnit}
use Rattle.type_core.specs.declared.member.Member.{Member}
use Rattle.type_core.specs.declared.names.TypeName.{TypeName}
use Rattle.type_core.specs.Lists.{concatenated}
use Rattle.type_core.specs.Types.{IsOver}
use Rattle.elab_env.specs.Table.{Table}
use Rattle.elab_rules.specs.declared.entry.UnitEntry.{UnitEntry}
use Rattle.elab_rules.specs.Copies.{with_numbers}
use Rattle.elab_rules.specs.Environments.{Environment}
use Rattle.elab_rules.specs.Library.{Basis, kept_names, library, number_kept, unit_members, unit_of, unit_renumbered, unit_tycons}
use Rattle.elab_rules.specs.Standing.{IsSettled}
use Rattle.elab_rules.specs.Views.{gone_of}
use Rattle.elab_rules.specs.Wheres.{types_of}
use Rattle.elab_rules.proofs.Entries.{with_agrees}
use Rattle.elab_phrases.specs.Renumbering.{unit_with_numbers}
use Rattle.elab_rules.proofs.Renumbered.{numberings_agree}

-- ---- settled units, whose types have only names of the table
module _ (table : Table) (f : ℕ → ℕ) (same : (n : ℕ) → n < length table.names → f n ≡ number_kept (gone_of table) n) where
  unit_numbered : (unit : UnitEntry) → IsSettled table unit.entries → unit_with_numbers f unit ≡ unit_renumbered (gone_of table) unit
  unit_numbered unit settled =
      let g = number_kept (gone_of table) in
      let agree : All (λ t. with_numbers f t ≡ with_numbers g t) (types_of unit.entries) = All-weaker (IsOver table.names) (λ t. with_numbers f t ≡ with_numbers g t) (numberings_agree table.names f g same) (types_of unit.entries) settled.over in
      ap (λ (env : Environment). let changed : UnitEntry = record { kind = unit.kind; id = unit.id; entries = env; first_name = unit.first_name; name_count = unit.name_count } in changed)
      (with_agrees (with_numbers f) (with_numbers g) unit.entries agree)

  pub units_numbered : (units : List UnitEntry) → All (λ (unit : UnitEntry). IsSettled table unit.entries) units → map (unit_with_numbers f) units ≡ map (unit_renumbered (gone_of table)) units
  units_numbered [] settled = refl
  units_numbered (unit ∷ units) settled =
      ap₂ ◌∷◌ (unit_numbered unit (All-head (λ (u : UnitEntry). IsSettled table u.entries) unit units settled))
      (units_numbered units (All-tail (λ (u : UnitEntry). IsSettled table u.entries) unit units settled))

-- ---- the parts of the library
units_stay : (flags : List Bool) (units : List UnitEntry) → map unit_of (map (unit_renumbered flags) units) ≡ map unit_of units
units_stay flags [] = refl
units_stay flags (unit ∷ units) = ap (λ rest. unit_of unit ∷ rest) (units_stay flags units)

abbrev library_by : List LibraryUnit → List TypeName → List Tycon → List Member → Library
library_by units names tycons members = record { units = units; names = names; tycons = tycons; members = members }

pub library_listed : (basis : Basis) (renumbered : List UnitEntry) (units : List LibraryUnit) (names : List TypeName) (tycons : List Tycon) (members : List Member)
    → renumbered ≡ map (unit_renumbered basis.state.gone) basis.units
    → units ≡ map unit_of renumbered → names ≡ kept_names basis.state.names basis.state.gone → tycons ≡ concatenated (map unit_tycons renumbered) → members ≡ concatenated (map unit_members renumbered)
    → library_by units names tycons members ≡ library basis
library_listed basis renumbered units names tycons members now u n t m =
    let units_are = u ∙ ap (map unit_of) now ∙ units_stay basis.state.gone basis.units in
    let tycons_are = t ∙ ap (λ us. concatenated (map unit_tycons us)) now in
    let members_are = m ∙ ap (λ us. concatenated (map unit_members us)) now in
    ap₂ (λ us ns. library_by us ns tycons members) units_are n
    ∙ ap₂ (λ ts ms. library_by (map unit_of basis.units) (kept_names basis.state.names basis.state.gone) ts ms) tycons_are members_are
