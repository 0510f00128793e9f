-- How the code numbers names anew.
use Rattle.std.specs.Prelude.{ℕ, slice_index_or}
use Rattle.elab_rules.specs.declared.entry.UnitEntry.{UnitEntry}
use Rattle.elab_phrases.specs.declared.renumbering.Numbering.{Numbering}
use Rattle.elab_phrases.specs.declared.renumbering.Numbering.TheVariants.{Copied, Kept}
use Rattle.elab_rules.specs.Copies.{renumbered, with_numbers}
use Rattle.elab_rules.specs.Replacing.{environment_with}

-- the new number of a name
abbrev pub numbers_of : Numbering → ℕ → ℕ
numbers_of (Copied own first) n = renumbered own.now.numbers.items first n
numbers_of (Kept numbers) n = slice_index_or numbers.now n 0

-- a unit with the names of its types numbered anew
abbrev pub unit_with_numbers : (ℕ → ℕ) → UnitEntry → UnitEntry
unit_with_numbers f unit = record {
  kind = unit.kind;
  id = unit.id;
  entries = environment_with (with_numbers f) unit.entries;
  first_name = unit.first_name;
  name_count = unit.name_count;
}
