use Rattle.std.proofs.Common.{◌≡◌, ◌++◌, map, drop}
use Rattle.lib_index.specs.IndexText.{list_text, unit_text}
use Rattle.type_core.specs.Lists.{concatenated}
use Rattle.lib_index.proofs.encoding.push_units.Given as goal

abbrev pub invariant-loop-unit : goal.invariant-loop-unit
invariant-loop-unit l = l.out ++ concatenated (map unit_text (drop l.unit-index l.units)) ≡ l.fn.out
    ++ list_text unit_text l.units
