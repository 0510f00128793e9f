use Rattle.std.proofs.Common.{◌≡◌, ◌++◌, map, drop}
use Rattle.lib_index.specs.IndexText.{list_text, name_text}
use Rattle.type_core.specs.Lists.{concatenated}
use Rattle.lib_index.proofs.encoding.push_names.Given as goal

abbrev pub invariant-loop-name : goal.invariant-loop-name
invariant-loop-name l = l.out ++ concatenated (map name_text (drop l.name-index l.names)) ≡ l.fn.out
    ++ list_text name_text l.names
