use Rattle.std.proofs.Common.{◌≡◌, ◌++◌, map, drop}
use Rattle.lib_index.specs.IndexText.{list_text, tycon_text}
use Rattle.type_core.specs.Lists.{concatenated}
use Rattle.lib_index.proofs.encoding.push_tycons.Given as goal

abbrev pub invariant-loop-tycon : goal.invariant-loop-tycon
invariant-loop-tycon l = l.out ++ concatenated (map tycon_text (drop l.tycon-index l.tycons)) ≡ l.fn.out
    ++ list_text tycon_text l.tycons
