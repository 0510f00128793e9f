use Rattle.std.proofs.Common.{Some, map, not, take}
use Rattle.std.specs.List.{filter}
use Rattle.type_core.specs.declared.names.TypeName.{TypeName}
use Rattle.lib_valid.specs.Parts.{AreAll}
use Rattle.lib_valid.proofs.names.are_described_distinct.Given as goal

abbrev pub invariant-loop-name : goal.invariant-loop-name
invariant-loop-name l = AreAll (map (λ (name : TypeName). name.path)
    (filter (λ name. not name.external) (take l.name-index l.names))) (Some l.paths)
