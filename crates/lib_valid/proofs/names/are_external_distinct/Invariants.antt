use Rattle.std.proofs.Common.{Some, map, take}
use Rattle.std.specs.List.{filter}
use Rattle.type_core.specs.declared.names.TypeName.{TypeName}
use Rattle.type_core.specs.ValidLibrary.{path_and_arity}
use Rattle.lib_valid.specs.Parts.{AreAll}
use Rattle.lib_valid.proofs.names.are_external_distinct.Given as goal

abbrev pub invariant-loop-name : goal.invariant-loop-name
invariant-loop-name l = AreAll (map path_and_arity
    (filter (λ (name : TypeName). name.external) (take l.name-index l.names))) (Some l.pairs)
