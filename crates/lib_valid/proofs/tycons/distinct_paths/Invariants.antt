use Rattle.std.proofs.Common.{Some, take}
use Rattle.lib_valid.specs.Parts.{AreAll, paths_of}
use Rattle.lib_valid.proofs.tycons.distinct_paths.Given as goal

abbrev pub invariant-loop-tycon : goal.invariant-loop-tycon
invariant-loop-tycon l = AreAll (paths_of (take l.tycon-index l.tycons)) (Some l.paths)
