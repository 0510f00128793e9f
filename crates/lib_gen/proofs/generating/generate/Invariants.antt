use Rattle.std.proofs.Common.{◌≡◌, ◌++◌, codes}
use Rattle.lib_gen.specs.Generator.{value_lines}
use Rattle.lib_gen.proofs.generating.generate.Given as goal

abbrev pub invariant-loop-i : goal.invariant-loop-i
invariant-loop-i l = l.text ≡ codes "signature G = sig\n" ++ value_lines l.i
