use Rattle.std.proofs.Common.{◌≡◌, ◌++◌, drop}
use Rattle.conv_plain.proofs.functions.append.Given as goal

abbrev pub invariant-loop-t : goal.invariant-loop-t
invariant-loop-t l = l.done ++ drop l.t-index l.terms ≡ l.fn.done ++ l.terms
