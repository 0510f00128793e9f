use Rattle.std.proofs.Common.{◌≡◌, drop}
use Rattle.std.specs.List.{list_all}
use Rattle.sig_base.specs.Identifiers.{is_symbolic_byte}
use Rattle.sig_base.proofs.identifiers.are_symbolic.Given as goal

abbrev pub invariant-loop-b : goal.invariant-loop-b
invariant-loop-b l = list_all is_symbolic_byte (drop l.b-index l.text) ≡ list_all is_symbolic_byte l.text
