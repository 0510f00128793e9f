use Rattle.std.proofs.Common.{◌≡◌, drop}
use Rattle.conv_plain.specs.Functions.{applied}
use Rattle.conv_plain.proofs.functions.applied.Given as goal

abbrev pub invariant-loop-argument : goal.invariant-loop-argument
invariant-loop-argument l = applied l.all (drop l.argument-index l.arguments) ≡ applied l.fn.f l.arguments
