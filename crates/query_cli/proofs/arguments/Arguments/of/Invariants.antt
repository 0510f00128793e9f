use Rattle.std.proofs.Common.{◌≡◌, ◌++◌, drop, take, map, string_bytes}
use Rattle.query_cli.specs.Words.{after_end, before_end}
use Rattle.query_cli.proofs.arguments.Arguments.of.Given as goal

abbrev pub invariant-loop-i : goal.invariant-loop-i
invariant-loop-i l = record {
  before : before_end (map string_bytes l.words) ≡ map string_bytes (take l.i l.words) ++ before_end (map string_bytes (drop l.i l.words));
  after : after_end (map string_bytes l.words) ≡ after_end (map string_bytes (drop l.i l.words));
}
