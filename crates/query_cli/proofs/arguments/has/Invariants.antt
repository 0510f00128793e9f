use Rattle.std.proofs.Common.{◌≡◌, drop, map, string_bytes}
use Rattle.query_cli.specs.Words.{has}
use Rattle.query_cli.proofs.arguments.has.Given as goal

abbrev pub invariant-loop-other : goal.invariant-loop-other
invariant-loop-other l = has (map string_bytes (drop l.other-index l.words)) l.word ≡ has (map string_bytes l.words) l.word
