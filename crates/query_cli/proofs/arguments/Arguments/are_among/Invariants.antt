use Rattle.std.proofs.Common.{◌≡◌, drop, map, string_bytes}
use Rattle.std.specs.Prelude.{filter}
use Rattle.query_cli.specs.Words.{are_among, is_option}
use Rattle.query_cli.proofs.arguments.Arguments.are_among.Given as goal

abbrev pub invariant-loop-i : goal.invariant-loop-i
invariant-loop-i l = are_among (map (λ name. name.now) l.known) (filter is_option (map string_bytes (drop l.i l.self.before.now)))
    ≡ are_among (map (λ name. name.now) l.known) (filter is_option (map string_bytes l.self.before.now))
