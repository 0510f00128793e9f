use Rattle.std.proofs.Common.{◌≡◌, drop, map, string_bytes, not}
use Rattle.std.specs.Prelude.{filter}
use Rattle.query_cli.specs.Words.{is_option}
use Rattle.query_cli.proofs.arguments.Arguments.split_first.Given as goal

abbrev pub invariant-loop-i : goal.invariant-loop-i
invariant-loop-i l = filter (λ word. not (is_option word)) (map string_bytes (drop l.i l.self.before.now))
    ≡ filter (λ word. not (is_option word)) (map string_bytes l.self.before.now)
