use Rattle.std.proofs.Common.{◌≡◌, drop, map}
use Rattle.query_cli.specs.Words.{has}
use Rattle.query_cli.proofs.arguments.is_known.Given as goal

abbrev pub invariant-loop-name : goal.invariant-loop-name
invariant-loop-name l = has (map (λ name. name.now) (drop l.name-index l.known)) l.word ≡ has (map (λ name. name.now) l.known) l.word
