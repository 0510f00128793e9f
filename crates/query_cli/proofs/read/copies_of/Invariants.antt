use Rattle.std.proofs.Common.{◌≡◌, ◌++◌, length}
use Rattle.query_cli.specs.Requests.{values_in}
use Rattle.query_cli.proofs.read.copies_of.Given as goal

abbrev pub invariant-values : goal.invariant-values
invariant-values l = l.copies ++ values_in l.rest ≡ values_in l.values

abbrev pub decreases-values : goal.decreases-values
decreases-values l = length (values_in l.rest)
