use Rattle.std.proofs.Common.{◌^◌, ◌≡◌, ◌<◌, ◌≤◌, ◌++◌, drop, length}
use Rattle.std.specs.Fmt.{decimal}
use Rattle.isosearch.proofs.decimal.Decimal.of.Given as goal

abbrev pub invariant-digits : goal.invariant-digits
invariant-digits l = record {
  room : 1 ≤ l.from;
  within : l.from ≤ 10;
  size : length l.digits ≡ 10;
  small : l.rest < 10 ^ l.from;
  read : decimal l.n ≡ decimal l.rest ++ drop l.from l.digits;
}

abbrev pub decreases-digits : goal.decreases-digits
decreases-digits l = l.from
