use Rattle.std.proofs.Common.{◌↔◌, ◌≤◌, length}
use Rattle.sig_base.specs.Identifiers.{IsIdentifier}
use Rattle.sig_base.specs.LongIdentifiers.{IsLong}
use Rattle.sig_base.proofs.identifiers.is_long.Given as goal

abbrev pub invariant-parts : goal.invariant-parts
invariant-parts l = record {
  same : IsLong IsIdentifier l.rest ↔ IsLong IsIdentifier l.text;
  short : length l.rest ≤ length l.text;
}

abbrev pub decreases-parts : goal.decreases-parts
decreases-parts l = length l.rest
