use Rattle.std.proofs.Common.{◌↔◌, ◌≤◌, length}
use Rattle.sig_base.specs.LongIdentifiers.{IsLong}
use Rattle.lib_valid.specs.Paths.{Ends}
use Rattle.lib_valid.proofs.paths.is_long.Given as goal

abbrev pub invariant-parts : goal.invariant-parts
invariant-parts l = record {
  same : IsLong (Ends l.ending) l.rest ↔ IsLong (Ends l.ending) l.text;
  short : length l.rest ≤ length l.text;
}

abbrev pub decreases-parts : goal.decreases-parts
decreases-parts l = length l.rest
