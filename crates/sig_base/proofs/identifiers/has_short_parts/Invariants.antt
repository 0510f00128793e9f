use Rattle.std.proofs.Common.{◌↔◌, ◌≤◌, length}
use Rattle.sig_base.specs.LongIdentifiers.{HasShortParts}
use Rattle.sig_base.proofs.identifiers.has_short_parts.Given as goal

abbrev pub invariant-parts : goal.invariant-parts
invariant-parts l = record {
  same : HasShortParts l.rest ↔ HasShortParts l.text;
  short : length l.rest ≤ length l.text;
}

abbrev pub decreases-parts : goal.decreases-parts
decreases-parts l = length l.rest
