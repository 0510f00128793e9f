use Rattle.std.proofs.Common.{◌≡◌, ◌≤◌, length}
use Rattle.sig_base.specs.LongIdentifiers.{parts}
use Rattle.elab_rules.specs.LongIdentifiers.{structure_along}
use Rattle.elab_rules.proofs.long_identifiers.structure_along.Given as goal

abbrev pub invariant-parts : goal.invariant-parts
invariant-parts l = record {
  value : structure_along (parts l.rest) l.env.entries.now ≡ structure_along (parts l.fn.path) l.fn.env.entries.now;
  short : length l.rest ≤ length l.fn.path;
}

abbrev pub decreases-parts : goal.decreases-parts
decreases-parts l = length l.rest
