use Rattle.std.proofs.Common.{◌≡◌, ◌≤◌, List, length}
use Rattle.type_core.specs.declared.names.TypeName.{TypeName}
use Rattle.sig_base.specs.LongIdentifiers.{parts}
use Rattle.elab_rules.specs.LongIdentifiers.{type_along}
use Rattle.elab_rules.specs.Standing.{AreOver}
use Rattle.elab_rules.proofs.long_identifiers.type_along.Given as goal

abbrev pub invariant-parts : goal.invariant-parts
invariant-parts l = record {
  value : type_along (parts l.rest) l.env.entries.now ≡ type_along (parts l.fn.path) l.fn.env.entries.now;
  over : (names : List TypeName) → AreOver names l.fn.env.entries.now → AreOver names l.env.entries.now;
  short : length l.rest ≤ length l.fn.path;
}

abbrev pub decreases-parts : goal.decreases-parts
decreases-parts l = length l.rest
