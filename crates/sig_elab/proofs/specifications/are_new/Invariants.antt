use Rattle.std.proofs.Common.{◌≡◌, drop}
use Rattle.elab_rules.specs.Specifications.{are_new}
use Rattle.sig_elab.proofs.specifications.are_new.Given as goal

abbrev pub invariant-loop-entry : goal.invariant-loop-entry
invariant-loop-entry l = are_new (drop l.entry-index l.entries) l.own.entries.now ≡ are_new l.entries l.own.entries.now
