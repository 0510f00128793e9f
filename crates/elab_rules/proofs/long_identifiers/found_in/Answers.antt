use Rattle.std.proofs.Common.{sym}
use Rattle.type_core.specs.Types.{IsOver}
use Rattle.elab_rules.proofs.FoundOver.{type_in_over}
use Rattle.elab_rules.proofs.long_identifiers.found_in.Goals as goal

pub returns-in-Some-clause-over : goal.returns-in-Some-clause-over
returns-in-Some-clause-over c = λ names over. record {
  entry = type_in_over (IsOver names) c.args.id.now c.in-Some.entry.now c.args.env.entries.now over (sym c.in-Some.ensures.value);
  env = over;
}
