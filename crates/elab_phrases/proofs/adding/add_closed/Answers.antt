use Rattle.std.proofs.Common.{sym, subst}
use Rattle.elab_rules.specs.Standing.{IsSettledScheme}
use Rattle.elab_phrases.proofs.Added.{closed_settled}
use Rattle.elab_phrases.proofs.adding.add_closed.Goals as goal

pub add_value-requires-clause-settled : goal.add_value-requires-clause-settled
add_value-requires-clause-settled c =
    subst (IsSettledScheme c.args.progress.now.table) (sym c.in_ok-scheme.ensures.value) (closed_settled c.args.progress.now.table c.args.t.now c.requires.settled)
