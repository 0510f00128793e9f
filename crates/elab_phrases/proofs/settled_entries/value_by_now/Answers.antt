use Rattle.elab_phrases.proofs.EntriesChanged.{scheme_settled}
use Rattle.elab_phrases.proofs.settled_entries.value_by_now.Goals as goal

pub returns-clause-settled : goal.returns-clause-settled
returns-clause-settled c = scheme_settled c.args.table.now c.args.entry.now.scheme.body _ _ c.is_sound.ensures.sound c.requires.over c.in_ok-body.ensures.value c.in_ok-scheme_of.ensures.value
