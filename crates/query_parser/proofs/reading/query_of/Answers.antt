use Rattle.std.proofs.Common.{Ok, Err, ap, ◌∙◌}
use Rattle.elab_types.specs.Stages.{placed}
use Rattle.elab_types.proofs.Readings.{no_phrase, phrase_read}
use Rattle.query_parser.specs.Queries.{queries}
use Rattle.query_parser.specs.Views.{flaw_of}
use Rattle.query_parser.proofs.Refused.{refused_within, told}
use Rattle.query_parser.proofs.reading.query_of.Goals as goal

pub returns-in-Ok-scheme_of-clause-outcome : goal.returns-in-Ok-scheme_of-clause-outcome
returns-in-Ok-scheme_of-clause-outcome c =
    phrase_read (queries c.args.lib.now) _ flaw_of c.args.tokens.now c.in-Ok.parsed.ty (Ok _) c.requires.tokens c.in-Ok.ensures.tree c.in-Ok.ensures.shallow (ap (placed _ _) c.in-Ok-scheme_of.ensures.outcome)

pub returns-in-Ok-clause-outcome : goal.returns-in-Ok-clause-outcome
returns-in-Ok-clause-outcome c =
    phrase_read (queries c.args.lib.now) _ flaw_of c.args.tokens.now c.in-Ok.parsed.ty (Err _) c.requires.tokens c.in-Ok.ensures.tree c.in-Ok.ensures.shallow (c.placed.ensures.value _ c.in-Err-scheme_of.ensures.outcome)

pub returns-clause-outcome : goal.returns-clause-outcome
returns-clause-outcome c =
    no_phrase (queries c.args.lib.now) _ c.args.tokens.now c.in-Err.refusal _ _ c.requires.tokens c.in-Err.ensures.refusal c.no_phrase.ensures.value (ap flaw_of c.from.ensures ∙ told _)

pub returns-clause-within : goal.returns-clause-within
returns-clause-within c = rw c.from.ensures (refused_within _ _ c.requires.size c.no_phrase.ensures.within)
