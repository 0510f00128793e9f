use Rattle.elab_types.proofs.Spans.{start_within}
use Rattle.elab_types.proofs.stages.start_of.Goals as goal

pub returns-in-Some-clause-within : goal.returns-in-Some-clause-within
returns-in-Some-clause-within c = rw c.in-Some.ensures.lookup.1 (start_within _ _ _ _ (c.spans_inside.ensures.law _ _ c.requires.tokens) c.in-Some.ensures.lookup.3.0)
