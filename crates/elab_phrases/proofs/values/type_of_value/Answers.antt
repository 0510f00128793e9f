use Rattle.std.proofs.Common.{subst, sym}
use Rattle.elab_rules.specs.Standing.{Sees}
use Rattle.elab_rules.specs.Types.{Any}
use Rattle.elab_phrases.proofs.Phrases.{typed_seen}
use Rattle.elab_phrases.proofs.values.type_of_value.Goals as goal

pub type_of-requires : goal.type_of-requires
type_of-requires c = record { sees = subst (Sees c.args.progress.now c.args.site.now) (sym c.scope-seen.ensures.value) c.requires.sees }

pub returns-clause-outcome : goal.returns-clause-outcome
returns-clause-outcome c = typed_seen c.args.progress.now c.args.site.now _ _ _ Any _ _ _ _ c.scope-seen.ensures.value c.type_of.ensures.outcome
