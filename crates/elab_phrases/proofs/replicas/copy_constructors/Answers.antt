use Rattle.std.proofs.Common.{Some, refl, sym, ap, ◌∙◌}
use Rattle.elab_rules.specs.declared.entry.ValueEntry.{ValueEntry}
use Rattle.elab_rules.specs.Standing.{IsSettledScheme}
use Rattle.elab_phrases.proofs.Sites.{site_mentions}
use Rattle.std.proofs.lemmas.Option.{slice_get-get_or}
use Rattle.elab_phrases.proofs.Stands.{all_at, schemes_mentions}
use Rattle.elab_phrases.proofs.Staying.{mentions_itself, mentions_twice}
use Rattle.elab_phrases.proofs.Turns.{turn_ends, turn_moves_on}
use Rattle.elab_phrases.proofs.replicas.copy_constructors.Goals as goal

pub loop-value-init : goal.loop-value-init
loop-value-init c = record { turns = refl; stands = c.requires.stands; mentions = mentions_itself _; settled = c.requires.settled }

pub returns-in_err-body-clause-outcome : goal.returns-in_err-body-clause-outcome
returns-in_err-body-clause-outcome c = turn_ends _ _ _ _ _ _ _ _ _ _ _ _ c.loop-value-test.true c.value-item.is c.loop-value.invariant.turns c.from_residual.ensures.1 c.in_err-body.ensures.outcome

pub loop-value-preserved : goal.loop-value-preserved
loop-value-preserved c = record {
  turns = turn_moves_on _ _ _ _ _ _ _ _ _ _ _ _ (site_mentions _ _ c.args.site.now c.in_ok-body.ensures.mentions) c.loop-value-test.true c.value-item.is c.loop-value.invariant.turns c.in_ok-body.ensures.outcome;
  stands = c.in_ok-body.ensures.stands;
  mentions = mentions_twice _ _ _ c.loop-value.invariant.mentions c.in_ok-body.ensures.mentions;
  settled = schemes_mentions _ _ _ c.in_ok-body.ensures.mentions c.loop-value.invariant.settled;
}

pub copy_constructor-requires-clause-settled : goal.copy_constructor-requires-clause-settled
copy_constructor-requires-clause-settled c =
    all_at (λ (value : ValueEntry). IsSettledScheme c.loop-value.progress.table value.scheme) c.args.values.now c.loop-value.value-index c.value-item.result c.loop-value.invariant.settled
    (slice_get-get_or c.args.values.now c.loop-value.value-index c.value-item.result c.loop-value-test.true ∙ ap Some (sym c.value-item.is))
