use Rattle.elab_rules.specs.Views.{state_of}
use Rattle.elab_phrases.proofs.FunctionsByNow.{elsewhere_fails, elsewhere_made, elsewhere_settled, known_now, missing_now}
use Rattle.elab_rules.proofs.Outcomes.{handed_on}
use Rattle.elab_phrases.proofs.Stands.{sees_mentions, sees_over}
use Rattle.elab_phrases.proofs.look_ups.function_at.Goals as goal

pub resolved-requires : goal.resolved-requires
resolved-requires c = record { over = (c.in-Known.ensures.over c.args.progress.now.table.names (sees_over c.args.progress.now c.args.site.now c.args.own.entries.now c.is_sound.ensures.sound c.requires.sees)).entry }

pub returns-in_ok-resolved-in-Known-clause-outcome : goal.returns-in_ok-resolved-in-Known-clause-outcome
returns-in_ok-resolved-in-Known-clause-outcome c =
    known_now c.args.progress.now c.args.site.now c.args.own.entries.now c.is_sound.ensures.sound c.requires.sees c.args.token c.args.count c.text-path.result.now (state_of c.args.progress.now) c.text-path.ensures.value c.in-Known.found _
    c.in-Known.ensures.value c.in_ok-resolved-in-Known.ensures.value

pub returns-in-Missing-clause-outcome : goal.returns-in-Missing-clause-outcome
returns-in-Missing-clause-outcome c =
    missing_now c.args.progress.now c.args.site.now c.args.own.entries.now c.is_sound.ensures.sound c.requires.sees c.args.token c.args.count c.text-path.result.now (state_of c.args.progress.now) c.text-path.ensures.value c.in-Missing.ensures.value

pub returns-in_err-name-in-Elsewhere-clause-outcome : goal.returns-in_err-name-in-Elsewhere-clause-outcome
returns-in_err-name-in-Elsewhere-clause-outcome c =
    elsewhere_fails c.args.progress.now c.args.site.now c.args.own.entries.now c.is_sound.ensures.sound c.requires.sees c.args.token c.args.count _ c.text-path.result.now c.text-path.ensures.value c.in_ok-arity-in-Elsewhere.ensures.value
    c.in-Elsewhere.ensures.value _ _ _ (handed_on _ _ c.from_residual-in_err-name-in-Elsewhere.ensures.1) c.in_err-name-in-Elsewhere.ensures.outcome

pub returns-in_ok-name_function-in-Elsewhere-clause-outcome : goal.returns-in_ok-name_function-in-Elsewhere-clause-outcome
returns-in_ok-name_function-in-Elsewhere-clause-outcome c =
    elsewhere_made c.args.progress.now c.args.site.now c.args.own.entries.now c.is_sound.ensures.sound c.requires.sees c.args.token c.args.count _ c.text-path.result.now c.text-path.ensures.value c.in_ok-arity-in-Elsewhere.ensures.value
    c.in-Elsewhere.ensures.value _ _ _ c.in_ok-name-in-Elsewhere.ensures.outcome c.in_ok-name_function-in-Elsewhere.ensures.value

pub returns-in_ok-name_function-in-Elsewhere-clause-settled : goal.returns-in_ok-name_function-in-Elsewhere-clause-settled
returns-in_ok-name_function-in-Elsewhere-clause-settled c =
    elsewhere_settled _ _ _ _ _ _ _ c.is_sound.ensures.sound c.in_ok-name-in-Elsewhere.ensures.mentions c.in_ok-name-in-Elsewhere.ensures.outcome c.in_ok-name_function-in-Elsewhere.ensures.value

pub returns-in_ok-name_function-in-Elsewhere-clause-sees : goal.returns-in_ok-name_function-in-Elsewhere-clause-sees
returns-in_ok-name_function-in-Elsewhere-clause-sees c = sees_mentions _ _ _ _ c.in_ok-name-in-Elsewhere.ensures.mentions c.requires.sees
