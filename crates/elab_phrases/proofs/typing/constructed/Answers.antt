use Rattle.std.proofs.Common.{sym, ◌∙◌}
use Rattle.std.proofs.lemmas.Bool.{eq-eqb}
use Rattle.elab_rules.specs.Views.{place_by_now, state_of}
use Rattle.elab_rules.proofs.Outcomes.{gives_same}
use Rattle.elab_phrases.proofs.TypesInTurn.{application_settled, constructed_is, limited_settled}
use Rattle.elab_phrases.proofs.typing.constructed.Goals as goal

pub returns-clause-outcome : goal.returns-clause-outcome
returns-clause-outcome c =
    let after = state_of c.function_at.new.progress in
    gives_same _ _ _ _
    (constructed_is (place_by_now c.args.progress.now c.args.place.now) c.args.token c.len.result c.args.arguments.now (state_of c.args.progress.now) after c.in_ok-fun.fun c.in_ok-t.t c.len.ensures.value c.in_ok-fun.ensures.outcome (eq-eqb _ _ (sym c.len-2.ensures.value ∙ c.if-len-fun.false)) c.in_ok-t.ensures.value)
    (c.limited.ensures.outcome after)

pub returns-clause-settled : goal.returns-clause-settled
returns-clause-settled c =
    limited_settled _ _ _ _ _ (application_settled _ _ c.in_ok-fun.fun c.args.arguments.now _ c.in_ok-fun.ensures.grew c.requires.arguments c.in_ok-fun.ensures.settled c.in_ok-t.ensures.value) (c.limited.ensures.outcome (state_of c.args.progress.now))
