use Rattle.std.proofs.Common.{◌≤◌, [], IfSome, IsTrue, sym, ap, ap₂, ◌∙◌, subst}
use Rattle.std.proofs.lemmas.List.Elements.{All-nil}
use Rattle.type_core.specs.Types.{IsOver}
use Rattle.elab_env.specs.declared.realization.Realization.{Realization}
use Rattle.elab_env.specs.Table.{is_free}
use Rattle.sig_base.specs.LongIdentifiers.{parts}
use Rattle.elab_rules.specs.LongIdentifiers.{type_along}
use Rattle.elab_rules.specs.Parameters.{parameters_checked}
use Rattle.elab_rules.specs.Standing.{AreOver}
use Rattle.elab_rules.specs.Views.{found_of, found_seen, number_of}
use Rattle.elab_types.specs.Views.{texts}
use Rattle.elab_realizing.proofs.PartsApplied.{not_flexible, parameters_fail, realizes, right_side_fails, unbound}
use Rattle.elab_realizing.proofs.RealizedNow.{all_grew, all_stand}
use Rattle.elab_phrases.proofs.Staying.{over_later}
use Rattle.elab_phrases.proofs.Turns.{body_same}
use Rattle.elab_realizing.proofs.wheres.apply_part.Goals as goal

pub right_side-requires : goal.right_side-requires
right_side-requires c =
    let s = c.requires.stands.sees in
    record { sees = record { around = s.around; units = s.units; kept_before = s.kept_before; kept_added = s.kept_added; body = All-nil (IsOver c.args.progress.now.table.names) } }

pub returns-in_err-check_parameters-clause-outcome : goal.returns-in_err-check_parameters-clause-outcome
returns-in_err-check_parameters-clause-outcome c =
    parameters_fail c.args.part.now c.args.base c.args.progress.now c.args.site.now c.args.env.entries.items _ _ _ _ c.as_slice.ensures.value c.from_residual.ensures.1 c.in_err-check_parameters.ensures.outcome

pub returns-in_default-clause-outcome : goal.returns-in_default-clause-outcome
returns-in_default-clause-outcome c =
    let source = c.args.site.now.source in
    unbound c.args.part.now c.args.base c.args.progress.now c.args.site.now c.args.env.entries.items
    (ap (parameters_checked (texts source) []) (sym c.as_slice.ensures.value) ∙ c.in_ok-check_parameters.ensures.outcome)
    (ap found_seen (sym c.in_default.is) ∙ c.type_along.ensures.value ∙ ap₂ (λ t es. type_along (parts t) es) c.text.ensures.value c.scope.ensures.value)

pub returns-in_err-fun-clause-outcome : goal.returns-in_err-fun-clause-outcome
returns-in_err-fun-clause-outcome c =
    let source = c.args.site.now.source in
    right_side_fails c.args.part.now c.args.base c.args.progress.now c.args.site.now c.args.env.entries.items
    (ap (parameters_checked (texts source) []) (sym c.as_slice.ensures.value) ∙ c.in_ok-check_parameters.ensures.outcome)
    (found_of c.in-Some.found) (c.in-Some.ensures.value ∙ ap₂ (λ t es. type_along (parts t) es) c.text.ensures.value c.scope.ensures.value)
    _ _ _ _ c.from_residual-in_err-fun.ensures.1 c.in_err-fun.ensures.outcome

pub flexible-requires : goal.flexible-requires
flexible-requires c =
    let names = c.right_side.new.progress.table.names in
    let over : AreOver names c.args.env.entries.items = over_later c.args.progress.now.table.names names c.in_ok-fun.ensures.mentions.names c.args.env.entries.items c.requires.stands.sees.body in
    record { over = (c.in-Some.ensures.over names (subst (AreOver names) (sym c.scope.ensures.value) over)).entry }

pub returns-in-None-clause-outcome : goal.returns-in-None-clause-outcome
returns-in-None-clause-outcome c =
    let source = c.args.site.now.source in
    not_flexible c.args.part.now c.args.base c.args.progress.now c.args.site.now c.args.env.entries.items
    (ap (parameters_checked (texts source) []) (sym c.as_slice.ensures.value) ∙ c.in_ok-check_parameters.ensures.outcome)
    (found_of c.in-Some.found) (c.in-Some.ensures.value ∙ ap₂ (λ t es. type_along (parts t) es) c.text.ensures.value c.scope.ensures.value)
    c.in_ok-fun.fun c.right_side.new.progress c.in_ok-fun.ensures.outcome c.in_ok-fun.ensures.mentions
    (sym (ap number_of c.in-None.is) ∙ c.in_ok-flexible.ensures.value)

pub realize-requires-clause-over : goal.realize-requires-clause-over
realize-requires-clause-over c = over_later c.args.progress.now.table.names c.right_side.new.progress.table.names c.in_ok-fun.ensures.mentions.names c.args.env.entries.items c.requires.stands.sees.body

pub realize-requires-clause-free : goal.realize-requires-clause-free
realize-requires-clause-free c =
    let free = subst (λ found. IfSome found (λ n. (IsTrue (is_free c.right_side.new.progress.table n.0)) × (c.args.base ≤ n.0))) c.in-Some-2.is c.in_ok-flexible.ensures.free in
    free.0

pub returns-in-Some-2-clause-outcome : goal.returns-in-Some-2-clause-outcome
returns-in-Some-2-clause-outcome c =
    let source = c.args.site.now.source in
    body_same _ _ c.realize.result c.realize.new.progress
    (realizes c.args.part.now c.args.base c.args.progress.now c.args.site.now c.args.env.entries.items
    (ap (parameters_checked (texts source) []) (sym c.as_slice.ensures.value) ∙ c.in_ok-check_parameters.ensures.outcome)
    (found_of c.in-Some.found) (c.in-Some.ensures.value ∙ ap₂ (λ t es. type_along (parts t) es) c.text.ensures.value c.scope.ensures.value)
    c.in_ok-fun.fun c.right_side.new.progress c.in_ok-fun.ensures.outcome c.in_ok-fun.ensures.mentions
    c.in-Some-2.name.0 (sym (ap number_of c.in-Some-2.is) ∙ c.in_ok-flexible.ensures.value))
    c.realize.ensures.outcome

pub returns-in-Some-2-clause-stands : goal.returns-in-Some-2-clause-stands
returns-in-Some-2-clause-stands c =
    let p = c.args.progress.now in
    let q = c.right_side.new.progress in
    let t = c.realize.new.progress in
    let r : Realization = record { name = c.in-Some-2.name; fun = c.in_ok-fun.fun } in
    let free = subst (λ found. IfSome found (λ n. (IsTrue (is_free q.table n.0)) × (c.args.base ≤ n.0))) c.in-Some-2.is c.in_ok-flexible.ensures.free in
    all_stand c.args.base r p q t c.args.site.now c.args.env.entries.items c.in_ok-fun.ensures.mentions free.1 c.realize.result c.requires.stands c.realize.ensures.over
    (all_grew c.args.base r p q t c.args.site.now c.args.env.entries.items c.in_ok-fun.ensures.mentions free.1 c.realize.result c.realize.ensures.names c.realize.ensures.realizations c.realize.ensures.firsts c.realize.ensures.external)

pub returns-in-Some-2-clause-grew : goal.returns-in-Some-2-clause-grew
returns-in-Some-2-clause-grew c =
    let p = c.args.progress.now in
    let q = c.right_side.new.progress in
    let t = c.realize.new.progress in
    let r : Realization = record { name = c.in-Some-2.name; fun = c.in_ok-fun.fun } in
    let free = subst (λ found. IfSome found (λ n. (IsTrue (is_free q.table n.0)) × (c.args.base ≤ n.0))) c.in-Some-2.is c.in_ok-flexible.ensures.free in
    all_grew c.args.base r p q t c.args.site.now c.args.env.entries.items c.in_ok-fun.ensures.mentions free.1 c.realize.result c.realize.ensures.names c.realize.ensures.realizations c.realize.ensures.firsts c.realize.ensures.external
