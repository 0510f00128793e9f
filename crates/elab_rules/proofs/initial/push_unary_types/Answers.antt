use Rattle.std.proofs.Common.{take}
use Rattle.std.proofs.lemmas.Result.{on_ok_weaker}
use Rattle.elab_rules.specs.InitialEnvironment.{unary_types}
use Rattle.elab_rules.proofs.Pushed.{further}
use Rattle.elab_rules.proofs.initial.push_unary_types.Goals as goal

pub returns : goal.returns
returns c =
    let all = c.args.env.now in
    let after-1 = c.in_ok-push_list.ensures.pushed in
    let after-2 = further all (take 1 unary_types) _ after-1 c.in_ok-push_ref.ensures.pushed in
    let after-3 = further all (take 2 unary_types) _ after-2 c.in_ok-push_option.ensures.pushed in
    let after-4 = further all (take 3 unary_types) _ after-3 c.in_ok-push_unary.ensures.pushed in
    let after-5 = further all (take 4 unary_types) _ after-4 c.in_ok-push_unary-2.ensures.pushed in
    record { pushed = on_ok_weaker c.push_unit.result (further all (take 5 unary_types) _ after-5) c.push_unit.ensures.pushed }
