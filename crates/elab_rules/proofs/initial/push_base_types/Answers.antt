use Rattle.std.proofs.Common.{take}
use Rattle.std.proofs.lemmas.Result.{on_ok_weaker}
use Rattle.elab_rules.specs.InitialEnvironment.{base_types}
use Rattle.elab_rules.proofs.Pushed.{further}
use Rattle.elab_rules.proofs.initial.push_base_types.Goals as goal

pub returns : goal.returns
returns c =
    let all = c.args.env.now in
    let after-1 = c.in_ok-push_base.ensures.pushed in
    let after-2 = further all (take 1 base_types) _ after-1 c.in_ok-push_base-2.ensures.pushed in
    let after-3 = further all (take 2 base_types) _ after-2 c.in_ok-push_base-3.ensures.pushed in
    let after-4 = further all (take 3 base_types) _ after-3 c.in_ok-push_base-4.ensures.pushed in
    let after-5 = further all (take 4 base_types) _ after-4 c.in_ok-push_base-5.ensures.pushed in
    let after-6 = further all (take 5 base_types) _ after-5 c.in_ok-push_base-6.ensures.pushed in
    let after-7 = further all (take 6 base_types) _ after-6 c.in_ok-push_base-7.ensures.pushed in
    let after-8 = further all (take 7 base_types) _ after-7 c.in_ok-push_bool.ensures.pushed in
    record { pushed = on_ok_weaker c.push_order.result (further all (take 8 base_types) _ after-8) c.push_order.ensures.pushed }
