use Rattle.std.proofs.Common.{take}
use Rattle.std.proofs.lemmas.Result.{on_ok_weaker}
use Rattle.elab_rules.specs.InitialEnvironment.{unary_constructors}
use Rattle.elab_rules.proofs.Pushed.{further}
use Rattle.elab_rules.proofs.initial.push_unary_constructors.Goals as goal

pub returns : goal.returns
returns c =
    let all = c.args.env.now in
    let after-1 = c.in_ok-push_empty.ensures.pushed in
    let after-2 = further all (take 1 unary_constructors) _ after-1 c.in_ok-push_cons.ensures.pushed in
    let after-3 = further all (take 2 unary_constructors) _ after-2 c.in_ok-push_holder.ensures.pushed in
    let after-4 = further all (take 3 unary_constructors) _ after-3 c.in_ok-push_empty-2.ensures.pushed in
    record { pushed = on_ok_weaker c.push_holder-2.result (further all (take 4 unary_constructors) _ after-4) c.push_holder-2.ensures.pushed }
