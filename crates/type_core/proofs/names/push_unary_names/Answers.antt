use Rattle.std.proofs.Common.{take}
use Rattle.std.proofs.lemmas.Result.{on_ok_weaker}
use Rattle.type_core.specs.InitialNames.{unary_names}
use Rattle.type_core.proofs.Pushing.{push_after}
use Rattle.type_core.proofs.names.push_unary_names.Goals as goal

pub returns : goal.returns
returns c = let all = c.args.names.now in record { pushed = on_ok_weaker c.push_initial-5.result (push_after all (take 4 unary_names) _ (push_after all (take 3 unary_names) _ (push_after all (take 2 unary_names) _ (push_after all (take 1 unary_names) _ c.in_ok-push_initial.ensures.pushed c.in_ok-push_initial-2.ensures.pushed) c.in_ok-push_initial-3.ensures.pushed) c.in_ok-push_initial-4.ensures.pushed)) c.push_initial-5.ensures.pushed }
