use Rattle.std.proofs.Common.{◌≡◌, length, subst, sym, ◌∙◌}
use Rattle.std.proofs.lemmas.Result.{IfOk-weaker}
use Rattle.std.specs.List.{range_with_len}
use Rattle.type_core.specs.Renaming.{renamed}
use Rattle.type_core.specs.Schemes.{numbered_among, numbers}
use Rattle.type_core.proofs.Closed.{kept_in_order}
use Rattle.type_core.proofs.closing.numbered.Goals as goal

pub returns-then-are_in_order : goal.returns-then-are_in_order
returns-then-are_in_order c =
    let are = subst (λ vs. numbers vs ≡ range_with_len 0 (length vs)) c.as_slice.ensures.value (c.are_in_order.ensures.value c.if-are_in_order.true) in
    record { value = IfOk-weaker c.copy.result (λ r. r ≡ c.args.t.now) (λ r. r ≡ renamed (numbered_among c.args.met.now) c.args.t.now) (λ r e. e ∙ sym (kept_in_order c.args.t.now c.args.met.now c.requires.order are)) c.copy.ensures.value }
