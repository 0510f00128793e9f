use Rattle.std.proofs.Common.{◌≡◌, take, subst}
use Rattle.elab_rules.specs.Indexes.{IsSeen}
use Rattle.elab_rules.proofs.SeenEntries.{seen_front}
use Rattle.elab_rules.proofs.body.Body.scope_before.Goals as goal

pub invariant_of-result : goal.invariant_of-result
invariant_of-result c =
    let body = c.args.self.now in
    let count = c.min-count.result in
    record {
      seen = subst (λ xs. IsSeen body.index (take count xs)) (let e : body.entries.items ≡ c.deref.result.now = cc (c.deref.ensures.value) in e) (seen_front body.index body.entries.items count body.indexed);
    }
