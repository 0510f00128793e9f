use Rattle.std.proofs.Common.{◌≡◌, subst}
use Rattle.elab_rules.specs.Indexes.{IsSeen}
use Rattle.elab_rules.proofs.SeenEntries.{seen_whole}
use Rattle.elab_rules.proofs.body.Body.scope.Goals as goal

pub invariant_of-result : goal.invariant_of-result
invariant_of-result c =
    let body = c.args.self.now in
    record { seen = subst (IsSeen body.index) (let e : body.entries.items ≡ c.as_slice.result.now = cc (c.as_slice.ensures.value) in e) (seen_whole body.index body.entries.items body.indexed) }
