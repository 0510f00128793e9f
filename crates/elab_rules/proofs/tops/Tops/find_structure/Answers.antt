use Rattle.std.proofs.Common.{sym, subst}
use Rattle.elab_rules.specs.Indexes.{IsSeen}
use Rattle.elab_rules.proofs.TopsFound.{top_seen}
use Rattle.elab_rules.proofs.tops.Tops.find_structure.Goals as goal

pub invariant_of-result : goal.invariant_of-result
invariant_of-result c =
    let top = c.in_ok-top.top in
    record { seen = subst (IsSeen top.detail.now.index) (sym c.as_slice.ensures.value) (top_seen c.args.self.now top c.in_ok-top.ensures.top) }
