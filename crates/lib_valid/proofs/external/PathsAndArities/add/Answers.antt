use Rattle.std.proofs.Common.{Contains, IsTrue, subst, ◌↔◌}
use Rattle.lib_valid.proofs.Sets.{absent, pair_held}
use Rattle.lib_valid.proofs.external.PathsAndArities.add.Goals as goal

pub returns-clause-new : goal.returns-clause-new
returns-clause-new c =
    subst (λ pairs. IsTrue c.in_ok-new.new ↔ ¬ (Contains pairs (c.args.path.now, c.args.arity))) c.self.view_is
    (absent _ c.in_ok-new.new _ c.in_ok-new.ensures.added
    (pair_held (c.args.path, c.args.arity) c.self.inside.pairs.keys))
