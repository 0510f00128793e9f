use Rattle.std.proofs.Common.{sym, ap, ◌∙◌}
use Rattle.elab_env.specs.Sized.{size_at}
use Rattle.elab_env.proofs.Counted.{no_size, size_here, size_later}
use Rattle.elab_env.proofs.sizes.size_of_variable.Goals as goal

pub returns-then-left-eq0-clause-value : goal.returns-then-left-eq0-clause-value
returns-then-left-eq0-clause-value c = ap size_at (sym (size_here c.walk.rest.now _ _ c.walk.left c.in-Then.is c.if-left-eq0.true) ∙ c.walk.invariant)

pub walk-preserved : goal.walk-preserved
walk-preserved c = size_later c.walk.rest.now _ _ c.walk.left c.in-Then.is c.if-left-eq0.false ∙ c.walk.invariant

pub returns-clause-value : goal.returns-clause-value
returns-clause-value c = ap size_at (sym (no_size c.walk.rest.now c.walk.left c.in_default.is) ∙ c.walk.invariant)
