use Rattle.std.proofs.Common.{refl}
use Rattle.sig_parser.proofs.Bodies.{with_spec_is, with_spec_none}
use Rattle.sig_parser.proofs.point.Reading.with_spec.Goals as goal

pub returns-in-None-clause-levels : goal.returns-in-None-clause-levels
returns-in-None-clause-levels c = with_spec_none c.args.self.now.levels _ c.args.self.now.specs c.args.self.now.bindings c.args.spec c.in-None.ensures.none.0 c.in-None.ensures.none.1

pub returns-in_ok-push-in-Some-clause-levels : goal.returns-in_ok-push-in-Some-clause-levels
returns-in_ok-push-in-Some-clause-levels c = with_spec_is c.args.self.now.levels _ _ _ c.in-Some.ensures.popped refl c.args.self.now.specs c.args.self.now.bindings _ _ c.args.spec _ c.in_ok-specs-in-Some.ensures.last c.in_ok-specs-in-Some.ensures.before c.in_ok-push-in-Some.ensures.pushed
