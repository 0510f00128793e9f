use Rattle.sig_parser.proofs.Bodies.{none_ended}
use Rattle.sig_parser.proofs.point.Reading.end_body.Goals as goal

pub returns-in-None : goal.returns-in-None
returns-in-None c = none_ended c.args.self.now.levels c.args.self.now.specs c.args.self.now.bindings c.args.self.now.decs c.in-None.ensures.none.0
