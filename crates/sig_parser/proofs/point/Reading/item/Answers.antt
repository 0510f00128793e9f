use Rattle.std.proofs.Common.{sym, ◌∙◌}
use Rattle.std.proofs.lemmas.Bool.{false≢true}
use Rattle.sig_parser.proofs.Bodies.{inner_is}
use Rattle.sig_parser.proofs.point.Reading.item.Goals as goal

pub returns-else-is_empty : goal.returns-else-is_empty
returns-else-is_empty c = record { value = inner_is c.args.self.now.levels c.args.self.now.specs c.args.self.now.bindings c.args.self.now.decs c.args.sort _ _ (λ none. false≢true (sym c.if-is_empty.false ∙ c.is_empty.ensures.value.1 none)) c.inner_item.ensures }
