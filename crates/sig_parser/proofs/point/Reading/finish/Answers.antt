use Rattle.std.proofs.Common.{sym, ◌∙◌}
use Rattle.std.proofs.lemmas.Bool.{false≢true}
use Rattle.sig_parser.proofs.Ends.{finish_open, finish_refused, finish_ended}
use Rattle.sig_parser.proofs.point.Reading.finish.Goals as goal

pub returns-then-not-is_empty : goal.returns-then-not-is_empty
returns-then-not-is_empty c = record { value = finish_open c.args.self.now.point c.args.self.now (λ none. false≢true (sym c.if-not-is_empty.true ∙ c.is_empty.ensures.value.1 none)) }

pub returns-then-not-can : goal.returns-then-not-can
returns-then-not-can c = record { value = finish_refused c.args.self.now.point c.args.self.now (c.is_empty.ensures.value.0 c.if-not-is_empty.false) _ _ c.in_ok-can.ensures c.if-not-can.true }

pub returns : goal.returns
returns c = record { value = finish_ended c.args.self.now.point c.args.self.now (c.is_empty.ensures.value.0 c.if-not-is_empty.false) _ _ c.in_ok-can.ensures c.if-not-can.false _ _ c.ended.ensures }
