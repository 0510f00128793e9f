use Rattle.std.proofs.Common.{sym, ◌∙◌}
use Rattle.std.proofs.lemmas.Bool.{false≢true}
use Rattle.ty_parser.proofs.Pieces.{enclosed_one, enclosed_more}
use Rattle.ty_parser.proofs.reader.Reader.enclosed.Goals as goal

pub returns-then-has_none : goal.returns-then-has_none
returns-then-has_none c = enclosed_one c.args.self.now.around c.args.self.now.level c.args.count c.args.self.now.types c.args.self.now.fields c.args.last (c.has_none.ensures.value.0 c.if-has_none.true)

pub returns : goal.returns
returns c = enclosed_more c.args.self.now.around c.args.self.now.level c.args.count c.args.self.now.types c.args.self.now.fields c.args.last _ _ _ _ (λ none. false≢true (sym c.if-has_none.false ∙ c.has_none.ensures.value.1 none)) c.in_ok-all.ensures.last c.in_ok-all.ensures.before c.in_ok-self.ensures.taken c.in_ok-self.ensures.rest
