use Rattle.std.proofs.lemmas.Bool.{false≢true}
use Rattle.std.proofs.Common.{sym, ◌∙◌}
use Rattle.ty_parser.proofs.Pieces.{closed_none, closed_some}
use Rattle.ty_parser.proofs.reader.Reader.closed.Goals as goal

pub returns-then-not-is_empty : goal.returns-then-not-is_empty
returns-then-not-is_empty c = closed_none _ _ _ _ (λ none. false≢true (sym c.if-not-is_empty.true ∙ c.is_empty.ensures.value.1 none))

pub returns : goal.returns
returns c = closed_some _ _ _ _ _ (c.is_empty.ensures.value.0 c.if-not-is_empty.false) c.in_ok-ty.ensures.ty
