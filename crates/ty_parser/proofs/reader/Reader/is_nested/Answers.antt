use Rattle.ty_parser.proofs.Pieces.{comma_is}
use Rattle.ty_parser.proofs.reader.Reader.is_nested.Goals as goal

pub returns : goal.returns
returns c = λ e. comma_is _ _ e _ _ c.is_empty.ensures.value
