use Rattle.ty_parser.proofs.Pieces.{inside_is}
use Rattle.ty_parser.proofs.reader.Reader.inside.Goals as goal

pub returns : goal.returns
returns c = inside_is _ c.args.self.now.around c.args.self.now.level c.args.self.now.types c.args.self.now.fields _ c.open.ensures
