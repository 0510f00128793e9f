use Rattle.std.proofs.Common.{◌≡◌, drop}
use Rattle.query_parser.specs.Constructors.{tycon_of}
use Rattle.query_parser.proofs.constructors.tycon_of.Given as goal

abbrev pub invariant-loop-tycon : goal.invariant-loop-tycon
invariant-loop-tycon l = tycon_of l.path (drop l.tycon-index l.tycons) ≡ tycon_of l.path l.tycons
