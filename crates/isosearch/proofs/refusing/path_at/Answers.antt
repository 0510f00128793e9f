use Rattle.isosearch.proofs.Paths.{path_past}
use Rattle.isosearch.proofs.refusing.path_at.Goals as goal

pub returns-in-None : goal.returns-in-None
returns-in-None c = path_past c.args.paths.now c.args.place c.in-None.ensures.lookup.3
