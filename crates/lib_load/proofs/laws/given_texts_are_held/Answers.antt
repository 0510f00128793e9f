use Rattle.lib_load.proofs.Held.{these_held}
use Rattle.lib_load.proofs.laws.given_texts_are_held.Goals as goal

pub returns : goal.returns
returns g c = record { law = λ limit files paths first last givens is gave. these_held limit g.F.Files.files g.F.Files.gives g.met.F.Files.tells files g.F.Files.read_faults paths first last givens is gave }
