use Rattle.sig_base.proofs.Given.{gave_all_held, gave_more_held}
use Rattle.sig_base.proofs.read.files_hold_what_they_give.Goals as goal

pub returns-clause-whole : goal.returns-clause-whole
returns-clause-whole g c path first last bytes = gave_all_held g.F.Files.files g.F.Files.gives path first g.met.F.Files.tells bytes last

pub returns-clause-more : goal.returns-clause-more
returns-clause-more g c path first last limit = gave_more_held g.F.Files.files g.F.Files.gives path first g.met.F.Files.tells limit last
