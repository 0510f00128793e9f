use Rattle.isosearch.proofs.Replacing.{replaced, replaced_part}
use Rattle.isosearch.proofs.writing.replace.Goals as goal

pub returns-clause-whole : goal.returns-clause-whole
returns-clause-whole g c = replaced _ _ _ (g.F.Files.files c.args.files.now) (g.F.Files.files c.create.new.self) (g.F.Files.files c.append.new.self) c.in_ok-create.ensures.created c.append.ensures.appended

pub returns-clause-part : goal.returns-clause-part
returns-clause-part g c = replaced_part _ _ _ (g.F.Files.files c.args.files.now) (g.F.Files.files c.create.new.self) (g.F.Files.files c.append.new.self) c.in_ok-create.ensures.created c.append.ensures.appended
