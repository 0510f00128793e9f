use Rattle.sig_parser.proofs.Reading.{only_tree, only_refusal}
use Rattle.sig_parser.proofs.parse.parse_file.Goals as goal

pub returns-clause-only_tree : goal.returns-clause-only_tree
returns-clause-only_tree c = only_tree _ _ _ c.read_file.ensures.tree c.read_file.ensures.shallow c.read_file.ensures.refusal

pub returns-clause-only_refusal : goal.returns-clause-only_refusal
returns-clause-only_refusal c = only_refusal _ _ _ c.read_file.ensures.tree c.read_file.ensures.shallow c.read_file.ensures.refusal
