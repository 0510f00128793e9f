use Rattle.ty_parser.proofs.Outcomes.{only_part, only_part_refusal}
use Rattle.ty_parser.proofs.parse.read_type.Goals as goal

pub returns-clause-only_tree : goal.returns-clause-only_tree
returns-clause-only_tree c = λ n e takes d. only_part _ _ _ n e takes d _ c.read_part.ensures.tree c.read_part.ensures.first c.read_part.ensures.refusal

pub returns-clause-only_refusal : goal.returns-clause-only_refusal
returns-clause-only_refusal c = only_part_refusal _ _ _ _ c.read_part.ensures.tree c.read_part.ensures.refusal
