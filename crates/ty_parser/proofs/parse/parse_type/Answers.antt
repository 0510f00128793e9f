use Rattle.ty_parser.specs.Phrases.{Phrase}
use Rattle.ty_parser.specs.declared.tree.TypeAt.{TypeAt}
use Rattle.ty_parser.proofs.Outcomes.{gives_tokens, only_refusal, only_type, shallow_sorts}
use Rattle.ty_parser.proofs.parse.parse_type.Goals as goal

pub returns-clause-only_tree : goal.returns-clause-only_tree
returns-clause-only_tree c = λ e d shallow. only_type _ _ c.parse_whole.ensures.first (gives_tokens Phrase (λ (t : TypeAt). t.ty) _ _ _ c.parse_whole.ensures.tree c.parse_whole.ensures.shallow c.parse_whole.ensures.refusal) e d (shallow_sorts Phrase _ _ shallow)

pub returns-clause-only_refusal : goal.returns-clause-only_refusal
returns-clause-only_refusal c = only_refusal Phrase (λ (t : TypeAt). t.ty) _ _ (gives_tokens Phrase (λ (t : TypeAt). t.ty) _ _ _ c.parse_whole.ensures.tree c.parse_whole.ensures.shallow c.parse_whole.ensures.refusal)
