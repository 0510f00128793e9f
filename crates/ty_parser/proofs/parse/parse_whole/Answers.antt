use Rattle.std.proofs.Common.{arith}
use Rattle.std.proofs.lemmas.List.{length-map}
use Rattle.std.proofs.lemmas.Result.{err_from_is_err_and}
use Rattle.ty_parser.specs.Phrases.{Phrase}
use Rattle.ty_parser.specs.Sorts.{sort_of}
use Rattle.ty_parser.proofs.Outcomes.{gives_refusal, gives_stop, gives_type, shallow_tokens}
use Rattle.ty_parser.proofs.parse.parse_whole.Goals as goal

pub returns-in_err-ty-clause-refusal : goal.returns-in_err-ty-clause-refusal
returns-in_err-ty-clause-refusal c = (let from = err_from_is_err_and c.from_residual.result c.from_residual.ensures.1 in gives_refusal _ _ _ from.0 c.in_err-ty.ensures.refusal from.1 from.2).refusal

pub returns-then-next-tokens-clause-refusal : goal.returns-then-next-tokens-clause-refusal
returns-then-next-tokens-clause-refusal c = (gives_stop _ _ c.in_ok-ty.ensures.tree (omega (arith, c.if-next-tokens.true, length-map c.args.tokens.now (sort_of c.args.bytes.now)))).refusal

pub returns-clause-tree : goal.returns-clause-tree
returns-clause-tree c = (gives_type _ _ c.in_ok-ty.ensures.tree (omega (arith, c.if-next-tokens.false, length-map c.args.tokens.now (sort_of c.args.bytes.now)))).tree

pub returns-clause-shallow : goal.returns-clause-shallow
returns-clause-shallow c = shallow_tokens Phrase _ _ (gives_type _ _ c.in_ok-ty.ensures.tree (omega (arith, c.if-next-tokens.false, length-map c.args.tokens.now (sort_of c.args.bytes.now)))).shallow
