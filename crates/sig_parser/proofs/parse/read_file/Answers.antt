use Rattle.std.proofs.Common.{arith}
use Rattle.std.proofs.Math.Nat.{le_of_lt}
use Rattle.std.proofs.lemmas.Result.{err_from_is_err_and}
use Rattle.sml_lexer.proofs.Laws.{tokens_count}
use Rattle.ty_parser.proofs.Tokens.{span_inside}
use Rattle.sig_parser.proofs.Reading.{start_file, read_low, file_refused, file_next, end_tree, end_shallow, end_refused}
use Rattle.sig_parser.proofs.parse.read_file.Goals as goal

pub tokens-init : goal.tokens-init
tokens-init c = record { within = omega arith; read = start_file _ _ _ c.new-reading.ensures.value }

pub sort_of-sort-requires-clause-order : goal.sort_of-sort-requires-clause-order
sort_of-sort-requires-clause-order c = le_of_lt (span_inside _ _ _ _ c.requires.tokens c.tokens-test.true).0

pub sort_of-sort-requires-clause-within : goal.sort_of-sort-requires-clause-within
sort_of-sort-requires-clause-within c = (span_inside _ _ _ _ c.requires.tokens c.tokens-test.true).1

pub step-requires : goal.step-requires
step-requires c = record { low = read_low _ _ _ _ c.tokens.invariant.read }

pub returns-in_err-step-clause-refusal : goal.returns-in_err-step-clause-refusal
returns-in_err-step-clause-refusal c = let from = err_from_is_err_and c.from_residual.result c.from_residual.ensures.1 in file_refused _ _ _ _ _ _ c.tokens.invariant.read c.tokens-test.true c.sort_of-sort.ensures.value _ _ from.0 c.in_err-step.ensures.refusal from.1 from.2

pub overflow_add-place : goal.overflow_add-place
overflow_add-place c = let few = tokens_count _ _ c.requires.tokens in omega (arith, few, c.requires.size, c.tokens-test.true)

pub tokens-preserved : goal.tokens-preserved
tokens-preserved c = record { within = omega (arith, c.tokens-test.true); read = file_next _ _ _ _ _ _ c.tokens.invariant.read c.tokens-test.true c.sort_of-sort.ensures.value _ c.in_ok-step.ensures.next c.in_ok-step.ensures.low }

pub returns-clause-tree : goal.returns-clause-tree
returns-clause-tree c = end_tree _ _ _ _ c.tokens.invariant.read (omega (arith, c.tokens.invariant.within, c.tokens-test.false)) _ c.ended.ensures.tree

pub returns-clause-shallow : goal.returns-clause-shallow
returns-clause-shallow c = end_shallow _ _ _ _ c.tokens.invariant.read (omega (arith, c.tokens.invariant.within, c.tokens-test.false)) _ c.ended.ensures.tree

pub returns-clause-refusal : goal.returns-clause-refusal
returns-clause-refusal c = end_refused _ _ _ _ c.tokens.invariant.read (omega (arith, c.tokens.invariant.within, c.tokens-test.false)) _ c.ended.ensures.refusal
