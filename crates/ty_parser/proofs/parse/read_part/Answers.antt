use Rattle.std.proofs.Common.{arith}
use Rattle.std.proofs.Math.Nat.{le_of_lt}
use Rattle.sml_lexer.proofs.Laws.{tokens_count}
use Rattle.ty_parser.proofs.Tokens.{span_inside}
use Rattle.ty_parser.proofs.Parts.{taken_some, start_part, part_low, part_read, part_deep, part_reaches, part_ends, part_found, part_refused}
use Rattle.ty_parser.proofs.parse.read_part.Goals as goal

pub tokens-init : goal.tokens-init
tokens-init c = record { within = c.requires.within; read = start_part _ _ _ _ c.requires.shallow c.new-reader.ensures.value }

pub sort_of-sort-requires-clause-order : goal.sort_of-sort-requires-clause-order
sort_of-sort-requires-clause-order c = le_of_lt (span_inside _ _ _ _ c.requires.tokens c.tokens-test.true).0

pub sort_of-sort-requires-clause-within : goal.sort_of-sort-requires-clause-within
sort_of-sort-requires-clause-within c = (span_inside _ _ _ _ c.requires.tokens c.tokens-test.true).1

pub returns-then-not-accepts-clause-tree : goal.returns-then-not-accepts-clause-tree
returns-then-not-accepts-clause-tree c = part_found _ _ _ _ _ c.tokens.invariant.read (part_reaches _ _ _ _ _ _ _ _ c.tokens.invariant.read c.tokens-test.true c.sort_of-sort.ensures.value _ (c.accepts.ensures.value _) c.if-not-accepts.true) _ c.ended.ensures.tree c.ended.ensures.places

pub returns-then-not-accepts-clause-refusal : goal.returns-then-not-accepts-clause-refusal
returns-then-not-accepts-clause-refusal c = part_refused _ _ _ _ _ c.tokens.invariant.read (part_reaches _ _ _ _ _ _ _ _ c.tokens.invariant.read c.tokens-test.true c.sort_of-sort.ensures.value _ (c.accepts.ensures.value _) c.if-not-accepts.true) _ c.ended.ensures.refusal

pub depth-requires : goal.depth-requires
depth-requires c = let low = part_low _ _ _ _ _ _ _ _ c.tokens.invariant.read c.tokens-test.true c.sort_of-sort.ensures.value _ (taken_some _ _ _ c.in_ok-can.ensures.value c.if-not-can.false) in record { small = omega (arith, low) }

pub overflow_add-depth : goal.overflow_add-depth
overflow_add-depth c = let low = part_low _ _ _ _ _ _ _ _ c.tokens.invariant.read c.tokens-test.true c.sort_of-sort.ensures.value _ (taken_some _ _ _ c.in_ok-can.ensures.value c.if-not-can.false) in omega (arith, low, c.depth.ensures.value)

pub returns-then-depth-gt-MOST_OPEN-clause-refusal : goal.returns-then-depth-gt-MOST_OPEN-clause-refusal
returns-then-depth-gt-MOST_OPEN-clause-refusal c = part_deep _ _ _ _ _ _ _ _ c.tokens.invariant.read c.tokens-test.true c.sort_of-sort.ensures.value _ (taken_some _ _ _ c.in_ok-can.ensures.value c.if-not-can.false) (omega (arith, c.if-depth-gt-MOST_OPEN.true, c.depth.ensures.value))

pub overflow_add-place : goal.overflow_add-place
overflow_add-place c = let few = tokens_count _ _ c.requires.tokens in omega (arith, few, c.requires.size, c.tokens-test.true)

pub tokens-preserved : goal.tokens-preserved
tokens-preserved c = record { within = omega (arith, c.tokens-test.true); read = part_read _ _ _ _ _ _ _ _ c.tokens.invariant.read c.tokens-test.true c.sort_of-sort.ensures.value _ (taken_some _ _ _ c.in_ok-can.ensures.value c.if-not-can.false) (omega (arith, c.if-depth-gt-MOST_OPEN.false, c.depth.ensures.value)) }

pub returns-clause-tree : goal.returns-clause-tree
returns-clause-tree c = part_found _ _ _ _ _ c.tokens.invariant.read (part_ends _ _ _ _ _ _ c.tokens.invariant.read c.requires.within (omega (arith, c.tokens.invariant.within, c.tokens-test.false))) _ c.ended-2.ensures.tree c.ended-2.ensures.places

pub returns-clause-refusal : goal.returns-clause-refusal
returns-clause-refusal c = part_refused _ _ _ _ _ c.tokens.invariant.read (part_ends _ _ _ _ _ _ c.tokens.invariant.read c.requires.within (omega (arith, c.tokens.invariant.within, c.tokens-test.false))) _ c.ended-2.ensures.refusal
