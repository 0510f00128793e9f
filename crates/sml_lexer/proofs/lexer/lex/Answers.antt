use Rattle.std.proofs.Common.{◌≡◌, ◌<◌, ◌≤◌, length, refl, inl, arith}
use Rattle.std.proofs.lemmas.Bool.{iff_false}
use Rattle.sml_lexer.specs.declared.token.LexRefusal.TheVariants.{BadByte, OpenComment, LongName}
use Rattle.sml_lexer.specs.Tokens.{IsTokenAt}
use Rattle.sml_lexer.proofs.Laws.{one_list, no_refusal, one_refusal}
use Rattle.sml_lexer.proofs.Nesting.{comment_order, comment_within}
use Rattle.sml_lexer.proofs.Reading.{reads_nothing, reads_separator, reads_comment, reads_push, reads_all, bad_byte_refused, open_comment_refused, long_name_refused}
use Rattle.sml_lexer.proofs.lexer.lex.Goals as goal

pub bytes-init : goal.bytes-init
bytes-init c = reads_nothing c.args.bytes.now c.new-out.result c.new-out.ensures.empty

pub bytes-preserved-then-is_separator : goal.bytes-preserved-then-is_separator
bytes-preserved-then-is_separator c = reads_separator c.args.bytes.now 0 c.bytes.out c.bytes.at c.bytes.invariant c.bytes-test.true (c.if-is_separator.ensures.0 refl)

pub bytes-smaller-in-Some : goal.bytes-smaller-in-Some
bytes-smaller-in-Some c =
    let order : c.bytes.at < c.in-Some.end = comment_order c.args.bytes.now c.in-Some.ensures in
    let within : c.in-Some.end ≤ length c.args.bytes.now = comment_within c.args.bytes.now c.in-Some.ensures in
    omega arith

pub bytes-preserved-in-Some : goal.bytes-preserved-in-Some
bytes-preserved-in-Some c = reads_comment c.args.bytes.now 0 c.bytes.out c.bytes.at c.in-Some.end c.bytes.invariant c.in-Some.ensures

pub bytes-preserved : goal.bytes-preserved
bytes-preserved c =
    let token : IsTokenAt c.args.bytes.now c.in-Some-longest_at.kind c.bytes.at c.in-Some-longest_at.end = (c.in-Some-longest_at.ensures, iff_false c.is_opening.ensures c.if-is_opening.false) in
    let short = c.has_short_parts.ensures.exact.0 c.if-not-has_short_parts.false in
    rw c.in_ok-push-in-Some-longest_at.ensures.pushed (reads_push c.args.bytes.now 0 c.bytes.out _ c.bytes.invariant token short)

pub returns-in-None-clause-only_tokens : goal.returns-in-None-clause-only_tokens
returns-in-None-clause-only_tokens c ts r = absurd (no_refusal c.args.bytes.now ts (OpenComment c.bytes.at) r (open_comment_refused c.args.bytes.now c.bytes.out c.bytes.at c.bytes.invariant (c.is_opening.ensures.0 c.if-is_opening.true) c.in-None.ensures))

pub returns-in-None-clause-only_refusal : goal.returns-in-None-clause-only_refusal
returns-in-None-clause-only_refusal c refusal h =
    let same : OpenComment c.bytes.at ≡ refusal = one_refusal c.args.bytes.now (OpenComment c.bytes.at) refusal (open_comment_refused c.args.bytes.now c.bytes.out c.bytes.at c.bytes.invariant (c.is_opening.ensures.0 c.if-is_opening.true) c.in-None.ensures) h in
    rw same (inl refl)

pub returns-in-None-longest_at-clause-only_tokens : goal.returns-in-None-longest_at-clause-only_tokens
returns-in-None-longest_at-clause-only_tokens c ts r = absurd (no_refusal c.args.bytes.now ts (BadByte c.bytes.at) r (bad_byte_refused c.args.bytes.now c.bytes.out c.bytes.at c.bytes.invariant c.bytes-test.true (iff_false c.is_separator.ensures c.if-is_separator.false) (iff_false c.is_opening.ensures c.if-is_opening.false) c.in-None-longest_at.ensures))

pub returns-in-None-longest_at-clause-only_refusal : goal.returns-in-None-longest_at-clause-only_refusal
returns-in-None-longest_at-clause-only_refusal c refusal h =
    let same : BadByte c.bytes.at ≡ refusal = one_refusal c.args.bytes.now (BadByte c.bytes.at) refusal (bad_byte_refused c.args.bytes.now c.bytes.out c.bytes.at c.bytes.invariant c.bytes-test.true (iff_false c.is_separator.ensures c.if-is_separator.false) (iff_false c.is_opening.ensures c.if-is_opening.false) c.in-None-longest_at.ensures) h in
    rw same (inl refl)

pub returns-then-not-has_short_parts-clause-only_tokens : goal.returns-then-not-has_short_parts-clause-only_tokens
returns-then-not-has_short_parts-clause-only_tokens c ts r = absurd (no_refusal c.args.bytes.now ts (LongName c.bytes.at) r (long_name_refused c.args.bytes.now c.bytes.out c.bytes.at c.in-Some-longest_at.kind c.in-Some-longest_at.end c.bytes.invariant c.in-Some-longest_at.ensures (iff_false c.is_opening.ensures c.if-is_opening.false) (iff_false c.has_short_parts.ensures.exact c.if-not-has_short_parts.true)))

pub returns-then-not-has_short_parts-clause-only_refusal : goal.returns-then-not-has_short_parts-clause-only_refusal
returns-then-not-has_short_parts-clause-only_refusal c refusal h =
    let same : LongName c.bytes.at ≡ refusal = one_refusal c.args.bytes.now (LongName c.bytes.at) refusal (long_name_refused c.args.bytes.now c.bytes.out c.bytes.at c.in-Some-longest_at.kind c.in-Some-longest_at.end c.bytes.invariant c.in-Some-longest_at.ensures (iff_false c.is_opening.ensures c.if-is_opening.false) (iff_false c.has_short_parts.ensures.exact c.if-not-has_short_parts.true)) h in
    rw same (inl refl)

pub returns-clause-tokens : goal.returns-clause-tokens
returns-clause-tokens c = reads_all c.args.bytes.now 0 c.bytes.out c.bytes.at c.bytes.invariant c.bytes-test.false

pub returns-clause-only_tokens : goal.returns-clause-only_tokens
returns-clause-only_tokens c ts r =
    let same : c.bytes.out ≡ ts = one_list c.args.bytes.now c.bytes.out ts (reads_all c.args.bytes.now 0 c.bytes.out c.bytes.at c.bytes.invariant c.bytes-test.false) r in
    rw same (inl refl)

pub returns-clause-only_refusal : goal.returns-clause-only_refusal
returns-clause-only_refusal c refusal h = absurd (no_refusal c.args.bytes.now c.bytes.out refusal (reads_all c.args.bytes.now 0 c.bytes.out c.bytes.at c.bytes.invariant c.bytes-test.false) h)
