use Rattle.std.proofs.Common.{◌+◌, ◌<◌, inl, inr, arith}
use Rattle.std.proofs.lemmas.Bool.{iff_false}
use Rattle.sml_lexer.specs.declared.token.TokenKind.TheVariants.{Long}
use Rattle.sml_lexer.proofs.LongPlaces.{long_stands, word_led, symbol_led}
use Rattle.sml_lexer.proofs.Parts.{onward_first, back_first, long_longest, no_tail, symbol_tail, word_tail, symbol_after, word_after}
use Rattle.sml_lexer.proofs.longest.long_at.Goals as goal

pub parts-init : goal.parts-init
parts-init c =
    let a = c.requires in
    record {
      order = omega arith;
      within = a.within;
      stands = a.identifier;
      onward = onward_first c.args.bytes.now c.args.at c.args.first a;
      back = λ to _ long. back_first c.args.bytes.now c.args.at c.args.first a to long;
    }

pub returns : goal.returns
returns c =
    let l = c.parts.invariant in
    long_longest c.args.bytes.now c.args.at c.args.first c.requires c.parts.kind c.parts.end l.order l.within l.stands
    (λ to past long. iff_false c.is_at.ensures c.parts-test.false (l.back to past long).0)

pub returns-in-None : goal.returns-in-None
returns-in-None c =
    let l = c.parts.invariant in
    long_longest c.args.bytes.now c.args.at c.args.first c.requires c.parts.kind c.parts.end l.order l.within l.stands
    (λ to past long. no_tail c.args.bytes.now c.parts.end to c.in-None.ensures (l.back to past long))

pub returns-in-Some-Symbolic : goal.returns-in-Some-Symbolic
returns-in-Some-Symbolic c =
    let l = c.parts.invariant in
    let bytes = c.args.bytes.now in
    let end = c.parts.end in
    let last = c.in-Some-Symbolic.last in
    let s = symbol_after bytes end last c.in-Some-Symbolic.field-0 c.in-Some-Symbolic.field-0-is c.in-Some-Symbolic.ensures in
    let dot = c.is_at.ensures.0 c.parts-test.true in
    let begins : end + 1 < last = (symbol_led bytes (end + 1) s).begins in
    rw c.in-Some-Symbolic.last-is
    (long_longest bytes c.args.at c.args.first c.requires Long last (omega (arith, l.order)) s.within (long_stands bytes c.args.at last s.within (l.onward last (dot, inl (inr s))))
    (λ to past long. let past' : end < to = omega arith in symbol_tail bytes end last to s past (l.back to past' long)))

pub parts-preserved : goal.parts-preserved
parts-preserved c =
    let l = c.parts.invariant in
    let bytes = c.args.bytes.now in
    let end = c.parts.end in
    let next = c.in-Some-Alphanumeric.next in
    let a = word_after bytes end next c.in-Some-Alphanumeric.field-0 c.in-Some-Alphanumeric.field-0-is c.in-Some-Alphanumeric.ensures in
    let dot = c.is_at.ensures.0 c.parts-test.true in
    let begins : end + 1 < next = (word_led bytes (end + 1) a).begins in
    rw c.in-Some-Alphanumeric.field-0-is
    (record {
      order = omega (arith, l.order);
      within = a.within;
      stands = long_stands bytes c.args.at next a.within (l.onward next (dot, inl (inl a)));
      onward = λ to tail. l.onward to (dot, inr (onward_first bytes (end + 1) next a to tail));
      back = λ to past long. let past' : end < to = omega arith in word_tail bytes end next to a past (l.back to past' long);
    })

pub parts-smaller : goal.parts-smaller
parts-smaller c =
    let a = word_after c.args.bytes.now c.parts.end c.in-Some-Alphanumeric.next c.in-Some-Alphanumeric.field-0 c.in-Some-Alphanumeric.field-0-is c.in-Some-Alphanumeric.ensures in
    let begins : c.parts.end + 1 < c.in-Some-Alphanumeric.next = (word_led c.args.bytes.now (c.parts.end + 1) a).begins in
    let within = a.within in
    rw c.in-Some-Alphanumeric.field-0-is (omega (arith, a.within))
