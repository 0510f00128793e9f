use Rattle.std.proofs.Common.{◌≡◌, suc, ◌+◌, ◌-◌, arith}
use Rattle.std.proofs.lemmas.Bool.{iff_false}
use Rattle.sml_lexer.proofs.Nesting.{comment_on, comment_back, opening_on, opening_back, byte_on, byte_back, closing_on, closing_back, last_on, never_past}
use Rattle.sml_lexer.proofs.comments.comment_end.Goals as goal

pub bytes-init : goal.bytes-init
bytes-init c = record {
  few = omega arith;
  on = λ end ends. comment_on c.args.bytes.now c.args.start end c.requires ends;
  back = λ end is. comment_back c.args.bytes.now c.args.start end is;
}

pub bytes-preserved-then-is_opening : goal.bytes-preserved-then-is_opening
bytes-preserved-then-is_opening c =
    let l = c.bytes.invariant in
    let opens = c.is_opening.ensures.0 c.if-is_opening.true in
    let more : c.bytes.around + 1 ≡ suc c.bytes.around = omega arith in
    record {
      few = omega (arith, l.few);
      on = λ end ends. l.on end (opening_on c.args.bytes.now c.bytes.around (c.bytes.around + 1) c.bytes.at end more opens ends);
      back = λ end is. opening_back c.args.bytes.now c.bytes.around (c.bytes.around + 1) c.bytes.at end more opens (l.back end is);
    }

pub bytes-preserved-then-not-is_closing : goal.bytes-preserved-then-not-is_closing
bytes-preserved-then-not-is_closing c =
    let l = c.bytes.invariant in
    let no_open = iff_false c.is_opening.ensures c.if-is_opening.false in
    let no_close = iff_false c.is_closing.ensures c.if-not-is_closing.true in
    record {
      few = omega (arith, l.few);
      on = λ end ends. l.on end (byte_on c.args.bytes.now c.bytes.around c.bytes.at end no_open no_close ends);
      back = λ end is. byte_back c.args.bytes.now c.bytes.around c.bytes.at end no_open no_close (l.back end is);
    }

pub returns-then-around-eq0 : goal.returns-then-around-eq0
returns-then-around-eq0 c =
    let closes = c.is_closing.ensures.0 c.if-not-is_closing.false in
    c.bytes.invariant.on _ (last_on c.args.bytes.now c.bytes.around c.bytes.at c.if-around-eq0.true closes)

pub bytes-preserved : goal.bytes-preserved
bytes-preserved c =
    let l = c.bytes.invariant in
    let closes = c.is_closing.ensures.0 c.if-not-is_closing.false in
    let outer : c.bytes.around ≡ suc (c.bytes.around - 1) = omega (arith, c.if-around-eq0.false) in
    record {
      few = omega (arith, l.few);
      on = λ end ends. l.on end (closing_on c.args.bytes.now c.bytes.around (c.bytes.around - 1) c.bytes.at end outer closes ends);
      back = λ end is. closing_back c.args.bytes.now c.bytes.around (c.bytes.around - 1) c.bytes.at end outer closes (l.back end is);
    }

pub returns : goal.returns
returns c = λ end is. never_past c.args.bytes.now c.bytes.around c.bytes.at end c.bytes-test.false (c.bytes.invariant.back end is)
