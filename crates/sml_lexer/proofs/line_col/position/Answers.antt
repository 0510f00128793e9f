use Rattle.std.proofs.Common.{◌≡◌, ◌<◌, ◌+◌, length, take, ap, arith}
use Rattle.sml_lexer.specs.Places.{line_ends, last_line}
use Rattle.sml_lexer.proofs.Lines.{lines-end, lines-more, column-end, column-more}
use Rattle.sml_lexer.proofs.line_col.position.Goals.{then-bytes-i-eq10, else-bytes-i-eq10}
use Rattle.sml_lexer.proofs.line_col.position.Goals as goal

pub loop-i-preserved : goal.loop-i-preserved
loop-i-preserved c =
    let l = c.loop-i.invariant in
    let bytes = c.args.bytes.now in
    let i = c.loop-i.i in
    let fits : i < length bytes = omega (arith, c.requires.within, c.loop-i-test.true) in
    elim c.if-bytes-i-eq10.branch [
      | then-bytes-i-eq10 w ↦
          let lines : line_ends (take (i + 1) bytes) ≡ line_ends (take i bytes) + 1 = lines-end bytes i fits w.if-bytes-i-eq10.true in
          let column : length (last_line (take (i + 1) bytes)) ≡ 0 = ap length (column-end bytes i fits w.if-bytes-i-eq10.true) in
          record {
            lines = omega (arith, lines, l.lines, w.line-is);
            column = omega (arith, column, w.col-is);
            few_lines = omega (arith, l.few_lines, w.line-is);
            short = omega (arith, w.col-is);
          }
      | else-bytes-i-eq10 w ↦
          let lines : line_ends (take (i + 1) bytes) ≡ line_ends (take i bytes) + 0 = lines-more bytes i fits w.if-bytes-i-eq10.false in
          let column : length (last_line (take (i + 1) bytes)) ≡ length (last_line (take i bytes)) + 1 = column-more bytes i fits w.if-bytes-i-eq10.false in
          record {
            lines = omega (arith, lines, l.lines, w.line-is);
            column = omega (arith, column, l.column, w.col-is);
            few_lines = omega (arith, l.few_lines, w.line-is);
            short = omega (arith, l.short, w.col-is);
          }
    ]
