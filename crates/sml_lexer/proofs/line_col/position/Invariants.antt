use Rattle.std.proofs.Common.{◌≡◌, ◌≤◌, ◌+◌, length, take}
use Rattle.sml_lexer.specs.Places.{line_ends, last_line}
use Rattle.sml_lexer.proofs.line_col.position.Given as goal

abbrev pub invariant-loop-i : goal.invariant-loop-i
invariant-loop-i l = record {
  lines : l.line ≡ 1 + line_ends (take l.i l.bytes);
  column : l.col ≡ 1 + length (last_line (take l.i l.bytes));
  few_lines : l.line ≤ l.i + 1;
  short : l.col ≤ l.i + 1;
}
