use Rattle.std.proofs.Common.{◌-◌, ℕ, ◌≤◌, length}
use Rattle.sml_lexer.specs.Comments.{IsCommentAt}
use Rattle.sml_lexer.proofs.Nesting.{Ends}
use Rattle.sml_lexer.proofs.comments.comment_end.Given as goal

-- the comment ends where the outermost of those around `at` does
abbrev pub invariant-bytes : goal.invariant-bytes
invariant-bytes l = record {
  few : l.around ≤ l.at;
  on : (end : ℕ) → Ends l.bytes l.around l.at end → IsCommentAt l.bytes l.start end;
  back : (end : ℕ) → IsCommentAt l.bytes l.start end → Ends l.bytes l.around l.at end;
}

abbrev pub decreases-bytes : goal.decreases-bytes
decreases-bytes l = length l.bytes - l.at
