use Rattle.std.proofs.Common.{◌≡◌, ◌++◌, ◌-◌, drop, length, take}
use Rattle.std.specs.List.{All}
use Rattle.linear_match.specs.search.Tasks.{IsSmall, patterns_of, pieces_of}
use Rattle.linear_match.proofs.search.push_pieces.Given as goal

abbrev pub invariant-loop-i : goal.invariant-loop-i
invariant-loop-i l = record {
  count : l.count ≡ length l.dealing.parts.now;
  patterns : patterns_of l.tasks ≡ drop (l.count - l.i) l.dealing.parts.now ++ patterns_of l.fn.tasks;
  pieces : pieces_of l.tasks ≡ drop (l.count - l.i) l.dealing.pieces.items ++ pieces_of l.fn.tasks;
  grown : take (length l.fn.tasks) l.tasks ≡ l.fn.tasks;
  small : All IsSmall l.tasks;
}
