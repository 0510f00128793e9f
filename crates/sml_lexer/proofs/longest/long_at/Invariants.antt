use Rattle.std.proofs.Common.{◌-◌, ℕ, ◌<◌, ◌≤◌, length}
use Rattle.sml_lexer.specs.Tokens.{StandsAt}
use Rattle.sml_lexer.specs.LongPlaces.{IsLongAt}
use Rattle.sml_lexer.proofs.Parts.{Tail}
use Rattle.sml_lexer.proofs.longest.long_at.Given as goal

-- what goes on behind the part that ends at `end` is what goes on behind the whole
abbrev pub invariant-parts : goal.invariant-parts
invariant-parts l = record {
  order : l.first ≤ l.end;
  within : l.end ≤ length l.bytes;
  stands : StandsAt l.bytes l.kind l.at l.end;
  onward : (to : ℕ) → Tail l.bytes l.end to → IsLongAt l.bytes l.at to;
  back : (to : ℕ) → l.end < to → IsLongAt l.bytes l.at to → Tail l.bytes l.end to;
}

abbrev pub decreases-parts : goal.decreases-parts
decreases-parts l = length l.bytes - l.end
