use Rattle.std.proofs.Common.{◌-◌, length}
use Rattle.sml_lexer.specs.Tokens.{Reads}
use Rattle.sml_lexer.proofs.lexer.lex.Given as goal

abbrev pub invariant-bytes : goal.invariant-bytes
invariant-bytes l = Reads l.bytes 0 l.out l.at

abbrev pub decreases-bytes : goal.decreases-bytes
decreases-bytes l = length l.bytes - l.at
