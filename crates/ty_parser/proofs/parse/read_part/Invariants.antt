use Rattle.std.proofs.Common.{◌-◌, ◌≤◌, length, drop}
use Rattle.ty_parser.specs.Sorts.{sorts_of}
use Rattle.ty_parser.specs.machine.Machine.{state_of}
use Rattle.ty_parser.proofs.Parts.{ReadPart}
use Rattle.ty_parser.proofs.parse.read_part.Given as goal

abbrev pub invariant-tokens : goal.invariant-tokens
invariant-tokens l = record { within : l.place ≤ length l.tokens; read : ReadPart l.depth l.at (drop l.at (sorts_of l.bytes l.tokens)) l.place (state_of l.reader) }

abbrev pub decreases-tokens : goal.decreases-tokens
decreases-tokens l = length l.tokens - l.place
