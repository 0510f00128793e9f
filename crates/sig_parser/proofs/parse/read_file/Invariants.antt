use Rattle.std.proofs.Common.{◌-◌, ◌≤◌, length}
use Rattle.sig_parser.specs.machine.Views.{state_of}
use Rattle.sig_parser.proofs.Reading.{FileRead}
use Rattle.sig_parser.proofs.parse.read_file.Given as goal

abbrev pub invariant-tokens : goal.invariant-tokens
invariant-tokens l = record { within : l.place ≤ length l.tokens; read : FileRead l.bytes l.tokens l.place (state_of l.reading) }

abbrev pub decreases-tokens : goal.decreases-tokens
decreases-tokens l = length l.tokens - l.place
