use Rattle.std.proofs.Common.{sym, ◌∙◌}
use Rattle.sig_base.specs.Identifiers.{is_symbolic_byte}
use Rattle.sig_base.proofs.WordBytes.{one_then_tests}
use Rattle.sig_base.proofs.identifiers.is_symbolic_word.Goals as goal

pub returns-then-is_symbolic_byte : goal.returns-then-is_symbolic_byte
returns-then-is_symbolic_byte c = record { exact = one_then_tests is_symbolic_byte is_symbolic_byte c.args.text.now c.are_symbolic.result c.in-len1-up.len_at_least (sym c.is_symbolic_byte.ensures.value ∙ c.if-is_symbolic_byte.true) c.are_symbolic.ensures.value }
