use Rattle.std.proofs.Common.{sym, ◌∙◌}
use Rattle.sig_base.specs.Identifiers.{is_alphanumeric_byte, is_letter}
use Rattle.sig_base.proofs.WordBytes.{one_then_tests}
use Rattle.sig_base.proofs.identifiers.is_alphanumeric_word.Goals as goal

pub returns-then-is_letter : goal.returns-then-is_letter
returns-then-is_letter c = record { exact = one_then_tests is_letter is_alphanumeric_byte c.args.text.now c.are_alphanumeric.result c.in-len1-up.len_at_least (sym c.is_letter.ensures.value ∙ c.if-is_letter.true) c.are_alphanumeric.ensures.value }
