use Rattle.std.proofs.Common.{sym, ap, ◌∙◌}
use Rattle.sig_base.specs.Identifiers.{is_numeral}
use Rattle.query_cli.proofs.Numerals.{unread}
use Rattle.query_cli.proofs.count.count_of.Goals as goal

pub returns-in_default-2 : goal.returns-in_default-2
returns-in_default-2 c = record { value = unread c.args.word.now (sym (ap is_numeral c.as_bytes.ensures.value) ∙ (sym c.is_numeral.ensures.value ∙ c.if-not-is_numeral.false)) c.in_default.ensures.value.0 }
