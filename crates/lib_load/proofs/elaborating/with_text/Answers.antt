use Rattle.std.proofs.Common.{ap, ◌∙◌}
use Rattle.elab_types.proofs.Readings.{no_tokens}
use Rattle.lib_load.specs.Files.{files_over, flaw_of}
use Rattle.lib_load.proofs.Flaws.{flaw_of-text_refusal}
use Rattle.lib_load.proofs.elaborating.with_text.Goals as goal

pub returns-in-Err-clause-value : goal.returns-in-Err-clause-value
returns-in-Err-clause-value c =
    no_tokens (files_over c.args.elab) _ _ _ _ c.in-Err.ensures.refusal c.no_tokens.ensures.value (ap flaw_of c.from.ensures ∙ flaw_of-text_refusal c.no_tokens.result)
