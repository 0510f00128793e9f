use Rattle.std.proofs.Common.{ap, ◌∙◌}
use Rattle.elab_types.proofs.Readings.{no_phrase, phrase_read}
use Rattle.lib_load.specs.Files.{files_over, flaw_of}
use Rattle.lib_load.proofs.Flaws.{flaw_of-text_refusal}
use Rattle.lib_load.proofs.elaborating.with_tokens.Goals as goal

pub returns-in-Ok-clause-value : goal.returns-in-Ok-clause-value
returns-in-Ok-clause-value c =
    phrase_read (files_over c.args.elab) _ flaw_of c.args.tokens.now c.in-Ok.file _ c.requires.tokens c.in-Ok.ensures.tree c.in-Ok.ensures.shallow c.with_tree.ensures.value

pub returns-in-Err-clause-value : goal.returns-in-Err-clause-value
returns-in-Err-clause-value c =
    no_phrase (files_over c.args.elab) _ c.args.tokens.now c.in-Err.refusal _ _ c.requires.tokens c.in-Err.ensures.refusal c.no_phrase.ensures.value
    (ap flaw_of c.from.ensures ∙ flaw_of-text_refusal c.no_phrase.result)
