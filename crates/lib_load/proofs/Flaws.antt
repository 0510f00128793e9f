-- What the refusals of files tell.
use Rattle.std.proofs.Common.{◌≡◌, refl}
use Rattle.elab_types.specs.declared.fault.TextRefusal.{TextRefusal}
use Rattle.elab_types.specs.declared.fault.TextRefusal.TheVariants as text
use Rattle.elab_types.specs.Stages.{flaw_of_text}
use Rattle.lib_load.specs.Files.{flaw_of, text_fault, text_refusal}

-- a text that is no phrase tells the same of the file
pub flaw_of-text_refusal : (r : TextRefusal) → flaw_of (text_refusal r) ≡ flaw_of_text text_fault r
flaw_of-text_refusal (text.Refused wrong place) = refl
flaw_of-text_refusal text.NoMemory = refl
