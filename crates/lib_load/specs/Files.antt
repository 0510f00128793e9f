-- What a signature file means over the files before it, and what is wrong where it means nothing.
use Rattle.std.specs.Prelude.{ℕ, ◌≤◌, List, ⊤, length, Option, Some, None, Ok, Err}
use Rattle.elab_types.specs.declared.fault.TextFault.{TextFault}
use Rattle.elab_types.specs.declared.fault.TextFault.TheVariants as text
use Rattle.elab_types.specs.declared.fault.TextRefusal.{TextRefusal}
use Rattle.elab_types.specs.declared.fault.TextRefusal.TheVariants as no_phrase
use Rattle.elab_types.specs.Outcome.{Outcome, failed}
use Rattle.elab_types.specs.Stages.{Flaw, Language}
use Rattle.elab_rules.specs.declared.refusal.Why.{Why}
use Rattle.elab_rules.specs.Files.{elaborated}
use Rattle.elab_rules.specs.Library.{Basis}
use Rattle.sig_parser.specs.declared.tree.SourceFile.{SourceFile}
use Rattle.sig_parser.specs.Files.{File}
use Rattle.lib_load.specs.declared.refusals.Fault.{Fault}
use Rattle.lib_load.specs.declared.refusals.Fault.TheVariants as fault
use Rattle.lib_load.specs.declared.refusals.FileRefusal.{FileRefusal}
use Rattle.lib_load.specs.declared.refusals.FileRefusal.TheVariants as refusal

-- a fault of the text is one of the file
abbrev pub text_fault : TextFault → Fault
text_fault text.BadByte = fault.BadByte
text_fault text.OpenComment = fault.OpenComment
text_fault text.LongName = fault.LongName
text_fault text.Syntax = fault.Syntax
text_fault text.TooDeep = fault.TooDeep

-- a text that is no phrase is a file that is refused
abbrev pub text_refusal : TextRefusal → FileRefusal
text_refusal (no_phrase.Refused wrong place) = refusal.Refused (text_fault wrong) place
text_refusal no_phrase.NoMemory = refusal.NoMemory

-- a condition of elaboration that fails is a fault of the file
abbrev pub basis_or_fault : Outcome Why Basis → Outcome Fault Basis
basis_or_fault (Ok basis) = Ok basis
basis_or_fault (Err failure) = failed (fault.Elab failure.why) failure.token

-- a file means, over the basis of those before it, the basis with it
abbrev pub meaning_over : Basis → List (List ℕ) → SourceFile → Outcome Fault Basis
meaning_over basis texts file = basis_or_fault (elaborated texts file basis)

-- the files that can follow those of this basis
abbrev pub files_over : Basis → Language Fault SourceFile Basis
files_over basis = record { phrase = File; meaning = meaning_over basis; of_text = text_fault }

-- what is wrong with a file that is refused; want of memory tells nothing
abbrev pub flaw_of : FileRefusal → Option (Flaw Fault)
flaw_of (refusal.Refused fault place) = Some (record { why = fault; place = place })
flaw_of refusal.NoMemory = None

-- the place of a flaw is a byte of the file, or its end
abbrev pub IsWithin : List ℕ → FileRefusal → Type 0
IsWithin bytes (refusal.Refused fault place) = place ≤ length bytes
IsWithin bytes refusal.NoMemory = ⊤
