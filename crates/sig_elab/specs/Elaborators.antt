-- What an elaborator has come to within a file.
use Rattle.std.specs.Prelude.{◌≡◌, ◌++◌, Result, Ok, Err}
use Rattle.sig_elab.specs.declared.draft.Draft.{Draft}
use Rattle.elab_rules.specs.declared.refusal.ElabRefusal.{ElabRefusal}
use Rattle.elab_rules.specs.declared.refusal.ElabRefusal.TheVariants.{Refused, NoMemory}
use Rattle.elab_rules.specs.Library.{Basis}
use Rattle.elab_rules.specs.Outcome.{Outcome}
use Rattle.elab_types.specs.Outcome.{failed}
use Rattle.elab_rules.specs.Views.{state_of}

-- the basis within a file: the units of the files before it and its own so far, and the state
abbrev pub basis_of : Draft → Basis
basis_of draft = record { units = draft.before.now.entries.items ++ draft.added.entries.items; state = state_of draft.progress }

-- the answer is the basis of the outcome; want of memory is free
abbrev pub GivesBasis : Outcome Basis → Result Draft ElabRefusal → Type 0
GivesBasis outcome (Ok draft) = outcome ≡ Ok (basis_of draft)
GivesBasis outcome (Err (Refused why token)) = outcome ≡ failed why token
GivesBasis outcome (Err NoMemory) = Unit {0}
