-- What comes of an index file that is told.
use Rattle.std.proofs.Common.{ℕ, ◌≤◌, List, [], ◌∷◌, length, subst}
use Rattle.std.specs.Prelude.{Option, Some, None, Result, Err}
use Rattle.std.specs.FinMap.{get}
use Rattle.sig_base.specs.FileMap.{FileMap}
use Rattle.sig_base.specs.Reading.{Holds, HoldsMore}
use Rattle.type_core.specs.declared.library.Library.{Library}
use Rattle.lib_load.specs.declared.refusals.LoadRefusal.{LoadRefusal}
use Rattle.lib_load.specs.declared.refusals.LoadRefusal.TheVariants as refusal
use Rattle.lib_load.specs.Given.{index_limit, text}
use Rattle.lib_load.specs.Indexes.{LoadsIndex, LoadsIndexTold, long}
use Rattle.lib_load.proofs.Held.{much_held, text_held}

pub text_told : (told : Option FileMap) (path bytes : List ℕ) (outcome : Result Library LoadRefusal) → Holds told path bytes → length bytes ≤ index_limit → LoadsIndex outcome (text bytes ∷ []) → LoadsIndexTold told path outcome
text_told None path bytes outcome there short loads = tt
text_told (Some files) path bytes outcome there short loads = subst (λ given. LoadsIndex outcome (given ∷ [])) (text_held index_limit bytes (get files path) there short) loads

pub long_told : (told : Option FileMap) (path : List ℕ) → HoldsMore told path index_limit → LoadsIndexTold told path (Err refusal.NotAnIndex)
long_told None path more = tt
long_told (Some files) path more = subst (λ given. LoadsIndex (Err refusal.NotAnIndex) (given ∷ [])) (much_held index_limit more.0 (get files path) more.1 more.2) long
