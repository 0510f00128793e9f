-- What comes of what was read of an index file: the library whose text it is, or its refusal.
use Rattle.std.specs.Prelude.{◌≡◌, ℕ, List, [], ◌∷◌, ⊤, Option, Result, Ok, Err, IfSome}
use Rattle.sig_base.specs.FileMap.{FileMap}
use Rattle.type_core.specs.declared.library.Library.{Library}
use Rattle.lib_index.specs.Indexes.{IsIndexOf, IsNoIndex}
use Rattle.lib_load.specs.declared.refusals.LoadRefusal.{LoadRefusal}
use Rattle.lib_load.specs.declared.refusals.LoadRefusal.TheVariants as refusal
use Rattle.lib_load.specs.Given.{Given, held, index_limit, text, too_much, unread}

-- what comes of what was read of an index file: it failed, or was too long for an index, or is the index text of a valid library, or of none
pub data LoadsIndex : Result Library LoadRefusal → List Given → Type 0 where
  failed : LoadsIndex (Err (refusal.ReadFault 0)) (unread ∷ [])
  long : LoadsIndex (Err refusal.NotAnIndex) (too_much ∷ [])
  found : {bytes : List ℕ} {library : Library} → IsIndexOf bytes library → LoadsIndex (Ok library) (text bytes ∷ [])
  none : {bytes : List ℕ} → IsNoIndex bytes → LoadsIndex (Err refusal.NotAnIndex) (text bytes ∷ [])

-- where the files are told, this comes of what the one at the path holds
abbrev pub LoadsIndexTold : Option FileMap → List ℕ → Result Library LoadRefusal → Type 0
LoadsIndexTold told path outcome = IfSome told (λ files. LoadsIndex outcome (held index_limit files (path ∷ [])))

-- an index file is refused so: reading it, the one file, failed; or it is no index; or memory was wanted
abbrev pub RefusesIndex : LoadRefusal → Type 0
RefusesIndex (refusal.ReadFault place) = place ≡ 0
RefusesIndex refusal.NotAnIndex = ⊤
RefusesIndex refusal.NoMemory = ⊤
RefusesIndex other = ⊥
