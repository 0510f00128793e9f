-- What is an index of a library.
use Rattle.std.specs.Prelude.{◌≡◌, ℕ, List}
use Rattle.type_core.specs.declared.library.Library.{Library}
use Rattle.type_core.specs.ValidLibrary.{IsValidLibrary}
use Rattle.lib_index.specs.IndexText.{index_text}

-- the library is valid, and the bytes are its index text
abbrev pub IsIndexOf : List ℕ → Library → Type 0
IsIndexOf bytes library = IsValidLibrary library × (bytes ≡ index_text library)

-- the bytes are the index text of no valid library
abbrev pub IsNoIndex : List ℕ → Type 0
IsNoIndex bytes = (library : Library) → ¬ (IsIndexOf bytes library)
