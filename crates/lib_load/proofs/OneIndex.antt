-- One thing comes of what was read of an index file.
use Rattle.std.proofs.Common.{◌≡◌, ℕ, ◌<◌, ◌≤◌, List, length, refl, ap, sym, ◌∙◌, arith}
use Rattle.std.specs.Prelude.{Result, Ok}
use Rattle.type_core.specs.declared.library.Library.{Library}
use Rattle.type_core.specs.ValidLibrary.{IsValidLibrary}
use Rattle.lib_index.specs.IndexText.{index_text}
use Rattle.lib_index.specs.Indexes.{IsNoIndex}
use Rattle.lib_load.specs.declared.refusals.LoadRefusal.{LoadRefusal}
use Rattle.lib_load.specs.Given.{Given, index_limit}
use Rattle.lib_load.specs.Indexes.{LoadsIndex, failed, found, long, none}

pub one_index : ((a b : Library) → IsValidLibrary a → IsValidLibrary b → index_text a ≡ index_text b → a ≡ b)
    → (givens : List Given) (a b : Result Library LoadRefusal) → LoadsIndex a givens → LoadsIndex b givens → a ≡ b
one_index one givens a b failed failed = refl
one_index one givens a b long long = refl
one_index one givens a b (found {library = library} x) (found {library = other} y) = ap (λ l. Ok l) (one library other x.0 y.0 (sym x.1 ∙ y.1))
one_index one givens a b (found {library = library} x) (none isnt) = absurd (isnt library x)
one_index one givens a b (none isnt) (found {library = library} x) = absurd (isnt library x)
one_index one givens a b (none isnt) (none also) = refl

pub long_no_index : ((library : Library) → IsValidLibrary library → length (index_text library) ≤ 67108864) → (bytes : List ℕ) → index_limit < length bytes → IsNoIndex bytes
long_no_index short bytes more = λ library is. omega (arith, more, short library is.0, ap length is.1)
