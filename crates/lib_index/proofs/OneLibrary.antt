-- An index text is read as the one valid library whose text it is.
use Rattle.std.proofs.Common.{◌≡◌, ℕ, false, true≢false, List, ◌++◌, drop, nat_eq, take, Option, Some, None, refl, sym, ap, subst, ◌∙◌}
use Rattle.std.specs.Cmp.Lexicographic.{pointwise}
use Rattle.lib_index.specs.Indexes.{IsIndexOf, IsNoIndex}
use Rattle.lib_index.specs.IndexText.{heading, index_text}
use Rattle.lib_index.specs.declared.refusal.IndexRefusal.{IndexRefusal}
use Rattle.lib_index.specs.declared.refusal.IndexRefusal.TheVariants as refusal
use Rattle.lib_index.specs.Reading.{Fails, Rest, library_at}
use Rattle.lib_index.proofs.Fields.{ahead, IsBytes, some_is}
use Rattle.lib_index.proofs.Fitting.{have_schemes, library_fits}
use Rattle.lib_index.proofs.Libraries.{library_complete, library_sound, parts_text}
use Rattle.type_core.specs.declared.library.Library.{Library}
use Rattle.type_core.specs.ValidLibrary.{IsValidLibrary}

-- where the reading of the parts of an index begins
abbrev pub start : List ℕ → Rest
start bytes = ahead 8000000 bytes

parts_of_text : (library : Library) → index_text library ≡ heading ++ parts_text library
unfolding index_text
parts_of_text library = refl

read_again : (library : Library) (bytes : List ℕ) → IsValidLibrary library → heading ++ bytes ≡ index_text library
    → (after : Rest) × (library_at (start bytes) ≡ Some (library, after))
read_again library bytes valid e =
    let parts-are : bytes ≡ parts_text library = ap (drop 8) (e ∙ parts_of_text library) in
    let read = library_complete library (library_fits library valid) in
    (read.0, ap (λ t. library_at (start t)) parts-are ∙ read.1)

pub one_library : (a b : Library) → IsValidLibrary a → IsValidLibrary b → index_text a ≡ index_text b → a ≡ b
one_library a b u v e =
    let first = read_again a (parts_text a) u (sym (parts_of_text a)) in
    let second = read_again b (parts_text a) v (sym (parts_of_text a) ∙ e) in
    ap (λ (p : Library × Rest). p.0) (some_is (a, first.0) (b, second.0) (sym first.1 ∙ second.1))

-- the library that is read, where it is valid
pub is_index : (bytes : List ℕ) (library : Library) (after : Rest) → IsBytes bytes → library_at (start bytes) ≡ Some
    (library, after) → IsValidLibrary library → IsIndexOf (heading ++ bytes) library
is_index bytes library after fits e valid = (
  valid,
  ap (λ t. heading ++ t) (library_sound (start bytes) library after fits e (have_schemes library valid))
      ∙ sym (parts_of_text library),
)

-- nothing is read
nothing_read : (bytes : List ℕ) → library_at (start bytes) ≡ None → IsNoIndex (heading ++ bytes)
nothing_read bytes e library is = absurd (none_some (read_again library bytes is.0 is.1) e)
  where
    none_some : (after : Rest) × (library_at (start bytes) ≡ Some (library, after)) → library_at (start bytes) ≡ None
        → ⊥
    none_some read e = let f : ◌≡◌ {A = Option (Library × Rest)} (Some (library, read.0)) None = sym read.1
        ∙ e in absurd cc

-- what is read isn't valid
pub invalid_read : (bytes : List ℕ) (library : Library) (after : Rest) → library_at (start bytes) ≡ Some (
  library,
  after,
) → ¬ (IsValidLibrary library) → IsNoIndex (heading ++ bytes)
invalid_read bytes library after e invalid other is =
    let read = read_again other bytes is.0 is.1 in
    let same : library ≡ other = ap (λ (p : Library × Rest). p.0) (some_is (library, after) (other, read.0) (sym e
    ∙ read.1)) in
    invalid (subst IsValidLibrary (sym same) is.0)

pub no_heading : (bytes : List ℕ) → pointwise nat_eq (take 8 bytes) heading ≡ false → IsNoIndex bytes
no_heading bytes differs library is = true≢false (subst (λ text. pointwise nat_eq (take 8 text) heading ≡ false) (is.1
    ∙ parts_of_text library) differs)

pub not_read : (e : IndexRefusal) (bytes : List ℕ) → Fails e (library_at (start bytes)) → e ≡ refusal.NotAnIndex
    → IsNoIndex (heading ++ bytes)
not_read refusal.NotAnIndex bytes fails is = nothing_read bytes fails
not_read refusal.NoMemory bytes fails is = absurd cc
