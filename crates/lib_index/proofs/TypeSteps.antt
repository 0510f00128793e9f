-- What the reading of a type goes on with, once its form is read.
use Rattle.std.proofs.Common.{◌≡◌, ℕ, suc, Bool, List, Option, Some, refl}
use Rattle.lib_index.specs.declared.type_reading.Form.{Form}
use Rattle.lib_index.specs.Reading.{Rest, coded, form_of, of_form, spent, type_at}
use Rattle.type_core.specs.declared.names.TypeName.{TypeName}

pub form_read : (names : List TypeName) (marks : Option (List Bool)) (height less : ℕ) (rest after last : Rest)
    (form : Form) → height ≡ suc less → spent 1 rest ≡ Some after → coded form_of after ≡ Some (form, last)
    → of_form form names marks (type_at names marks less) last ≡ type_at names marks height rest
unfolding type_at
form_read names marks height less rest after last form e f g = rw (e, f, g) refl
