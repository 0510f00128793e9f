-- Places by texts.
use Rattle.std.specs.Prelude.{ℕ, List, Option, bytes_eq}
use Rattle.std.specs.HashMap.{get_by}
use Rattle.elab_types.specs.declared.places.Places.{Places}

-- the place of a text, if it has one
abbrev pub place_at : Places → List ℕ → Option ℕ
place_at places text = get_by (λ key. bytes_eq text key.items) places.places
