-- Fields in whose types a name doesn't stand.
use Rattle.std.specs.Prelude.{ℕ, Bool}
use Rattle.type_core.specs.declared.ty.Field.{Field}
use Rattle.elab_env.specs.Avoids.{avoids}

-- whether the name with this number stands nowhere in the field's type
abbrev pub field_avoids : ℕ → Field → Bool
field_avoids n field = avoids n field.ty
