-- Types with each variable replaced by its mark.
use Rattle.type_core.specs.declared.ty.Ty.{Ty}
use Rattle.type_core.specs.Renaming.{Renaming, renamed}

-- each variable loses its number and keeps its mark
abbrev pub marks : Renaming
marks v = record { n = 0; eq = v.eq }

-- the type with each variable, also beneath names and labels, replaced by its mark
unfoldable pub erase : Ty → Ty
erase = renamed marks

-- the type as it is
abbrev pub as_is : Ty → Ty
as_is t = t
