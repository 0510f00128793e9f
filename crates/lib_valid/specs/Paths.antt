-- How paths end.
use Rattle.std.specs.Prelude.{ℕ, List}
use Rattle.type_core.specs.Paths.{IsMemberIdentifier, IsTypeIdentifier}
use Rattle.lib_valid.specs.declared.paths.Ending.{Ending}
use Rattle.lib_valid.specs.declared.paths.Ending.TheVariants.{Tycon, Member}

-- what may be the last part of a path of this sort
abbrev pub Ends : Ending → List ℕ → Type 0
Ends Tycon text = IsTypeIdentifier text
Ends Member text = IsMemberIdentifier text
