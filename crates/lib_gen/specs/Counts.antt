-- What was counted for the schemes of a library.
use Rattle.std.specs.Prelude.{◌≡◌, Some, slice_get}
use Rattle.type_core.specs.declared.library.Library.{Library}
use Rattle.type_core.specs.declared.member.Member.{Member}
use Rattle.type_core.specs.declared.ty.Scheme.{Scheme}
use Rattle.search_core.specs.declared.answer.Mode.TheVariants as mode
use Rattle.lib_gen.specs.declared.classes.Classes.{Classes}
use Rattle.lib_gen.specs.declared.totals.Counts.{Counts}
use Rattle.lib_gen.specs.declared.totals.Searched.{Searched}
use Rattle.lib_gen.specs.Summary.{HasHits}

-- the query of this scheme has so many hits in the two modes
pub record AreCounts (library : Library) (query : Scheme) (counts : Counts) : Type 0 where
  pub iso : HasHits library mode.Iso query counts.iso
  pub general : HasHits library mode.General query counts.general

-- the query of the scheme of this class has so many hits
pub record IsCounted (library : Library) (classes : Classes) (searched : Searched) : Type 0 where
  pub member : Member
  pub there : slice_get classes.schemes.members searched.class ≡ Some member
  pub counts : AreCounts library member.scheme searched.counts
