-- What the comparison of a scheme with the query's finds.
use Rattle.std.specs.Prelude.{List, ⊤}
use Rattle.type_core.specs.declared.names.TypeName.{TypeName}
use Rattle.type_core.specs.declared.ty.Scheme.{Scheme}
use Rattle.type_core.specs.Coordinates.{coordinates}
use Rattle.type_core.specs.Types.{IsType}
use Rattle.iso_normal.specs.declared.pair_tree.PairTree.{PairTree}
use Rattle.coord_match.specs.LeastPairing.{IsLeastIdentical}
use Rattle.linear_match.specs.declared.instance.Instance.{Instance}
use Rattle.linear_match.specs.LeastWord.{IsFirst}
use Rattle.search_core.specs.declared.answer.Mode.{Mode}
use Rattle.search_core.specs.declared.answer.Mode.TheVariants as mode
use Rattle.search_core.specs.declared.comparing.Comparison.{Comparison}
use Rattle.search_core.specs.declared.comparing.Comparison.TheVariants as comparison
use Rattle.search_core.specs.declared.comparing.Found.{Found}
use Rattle.search_core.specs.declared.comparing.Found.TheVariants as found
use Rattle.search_core.specs.Converters.{IsLeastWith}
use Rattle.search_core.specs.Search.{Finds}

-- the instance of the least word of a scheme for the query's type, and the least pairing of the two with identical heads
pub record IsLeastMatch (names : List TypeName) (scheme query : Scheme) (i : Instance) (p : PairTree) : Type 0 where
  pub type : IsType i.body
  pub first : IsFirst names scheme query.body i.word i.subst i.body
  pub least : IsLeastIdentical (coordinates i.body) (coordinates query.body) p

-- by what a mode finds a scheme
abbrev pub IsFound : List TypeName → Mode → Scheme → Scheme → Found → Type 0
IsFound names mode.Same scheme query found.Equal = ⊤
IsFound names mode.Iso scheme query (found.Paired paired) = IsLeastWith scheme query paired.partners paired.tree
IsFound names mode.General scheme query (found.Matched i p) = IsLeastMatch names scheme query i p
IsFound names m scheme query other = ⊥

-- some mode finds the scheme by this
abbrev pub IsFoundInSomeMode : Scheme → Scheme → Found → Type 0
IsFoundInSomeMode scheme query found = (names : List TypeName) × (m : Mode) × IsFound names m scheme query found

-- the mode doesn't find the scheme, or it does, by this
abbrev pub IsComparison : List TypeName → Mode → Scheme → Scheme → Comparison → Type 0
IsComparison names m scheme query comparison.Apart = ¬ (Finds names m scheme query)
IsComparison names m scheme query (comparison.Found found) = Finds names m scheme query × IsFound names m scheme query found
