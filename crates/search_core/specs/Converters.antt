-- The type of a member in the variables of a query, and the converters between the two.
use Rattle.std.specs.Prelude.{ℕ, ◌+◌, true, not, if◌then◌else◌, List, Option}
use Rattle.std.specs.List.{filter}
use Rattle.type_core.specs.declared.ty.Scheme.{Scheme}
use Rattle.type_core.specs.declared.ty.Ty.{Ty}
use Rattle.type_core.specs.declared.ty.VarId.{VarId}
use Rattle.type_core.specs.Coordinates.{coordinates}
use Rattle.type_core.specs.Renaming.{Renaming, renamed}
use Rattle.type_core.specs.Variables.{by_first_occurrence, occurs, place}
use Rattle.iso_normal.specs.declared.pair_tree.PairTree.{PairTree}
use Rattle.iso_normal.specs.Consistency.{variables_among}
use Rattle.iso_normal.specs.PairTrees.{inverse}
use Rattle.coord_match.specs.LeastPairing.{IsLeast}
use Rattle.coord_match.specs.Names.{Tells}
use Rattle.conv_typing.specs.InversePair.{IsInversePair}
use Rattle.conv_build.specs.declared.converters.Converters.{Converters}
use Rattle.conv_build.specs.ShortConverter.{IsShortConverter}

-- the variable of this number that has the mark
abbrev pub marked : ℕ → VarId
marked n = record { n = n; eq = true }

-- the variables that occur in the scheme's coordinates
abbrev pub staying : Scheme → List VarId
staying s = variables_among (coordinates s.body)

-- those that don't, in the order of their numbers
abbrev pub vanishing : Scheme → List VarId
vanishing s = filter (λ v. not (occurs v (staying s))) (by_first_occurrence s.body)

-- a variable that vanishes takes its place among those as number, from `from` on, and keeps its mark
abbrev pub numbered_from : ℕ → Scheme → VarId → VarId
numbered_from from s v = record { n = from + place v (vanishing s); eq = v.eq }

-- r on the variables that stay; those that vanish take the numbers from `from` on
abbrev pub completed : Renaming → Scheme → ℕ → Renaming
completed r s from v = if occurs v (staying s) then r v else numbered_from from s v

-- the scheme's type in the variables of the query, where r is the renaming of a pairing; those that vanish come after
-- all variables of the query
abbrev pub type_beside : Renaming → Scheme → Scheme → Ty
type_beside r scheme query = renamed (completed r scheme query.vars) scheme.body

-- the list tells, by number, where r sends the variables of the scheme that stay
abbrev pub ArePartners : List (Option VarId) → Renaming → Scheme → Type 0
ArePartners partners r s = Tells partners r (staying s)

-- p is the least consistent pairing of the scheme's coordinates with the query's, and the partners are by its renaming
abbrev pub IsLeastWith : Scheme → Scheme → List (Option VarId) → PairTree → Type 0
IsLeastWith s query partners p =
    (r : Renaming) × IsLeast r (coordinates s.body) (coordinates query.body) p × ArePartners partners r s

-- the two are the short converters from a to b along p and back along its inverse, and each undoes the other
pub record AreConverters (a b : Ty) (p : PairTree) (c : Converters) : Type 0 where
  pub to : IsShortConverter a b p c.to
  pub from : IsShortConverter b a (inverse p) c.from
  pub inverse_pair : IsInversePair a b c.to c.from
