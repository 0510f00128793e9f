-- What variables have met so far, and whether it can go on.
use Rattle.std.specs.Prelude.{◌≡◌, IsTrue, ℕ, ◌==◌, ◌&&◌, ◌||◌, Bool, false, List, [], ◌∷◌, ◌++◌, length, map, take}
use Rattle.type_core.specs.declared.names.TypeName.{TypeName}
use Rattle.type_core.specs.declared.ty.VarId.{VarId}
use Rattle.type_core.specs.AdmitsEquality.{AdmitsEquality}
use Rattle.linear_match.specs.declared.bindings.Met.{Met}
use Rattle.linear_match.specs.declared.bindings.Met.TheVariants as met
use Rattle.linear_match.specs.Meetings.{AreConsistent, Meeting, binding, exactly, loosely}

-- the meeting that is noted
abbrev pub meeting_of : Met → Meeting
meeting_of (met.Loosely v fs) = loosely v fs
meeting_of (met.Exactly v t) = exactly v t

-- the meetings that are noted
abbrev pub meetings_of : List Met → List Meeting
meetings_of = map meeting_of

-- the variable that meets something
abbrev pub variable_of : Meeting → VarId
variable_of (loosely v fs) = v
variable_of (exactly v t) = v

-- each variable of these meetings that has the mark is bound by `all` to a type that admits equality
abbrev pub AreMarked : List TypeName → List Meeting → List Meeting → Type 0
AreMarked names all [] = Unit {0}
AreMarked names all (m ∷ ms) = (IsTrue (variable_of m).eq → AdmitsEquality names (binding all (variable_of m).n)) ×
    AreMarked names all ms

-- the meetings are consistent, and what they bind each variable with the mark to admits equality
pub record AreGood (names : List TypeName) (ms : List Meeting) : Type 0 where
  pub consistent : AreConsistent ms
  pub marked : AreMarked names ms ms

-- whether a variable of number n that meets something has the mark
abbrev pub has_mark : ℕ → List Meeting → Bool
has_mark n [] = false
has_mark n (m ∷ ms) = (((variable_of m).n == n) && (variable_of m).eq) || has_mark n ms

-- what is noted begins with the others
abbrev pub IsBefore : List Met → List Met → Type 0
IsBefore old new = take (length old) new ≡ old

-- these meetings lead from the ones that were noted to those that are, which are good
pub record Leads (names : List TypeName) (old new : List Met) (ms : List Meeting) : Type 0 where
  pub noted : meetings_of new ≡ meetings_of old ++ ms
  pub good : AreGood names (meetings_of new)

-- meetings of this kind do
abbrev pub LeadsBy : List TypeName → List Met → List Met → (List Meeting → Type 0) → Type 0
LeadsBy names old new Kind = (ms : List Meeting) × Kind ms × Leads names old new ms

-- no meetings of this kind are good after those that were noted
abbrev pub LeadsNowhere : List TypeName → List Met → (List Meeting → Type 0) → Type 0
LeadsNowhere names old Kind = (ms : List Meeting) → Kind ms → AreGood names (meetings_of old ++ ms) → ⊥
