-- The distinct schemes of a library, and the numbers of the members' schemes among them.
use Rattle.std.specs.Prelude.{◌≡◌, ◌⊎◌, ℕ, ◌<◌, ◌≤◌, ◌^◌, nat_eq, Bool, true, false, if◌then◌else◌, List, [], ◌∷◌, ◌++◌, Some, length, slice_get}
use Rattle.std.specs.List.{All}
use Rattle.type_core.specs.declared.library.Library.{Library}
use Rattle.type_core.specs.declared.member.Member.{Member}
use Rattle.type_core.specs.declared.ty.Scheme.{Scheme}
use Rattle.type_core.specs.Size.{size_of}
use Rattle.search_core.specs.declared.answer.Hit.{Hit}
use Rattle.search_core.specs.Search.{CanBeSearched, CanBeSearchedFor}
use Rattle.lib_gen.specs.declared.classes.Classes.{Classes}

-- a member of this number has the scheme
pub record HasScheme (members : List Member) (n : ℕ) (scheme : Scheme) : Type 0 where
  pub member : Member
  pub there : slice_get members n ≡ Some member
  pub same : member.scheme ≡ scheme

-- the members are as before, or one that has the scheme stands after them
abbrev pub MayGain : Scheme → List Member → List Member → Type 0
MayGain scheme before now = (now ≡ before) ⊎ ((member : Member) × (now ≡ before ++ member ∷ []) × (member.scheme ≡ scheme))

-- at this place stands the number of a member that has the scheme
pub record HasNumber (numbers : List ℕ) (members : List Member) (n : ℕ) (scheme : Scheme) : Type 0 where
  pub number : ℕ
  pub listed : slice_get numbers n ≡ Some number
  pub has : HasScheme members number scheme

-- the scheme can stand in a library that is searched, and can be searched for
pub record IsSearchable (scheme : Scheme) : Type 0 where
  pub query : CanBeSearchedFor scheme
  pub size : size_of scheme.body < 2 ^ 32

-- the first so many members of the library have their numbers, of members that can be searched for
pub record AreNumbered (library : Library) (count : ℕ) (numbers : List ℕ) (members : List Member) : Type 0 where
  pub all : length numbers ≡ count
  pub few : length members ≤ count
  pub searchable : All (λ member. IsSearchable member.scheme) members
  pub each : (n : ℕ) (member : Member) → n < count → slice_get library.members n ≡ Some member
      → HasNumber numbers members n member.scheme

-- the schemes of the library stand in another, with the same names, and each of its members has its number there
pub record AreClasses (library : Library) (classes : Classes) : Type 0 where
  pub names : classes.schemes.names ≡ library.names
  pub numbered : AreNumbered library (length library.members) classes.numbers classes.schemes.members
  pub searched : CanBeSearched classes.schemes

-- whether one of the hits is the member of this number
abbrev pub is_among : List Hit → ℕ → Bool
is_among [] n = false
is_among (hit ∷ hits) n = if nat_eq hit.member n then true else is_among hits n
