-- What can be searched, and the hits of a query.
use Rattle.std.specs.Prelude.{◌≡◌, ◌↔◌, ℕ, ◌<◌, ◌≤◌, ◌^◌, List, Some, None, length, map, slice_get}
use Rattle.std.specs.List.{All, AllPairs, Contains}
use Rattle.type_core.specs.declared.library.Library.{Library}
use Rattle.type_core.specs.declared.member.Member.{Member}
use Rattle.type_core.specs.declared.names.TypeName.{TypeName}
use Rattle.type_core.specs.declared.ty.Scheme.{Scheme}
use Rattle.type_core.specs.declared.ty.Ty.{Ty}
use Rattle.type_core.specs.Coordinates.{coordinates}
use Rattle.type_core.specs.NormalSize.{normal_size_of}
use Rattle.type_core.specs.Renaming.{Renaming}
use Rattle.type_core.specs.Schemes.{IsScheme}
use Rattle.type_core.specs.Size.{size_of}
use Rattle.type_core.specs.Types.{IsType}
use Rattle.iso_axioms.specs.SchemeEquality.{AreEqualIn}
use Rattle.iso_axioms.specs.Theory.{IsIsomorphic}
use Rattle.iso_normal.specs.declared.pair_tree.PairTree.{PairTree}
use Rattle.coord_match.specs.LeastPairing.{IsLeast, IsLeastIdentical}
use Rattle.linear_match.specs.declared.instance.Instance.{Instance}
use Rattle.linear_match.specs.Instances.{IsMatch}
use Rattle.linear_match.specs.LeastWord.{IsFirst}
use Rattle.conv_build.specs.declared.converters.Converters.{Converters}
use Rattle.search_core.specs.declared.answer.Mode.{Mode}
use Rattle.search_core.specs.declared.answer.Mode.TheVariants as mode
use Rattle.search_core.specs.declared.answer.Details.{Details}
use Rattle.search_core.specs.declared.answer.Hit.{Hit}
use Rattle.search_core.specs.Converters.{AreConverters, type_beside}

-- a library can be searched where its members have schemes of types with fewer than 2 ^ 32 nodes, and a number below
-- 2 ^ 32 each
pub record CanBeSearched (library : Library) : Type 0 where
  pub schemes : All (λ member. IsScheme member.scheme) library.members
  pub types : All (λ member. IsType member.scheme.body) library.members
  pub sizes : All (λ member. size_of member.scheme.body < 2 ^ 32) library.members
  pub few : length library.members ≤ 2 ^ 32

-- a scheme can be searched for where it is one of a type whose normal form has at most 8,000 nodes
pub record CanBeSearchedFor (query : Scheme) : Type 0 where
  pub scheme : IsScheme query
  pub type : IsType query.body
  pub normal_limit : normal_size_of query.body ≤ 8000

-- what a mode finds: in mode same a scheme that is the query's but for the names of variables, in mode iso one that
-- equals it up to isomorphism, and in mode general one that has an instance linearly isomorphic to the query's type
abbrev pub Finds : List TypeName → Mode → Scheme → Scheme → Type 0
Finds names mode.Same scheme query = AreEqualIn ◌≡◌ scheme query
Finds names mode.Iso scheme query = AreEqualIn IsIsomorphic scheme query
Finds names mode.General scheme query = (by : List Ty) × IsMatch names scheme query.body by

-- the library has a member of this number, and the mode finds its scheme
abbrev pub IsDue : Library → Mode → Scheme → ℕ → Type 0
IsDue library m query n =
    (member : Member) × (slice_get library.members n ≡ Some member) × Finds library.names m member.scheme query

-- a pairing of a scheme with the query's, and converters: the pairing is the least consistent one of their coordinates,
-- and along it the converters lead from the scheme's type, in the query's variables, to the query's type and back
pub record IsPaired (scheme query : Scheme) (p : PairTree) (c : Converters) : Type 0 where
  pub renaming : Renaming
  pub least : IsLeast renaming (coordinates scheme.body) (coordinates query.body) p
  pub converters : AreConverters (type_beside renaming scheme query) query.body p c

-- an instance of a scheme, a pairing of it with the query's type, and converters: the instance is that of the least word,
-- the pairing is the least one of their coordinates with identical heads, and along it the converters lead from the
-- instance to the query's type and back
pub record IsMatched (names : List TypeName) (scheme query : Scheme) (i : Instance) (p : PairTree) (c : Converters) : Type 0 where
  pub first : IsFirst names scheme query.body i.word i.subst i.body
  pub least : IsLeastIdentical (coordinates i.body) (coordinates query.body) p
  pub converters : AreConverters i.body query.body p c

-- what a mode tells of a scheme that it finds: mode same nothing, mode iso a pairing and converters, and mode general an
-- instance besides
abbrev pub AreDetails : List TypeName → Mode → Scheme → Scheme → Details → Type 0
AreDetails names mode.Same scheme query details =
    (details.pairing ≡ None) × (details.instance ≡ None) × (details.conv ≡ None)
AreDetails names mode.Iso scheme query details =
    (p : PairTree) × (c : Converters) × (details.pairing ≡ Some p) × (details.instance ≡ None) × (details.conv ≡ Some c)
    × IsPaired scheme query p c
AreDetails names mode.General scheme query details =
    (p : PairTree) × (i : Instance) × (c : Converters) × (details.pairing ≡ Some p) × (details.instance ≡ Some i)
    × (details.conv ≡ Some c) × IsMatched names scheme query i p c

-- what the hit tells besides its member
abbrev pub details_of : Hit → Details
details_of hit = record { pairing = hit.pairing; instance = hit.instance; conv = hit.conv }

-- the hit has the details for the scheme of its member
abbrev pub HasDetails : Library → Mode → Scheme → Hit → Type 0
HasDetails library m query hit =
    (member : Member) → slice_get library.members hit.member ≡ Some member
    → AreDetails library.names m member.scheme query (details_of hit)

-- the numbers of the hits' members
abbrev pub numbers_of : List Hit → List ℕ
numbers_of hits = map (λ hit. hit.member) hits

-- the hits of a query are, in rising order of number, exactly the members that are due, each with its details
pub record AreHits (library : Library) (m : Mode) (query : Scheme) (hits : List Hit) : Type 0 where
  pub rising : AllPairs ◌<◌ (numbers_of hits)
  pub exact : (n : ℕ) → Contains (numbers_of hits) n ↔ IsDue library m query n
  pub details : All (HasDetails library m query) hits
