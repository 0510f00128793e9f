-- The summary of the library that a generated text gives, and of searches of it.
use Rattle.std.specs.Prelude.{◌≡◌, ◌≢◌, ℕ, zero, suc, ◌+◌, ◌%◌, nat_eq, if◌then◌else◌, List, [], ◌∷◌, ◌++◌, codes, decimal, length, slice_get, Some, Ok}
use Rattle.type_core.specs.declared.library.Library.{Library}
use Rattle.type_core.specs.declared.member.Member.{Member}
use Rattle.type_core.specs.declared.ty.Scheme.{Scheme}
use Rattle.lib_load.specs.Given.{text}
use Rattle.lib_load.specs.Loading.{Loads}
use Rattle.search_core.specs.declared.answer.Hit.{Hit}
use Rattle.search_core.specs.declared.answer.Mode.{Mode}
use Rattle.search_core.specs.declared.answer.Mode.TheVariants as mode
use Rattle.search_core.specs.Search.{AreHits}
use Rattle.lib_gen.specs.declared.totals.Totals.{Totals}
use Rattle.lib_gen.specs.Generator.{generated}

-- how many of the numbers below n are 13 modulo 100
abbrev pub query_count : ℕ → ℕ
query_count zero = 0
query_count (suc n) = query_count n + (if nat_eq (n % 100) 13 then 1 else 0)

-- the query of this scheme has so many hits in the library
pub record HasHits (library : Library) (m : Mode) (query : Scheme) (count : ℕ) : Type 0 where
  pub hits : List Hit
  pub all : AreHits library m query hits
  pub counted : length hits ≡ count

-- over the numbers below n that are 13 modulo 100, the hits of the queries of the schemes of the members of these numbers
-- are so many in all
pub data SumsTo (library : Library) (m : Mode) : ℕ → ℕ → Type 0 where
  none : SumsTo library m 0 0
  passed : {n total : ℕ} → n % 100 ≢ 13 → SumsTo library m n total → SumsTo library m (suc n) total
  asked : {n total count : ℕ} {member : Member} → n % 100 ≡ 13 → slice_get library.members n ≡ Some member
      → HasHits library m member.scheme count → SumsTo library m n total → SumsTo library m (suc n) (total + count)

-- the numbers of the queries below n, and of all their hits in the two modes
pub record AreTotals (library : Library) (n : ℕ) (totals : Totals) : Type 0 where
  pub queries : totals.queries ≡ query_count n
  pub iso : SumsTo library mode.Iso n totals.iso
  pub general : SumsTo library mode.General n totals.general

-- the line of a summary
abbrev pub summary_line : ℕ → Totals → List ℕ
summary_line n totals =
    codes "members " ++ decimal n ++ codes ", queries " ++ decimal totals.queries ++ codes ", iso " ++ decimal totals.iso
    ++ codes ", general " ++ decimal totals.general ++ codes "\n"

-- the summary for n: a library is what comes of the signature of n values alone, and the line tells its totals
pub record IsSummary (n : ℕ) (summary : List ℕ) : Type 0 where
  pub library : Library
  pub totals : Totals
  pub loaded : Loads 1 (Ok library) (text (generated n) ∷ [])
  pub sums : AreTotals library n totals
  pub line : summary ≡ summary_line n totals
