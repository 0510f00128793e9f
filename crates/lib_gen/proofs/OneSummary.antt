-- There is one summary for a number.
use Rattle.std.proofs.Common.{◌≡◌, ℕ, ◌+◌, List, [], ◌∷◌, Some, slice_get, length, refl, sym, ap, ap₂, ◌∙◌, subst}
use Rattle.std.specs.Prelude.{Result, Ok}
use Rattle.type_core.specs.declared.library.Library.{Library}
use Rattle.type_core.specs.declared.member.Member.{Member}
use Rattle.type_core.specs.declared.ty.Scheme.{Scheme}
use Rattle.lib_load.specs.declared.refusals.LoadRefusal.{LoadRefusal}
use Rattle.lib_load.specs.Given.{Given, text}
use Rattle.lib_load.specs.Loading.{Loads}
use Rattle.search_core.specs.declared.answer.Hit.{Hit}
use Rattle.search_core.specs.declared.answer.Mode.{Mode}
use Rattle.search_core.specs.declared.answer.Mode.TheVariants as mode
use Rattle.search_core.specs.Search.{AreHits}
use Rattle.lib_gen.specs.declared.totals.Totals.{Totals}
use Rattle.lib_gen.specs.Generator.{generated}
use Rattle.lib_gen.specs.Summary.{AreTotals, HasHits, IsSummary, SumsTo, none, passed, asked, summary_line}

-- one thing comes of what was read of files
abbrev pub OneOutcome : Type 0
OneOutcome = (count : ℕ) (givens : List Given) (outcome other : Result Library LoadRefusal) → Loads count outcome givens
    → Loads count other givens → outcome ≡ other

-- the hits of a query are one list
abbrev pub OneAnswer : Type 0
OneAnswer = (library : Library) (m : Mode) (query : Scheme) (hits others : List Hit) → AreHits library m query hits
    → AreHits library m query others → hits ≡ others

-- what stands at a place is one
same_some : (x y : Member) (members : List Member) (n : ℕ) → slice_get members n ≡ Some x → slice_get members n ≡ Some y → x ≡ y
same_some x y members n is also = cc

same_library : (x y : Library) (a b : Result Library LoadRefusal) → a ≡ Ok x → b ≡ Ok y → a ≡ b → x ≡ y
same_library x y a b is also same = cc

module _ (one_outcome : OneOutcome) (one_answer : OneAnswer) where
  -- a query has one number of hits
  one_count : (library : Library) (m : Mode) (query other : Scheme) (a b : ℕ) → query ≡ other → HasHits library m query a
      → HasHits library m other b → a ≡ b
  one_count library m query other a b same x y =
      sym x.counted
      ∙ ap length (one_answer library m query x.hits y.hits x.all (subst (λ s. AreHits library m s y.hits) (sym same) y.all))
      ∙ y.counted

  -- the queries have one sum of hits
  one_sum : (library : Library) (m : Mode) (n a b : ℕ) → SumsTo library m n a → SumsTo library m n b → a ≡ b
  one_sum library m n a b none none = refl
  one_sum library m n a b (passed {n = k} other x) (passed also y) = one_sum library m k _ _ x y
  one_sum library m n a b (passed other x) (asked is there hits y) = absurd (other is)
  one_sum library m n a b (asked is there hits x) (passed other y) = absurd (other is)
  one_sum library m n a b (asked {n = k} {member = member} is there hits x) (asked {member = same} also here others y) =
      ap₂ ◌+◌ (one_sum library m k _ _ x y)
      (one_count library m member.scheme same.scheme _ _
      (ap (λ found. found.scheme) (same_some member same library.members k there here)) hits others)

  -- a library has one line of totals
  one_line : (library : Library) (n : ℕ) (a b : Totals) → AreTotals library n a → AreTotals library n b
      → summary_line n a ≡ summary_line n b
  one_line library n a b x y =
      let queries = x.queries ∙ sym y.queries in
      let iso = one_sum library mode.Iso n a.iso b.iso x.iso y.iso in
      let general = one_sum library mode.General n a.general b.general x.general y.general in
      cc

  pub one_summary : (n : ℕ) (a b : List ℕ) → IsSummary n a → IsSummary n b → a ≡ b
  one_summary n a b x y =
      let same = same_library x.library y.library _ _ refl refl
      (one_outcome 1 (text (generated n) ∷ []) (Ok x.library) (Ok y.library) x.loaded y.loaded) in
      x.line
      ∙ one_line x.library n x.totals y.totals x.sums (subst (λ library. AreTotals library n y.totals) (sym same) y.sums)
      ∙ sym y.line
