-- The totals with one more number.
use Rattle.std.proofs.Common.{◌≡◌, ◌≢◌, ℕ, suc, ◌+◌, ◌%◌, nat_eq, if◌then◌else◌, List, [], ◌∷◌, ◌++◌, Some, slice_get, refl, sym, ap, ◌∙◌, subst, arith}
use Rattle.std.specs.List.{All}
use Rattle.std.proofs.lemmas.List.Elements.{All-nil, All-push}
use Rattle.type_core.specs.declared.library.Library.{Library}
use Rattle.type_core.specs.declared.member.Member.{Member}
use Rattle.search_core.specs.declared.answer.Mode.TheVariants as mode
use Rattle.lib_gen.specs.declared.totals.Searched.{Searched}
use Rattle.lib_gen.specs.declared.totals.Totals.{Totals}
use Rattle.lib_gen.specs.declared.classes.Classes.{Classes}
use Rattle.lib_gen.specs.Classes.{AreClasses}
use Rattle.lib_gen.specs.Counts.{AreCounts, IsCounted}
use Rattle.lib_gen.specs.Summary.{AreTotals, SumsTo, query_count, none, passed, asked}
use Rattle.lib_gen.proofs.Numbered.{class_tells, same_at}

more : (n : ℕ) → suc n ≡ n + 1
more n = omega arith

-- what a number adds to the queries
one_asked : (n now k : ℕ) → k ≡ 13 → now ≡ n + 1 → now ≡ n + (if nat_eq k 13 then 1 else 0)
one_asked n now k is now-is = grind arith

none_asked : (n now k : ℕ) → k ≢ 13 → now ≡ n → now ≡ n + (if nat_eq k 13 then 1 else 0)
none_asked n now k not now-is = grind arith

module _ (library : Library) where
  pub no_totals : AreTotals library 0 (record { queries = 0; iso = 0; general = 0 })
  no_totals = record { queries = refl; iso = none; general = none }

  -- a number that isn't asked for changes nothing
  pub passed_over : (n : ℕ) (totals : Totals) → n % 100 ≢ 13 → AreTotals library n totals → AreTotals library (n + 1) totals
  passed_over n totals not sums = subst (λ k. AreTotals library k totals) (more n) (record {
    queries = none_asked (query_count n) totals.queries (n % 100) not sums.queries;
    iso = passed not sums.iso;
    general = passed not sums.general;
  })

  module _ (classes : Classes) where
    pub none_searched : (before : List Searched) → before ≡ [] → All (IsCounted library classes) before
    none_searched before is = subst (All (IsCounted library classes)) (sym is) (All-nil (IsCounted library classes))

    pub one_searched : (before now : List Searched) (searched : Searched) → now ≡ before ++ searched ∷ []
        → All (IsCounted library classes) before → IsCounted library classes searched → All (IsCounted library classes) now
    one_searched before now searched is all one =
        subst (All (IsCounted library classes)) (sym is) (All-push (IsCounted library classes) before searched all one)

    -- a number that is asked for adds what was counted for its class
    pub with_counted : AreClasses library classes → (n class : ℕ) (totals now : Totals) (searched : Searched) → n % 100 ≡ 13
        → slice_get classes.numbers n ≡ Some class → AreTotals library n totals → IsCounted library classes searched
        → searched.class ≡ class → now.queries ≡ totals.queries + 1 → now.iso ≡ totals.iso + searched.counts.iso
        → now.general ≡ totals.general + searched.counts.general → AreTotals library (n + 1) now
    with_counted are n class totals now searched is listed sums counted at queries iso general =
        let told = class_tells library classes n class are listed in
        let found = subst (λ k. slice_get classes.schemes.members k ≡ Some counted.member) at counted.there in
        let same : counted.member.scheme ≡ told.0.scheme =
        ap (λ (member : Member). member.scheme)
        (same_at classes.schemes.members class counted.member told.2.member found told.2.there) ∙ told.2.same in
        let counts = subst (λ scheme. AreCounts library scheme searched.counts) same counted.counts in
        subst (λ k. AreTotals library k now) (more n) (record {
          queries = one_asked (query_count n) now.queries (n % 100) is (queries ∙ ap (λ k. k + 1) sums.queries);
          iso = subst (SumsTo library mode.Iso (suc n)) (sym iso) (asked is told.1 counts.iso sums.iso);
          general = subst (SumsTo library mode.General (suc n)) (sym general) (asked is told.1 counts.general sums.general);
        })
