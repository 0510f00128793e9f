-- Where this was read of the files, one outcome is due.
use Rattle.std.proofs.Common.{◌≡◌, ℕ, Bool, true, false, List, length, refl, ap, sym, ◌∙◌, subst}
use Rattle.std.specs.Prelude.{Result, Ok, Err}
use Rattle.type_core.specs.declared.library.Library.{Library}
use Rattle.type_core.specs.declared.ty.Scheme.{Scheme}
use Rattle.elab_types.specs.Stages.{Flaw}
use Rattle.query_parser.specs.declared.refusal.QueryWhy.{QueryWhy}
use Rattle.query_parser.specs.Queries.{Asks}
use Rattle.query_cli.specs.declared.command.Command.{Command}
use Rattle.query_cli.specs.declared.command.Command.TheVariants as command
use Rattle.search_core.specs.declared.answer.Hit.{Hit}
use Rattle.search_core.specs.declared.answer.Mode.{Mode}
use Rattle.lib_load.specs.declared.refusals.LoadRefusal.{LoadRefusal}
use Rattle.lib_load.specs.Given.{Given}
use Rattle.lib_load.specs.Loading.{Loads}
use Rattle.search_core.specs.Search.{AreHits}
use Rattle.lib_gen.specs.Summary.{IsSummary}
use Rattle.lib_load.specs.Indexes.{LoadsIndex}
use Rattle.isosearch.specs.Asked.{LoadsFor, LoadsFrom, mode_of, paths_of, reads_index}
use Rattle.isosearch.specs.Lines.{query_name, query_text, refusal_line}
use Rattle.isosearch.specs.Outcome.{Answers, Due, Finding, Outcome, answer, bad_query, found, printed, refusal, refused, refused_files, searched}

-- one thing comes of what was read
abbrev pub OneLoading : Type 0
OneLoading = (count : ℕ) (givens : List Given) (a b : Result Library LoadRefusal) → Loads count a givens → Loads count b givens → a ≡ b

-- one thing comes of what was read of an index
abbrev pub OneIndexing : Type 0
OneIndexing = (givens : List Given) (a b : Result Library LoadRefusal) → LoadsIndex a givens → LoadsIndex b givens → a ≡ b

-- a number has one summary
abbrev pub OneSummary : Type 0
OneSummary = (n : ℕ) (a b : List ℕ) → IsSummary n a → IsSummary n b → a ≡ b

-- one thing comes of a query over a library
abbrev pub OneAsking : Type 0
OneAsking = (library : Library) (query : List ℕ) (a b : Result Scheme (Flaw QueryWhy)) → Asks library query a → Asks library query b → a ≡ b

-- a query has one list of hits
abbrev pub OneAnswer : Type 0
OneAnswer = (library : Library) (mode : Mode) (scheme : Scheme) (hits others : List Hit) → AreHits library mode scheme hits → AreHits library mode scheme others → hits ≡ others

-- what an answer holds is one, and it isn't both of the two
pub same_ok : {A E : Type 0} (x y : A) (a b : Result A E) → a ≡ Ok x → b ≡ Ok y → a ≡ b → x ≡ y
same_ok x y a b is also same = cc

same_err : {A E : Type 0} (x y : E) (a b : Result A E) → a ≡ Err x → b ≡ Err y → a ≡ b → x ≡ y
same_err x y a b is also same = cc

pub ok_err_not : {A E : Type 0} (x : A) (y : E) (a b : Result A E) → a ≡ Ok x → b ≡ Err y → a ≡ b → ⊥
ok_err_not x y a b is also same = cc

abbrev flaw : QueryWhy → ℕ → Flaw QueryWhy
flaw why place = record { why = why; place = place }

module _ (one_loading : OneLoading) (one_index : OneIndexing) (one_asking : OneAsking) (one_hits : OneAnswer) (one_summary : OneSummary) where
  -- of a search one outcome is due
  one_finding : (library : Library) (mode : Mode) (query : List ℕ) (names : Bool) (a b : Outcome) → Finding library mode query names a → Finding library mode query names b → a ≡ b
  one_finding library mode query names a b (bad_query {why = v} {place = j} x) (bad_query {why = w} {place = k} y) =
      let same : flaw v j ≡ flaw w k = same_err (flaw v j) (flaw w k) _ _ refl refl (one_asking library query _ _ x y) in
      ap (λ f. refused 4 (refusal_line query_name query f.place (query_text f.why))) same
  one_finding library mode query names a b (bad_query {why = v} {place = j} x) (found {scheme = t} y are) = absurd (ok_err_not t (flaw v j) _ _ refl refl (one_asking library query _ _ y x))
  one_finding library mode query names a b (found {scheme = s} x are) (bad_query {why = w} {place = k} y) = absurd (ok_err_not s (flaw w k) _ _ refl refl (one_asking library query _ _ x y))
  one_finding library mode query names a b (found {scheme = s} {hits = hits} x are) (found {scheme = t} {hits = others} y also) =
      let same : s ≡ t = same_ok s t _ _ refl refl (one_asking library query _ _ x y) in
      ap (λ hits. searched library hits names) (one_hits library mode s hits others are (subst (λ r. AreHits library mode r others) (sym same) also))

  -- over a library one outcome is due
  one_answer : (library : Library) (asked : Command) (a b : Outcome) → Answers library asked a → Answers library asked b → a ≡ b
  one_answer library (command.Listing files from_index) a b is also = is ∙ sym also
  one_answer library (command.Find find query files names from_index) a b finds also = one_finding library (mode_of find) query names a b finds also
  one_answer library (command.Index path files) a b is also = is ∙ sym also
  one_answer library (command.Gen n) a b (text, sums, is) (other, also_sums, also) = is ∙ ap (printed 0) (one_summary n text other sums also_sums) ∙ sym also

  -- one thing comes of what a command reads
  one_from : (from_index : Bool) (count : ℕ) (givens : List Given) (a b : Result Library LoadRefusal) → LoadsFrom from_index count a givens → LoadsFrom from_index count b givens → a ≡ b
  one_from true count givens a b x y = one_index givens a b x y
  one_from false count givens a b x y = one_loading count givens a b x y

  one_for : (asked : Command) (givens : List Given) (a b : Result Library LoadRefusal) → LoadsFor asked a givens → LoadsFor asked b givens → a ≡ b
  one_for asked givens a b x y = one_from (reads_index asked) (length (paths_of asked)) givens a b x y

  -- where this was read, one outcome is due
  pub due_is_one : (asked : Command) (givens : List Given) (a b : Outcome) → Due asked givens a → Due asked givens b → a ≡ b
  due_is_one asked givens a b (refusal r x) (refusal s y) = ap (refused_files (paths_of asked)) (same_err r s _ _ refl refl (one_for asked givens _ _ x y))
  due_is_one asked givens a b (refusal r x) (answer m y due) = absurd (ok_err_not m r _ _ refl refl (one_for asked givens _ _ y x))
  due_is_one asked givens a b (answer l x due) (refusal s y) = absurd (ok_err_not l s _ _ refl refl (one_for asked givens _ _ x y))
  due_is_one asked givens a b (answer l x due) (answer m y also) =
      let same : l ≡ m = same_ok l m _ _ refl refl (one_for asked givens _ _ x y) in
      one_answer l asked a b due (subst (λ library. Answers library asked b) (sym same) also)
