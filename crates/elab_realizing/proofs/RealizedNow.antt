-- A name that is realized: entries, the state and what stands around by now.
use Rattle.std.proofs.Common.{◌≡◌, ℕ, ◌≤◌, List, [], ◌∷◌, ◌++◌, length, map, slice_get, IfOk, OnOk, Result, Ok, Err, sym, ap, ap₂, ◌∙◌, subst}
use Rattle.std.specs.List.{AllByRecursion}
use Rattle.std.proofs.lemmas.List.Elements.{All-cons, All-nil}
use Rattle.elab_env.specs.declared.realization.Realization.{Realization}
use Rattle.elab_env.specs.Realizations.{resolved}
use Rattle.elab_env.specs.Sound.{AreRealizations, IsRealization, IsSound}
use Rattle.elab_env.specs.Table.{is_realized}
use Rattle.elab_env.proofs.Kept.{described_within}
use Rattle.elab_rules.specs.declared.body.Body.{Body}
use Rattle.elab_rules.specs.declared.progress.Progress.{Progress}
use Rattle.elab_rules.specs.declared.refusal.ElabRefusal.{ElabRefusal}
use Rattle.elab_rules.specs.declared.site.Site.{Site}
use Rattle.elab_rules.specs.Copies.{numbers_from}
use Rattle.elab_rules.specs.Environments.{Environment}
use Rattle.elab_rules.specs.Replacing.{environment_with, replaced_in}
use Rattle.elab_rules.specs.Standing.{AreOver, Grew, Mentions, StandsFrom}
use Rattle.elab_rules.specs.Views.{body_at, state_of}
use Rattle.elab_rules.specs.Wheres.{realized_away}
use Rattle.elab_phrases.proofs.EntriesByNow.{entries_more}
use Rattle.elab_rules.proofs.Gone.{flags_set}
use Rattle.elab_realizing.proofs.JoinedNames.{same_state}
use Rattle.elab_phrases.proofs.Stands.{stands_later, stands_with}
use Rattle.elab_phrases.proofs.Staying.{grew_twice, keeps_itself, mentions_grew}
use Rattle.elab_rules.proofs.Tracked.{AreAlike, alike_itself, tracked_alike}

-- all but the last of them, and the last
before_last : {A : Type 0} (P : A → Type 0) (xs : List A) (x : A) → AllByRecursion P (xs ++ x ∷ []) → AllByRecursion P xs × P x
before_last P [] x all = (tt, all.0)
before_last P (y ∷ xs) x all = let q = before_last P xs x all.1 in ((all.0, q.0), q.1)

-- the table has one realization more, and the same names
pub record IsRealized (r : Realization) (p q : Progress) : Type 0 where
  pub sound : IsSound q.table
  pub names : q.table.names ≡ p.table.names
  pub realizations : q.table.realizations ≡ p.table.realizations ++ r ∷ []
  pub weight : q.weight ≡ p.weight

module _ (r : Realization) (p q : Progress) (h : IsRealized r p q) where
  realizations_are : AreRealizations p.table.names p.table.realizations × IsRealization p.table.names r
  realizations_are = before_last (IsRealization p.table.names) p.table.realizations r
      (subst (λ rs. AreRealizations p.table.names rs) h.realizations (subst (λ names. AreRealizations names q.table.realizations) h.names h.sound.realizations))

  pub entries_realized : (env : Environment) → AreOver p.table.names env → body_at q env ≡ replaced_in r (body_at p env)
  entries_realized env over =
      ap (λ rs. environment_with (resolved rs) env) h.realizations
      ∙ entries_more p.table.names p.table.realizations r env realizations_are.0 realizations_are.1 over

  pub state_realized : state_of q ≡ realized_away r.name.0 (state_of p)
  state_realized =
      same_state (state_of q) (realized_away r.name.0 (state_of p)) h.names
      (ap₂ (λ rs names. map (is_realized rs) (numbers_from 0 (length names))) h.realizations h.names
      ∙ flags_set p.table.realizations r (length p.table.names) (described_within p.table.names r.name.0 realizations_are.1.described))
      h.weight

-- ---- what stands around
-- no name before the base is realized
pub grew_realized : (base : ℕ) (r : Realization) (p q : Progress) → base ≤ r.name.0 → q.table.names ≡ p.table.names → q.table.realizations ≡ p.table.realizations ++ r ∷ []
    → q.firsts ≡ p.firsts → q.external_weight ≡ p.external_weight → Grew base p q
grew_realized base r p q later names realizations firsts external = record {
  names = λ n name at. let k = keeps_itself p n name at in (k.0, (ap (λ xs. slice_get xs n) names ∙ k.1.0, k.1.1));
  tracked = tracked_alike p q (subst (AreAlike p.table.names) (sym names) (alike_itself p.table.names)) firsts external;
  more = r ∷ [];
  realizations = realizations;
  later = All-cons (λ (s : Realization). base ≤ s.name.0) r [] later (All-nil (λ (s : Realization). base ≤ s.name.0));
}

-- what was described stands as before, where the answer is a body
module _ (base : ℕ) (r : Realization) (p q t : Progress) (site : Site) (own : Environment) (mentions : Mentions p q) (later : base ≤ r.name.0) where
  grew_after : t.table.names ≡ q.table.names → t.table.realizations ≡ q.table.realizations ++ r ∷ [] → t.firsts ≡ q.firsts → t.external_weight ≡ q.external_weight → Grew base p t
  grew_after names realizations firsts external = grew_twice base p q t (mentions_grew base p q mentions) (grew_realized base r q t later names realizations firsts external)

  pub all_grew : (result : Result Body ElabRefusal) → OnOk result (t.table.names ≡ q.table.names) → OnOk result (t.table.realizations ≡ q.table.realizations ++ r ∷ []) → OnOk result (t.firsts ≡ q.firsts) → OnOk result (t.external_weight ≡ q.external_weight) → OnOk result (Grew base p t)
  all_grew (Ok body) names realizations firsts external = grew_after names realizations firsts external
  all_grew (Err e) names realizations firsts external = tt

  pub all_stand : (result : Result Body ElabRefusal) → StandsFrom base p site own → IfOk result (λ body. AreOver t.table.names body.entries.items) → OnOk result (Grew base p t) → IfOk result (λ body. StandsFrom base t site body.entries.items)
  all_stand (Ok body) stands over grew = stands_with base t site own body.entries.items (stands_later base p t grew site own stands) over
  all_stand (Err e) stands over grew = tt
