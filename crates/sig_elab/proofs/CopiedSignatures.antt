-- A signature that was weighed, and then copied name by name.
use Rattle.std.proofs.Common.{◌≡◌, ℕ, List, [], ◌++◌, length, map, Ok, sym, ap, ◌∙◌, subst}
use Rattle.elab_env.specs.Sound.{IsSound}
use Rattle.elab_env.specs.Table.{Table}
use Rattle.elab_rules.specs.declared.entry.UnitEntry.{UnitEntry}
use Rattle.elab_rules.specs.declared.progress.Progress.{Progress}
use Rattle.elab_rules.specs.declared.site.Site.{Site}
use Rattle.elab_rules.specs.Copies.{copied, environment_weight, name_copied, names_at, own_names, renumbered, with_copies, with_numbers}
use Rattle.elab_rules.specs.Environments.{Environment}
use Rattle.elab_rules.specs.Replacing.{environment_with}
use Rattle.elab_rules.specs.Standing.{Begins, IsSettled, Mentions, StandsFrom}
use Rattle.elab_rules.specs.States.{State, weighed}
use Rattle.elab_rules.specs.Views.{body_at, site_at, state_of}
use Rattle.elab_rules.proofs.KeptNames.{Keeps, keeps_same}
use Rattle.elab_rules.proofs.Tracked.{AreAlike, alike_itself, tracked_alike}
use Rattle.elab_phrases.proofs.EntriesByNow.{settled_is}
use Rattle.elab_phrases.proofs.Stands.{stands_mentions, stands_with}
use Rattle.elab_phrases.proofs.Staying.{mentions_twice}
use Rattle.sig_elab.proofs.CopiedNames.{signature_copied}
use Rattle.elab_rules.proofs.CopiedArities.{AreWithin, own_within}
use Rattle.sig_elab.proofs.CopiedSettled.{copied_settled}

-- before, once it was weighed, and once its names were copied
module _ (p w q : Progress) (site : Site) (unit : UnitEntry) (own : List ℕ) (body : Environment) (table : w.table ≡ p.table) (mentions : Mentions w q) where
  module _ (sound : IsSound p.table) (numbers : own ≡ own_names unit (state_of p)) (settled : IsSettled p.table unit.entries)
      (copies : state_of q ≡ with_copies site.path.now (length unit.id) own (state_of w)) (numbered : body ≡ environment_with (with_numbers (renumbered own (length p.table.names))) unit.entries) where
    pub body_settled : IsSettled q.table body
    body_settled =
        let names : q.table.names ≡ p.table.names ++ map (name_copied site.path.now (length unit.id)) (names_at p.table.names own) =
        ap (λ (s : State). s.names) copies ∙ ap (λ (t : Table). t.names ++ map (name_copied site.path.now (length unit.id)) (names_at t.names own)) table in
        let realizations : q.table.realizations ≡ p.table.realizations = mentions.realizations ∙ ap (λ (t : Table). t.realizations) table in
        let within : AreWithin p.table.names own = subst (AreWithin p.table.names) (sym numbers) (own_within unit (state_of p)) in
        subst (IsSettled q.table) (sym numbered) (copied_settled p.table q.table own site.path.now (length unit.id) unit.entries sound.realizations names realizations within settled)

    pub copy_given : (token : ℕ) → weighed (environment_weight site.path.now unit.entries) token (state_of p) ≡ Ok (state_of w) → copied unit token (site_at p site) (state_of p) ≡ Ok (body_at q body, state_of q)
    copy_given token weighs =
        signature_copied unit token (site_at p site) (state_of p) own (state_of w) (state_of q) numbers weighs copies
        ∙ ap (λ env. Ok (env, state_of q)) (sym numbered ∙ sym (settled_is q.table body body_settled))

  module _ (firsts : w.firsts ≡ p.firsts) (external : w.external_weight ≡ p.external_weight) where
    pub copy_mentions : Mentions p q
    copy_mentions = mentions_twice p w q (record {
      names = subst (Keeps p.table.names) (ap (λ (t : Table). t.names) (sym table)) (keeps_same p.table.names);
      tracked = tracked_alike p w (subst (AreAlike p.table.names) (ap (λ (t : Table). t.names) (sym table)) (alike_itself p.table.names)) firsts external;
      realizations = ap (λ (t : Table). t.realizations) table;
    }) mentions

    pub copy_stands : Begins p site [] → IsSettled q.table body → StandsFrom (length p.table.names) q site body
    copy_stands begins settled =
        stands_with (length p.table.names) q site [] body (stands_mentions (length p.table.names) p q site [] copy_mentions begins) settled.over
