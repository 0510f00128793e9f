-- The datatype that a replication copies is by now what it was, with its types as they are by now.
use Rattle.std.proofs.Common.{◌≡◌, ℕ, List, ◌∷◌, Option, Some, None, sym, ap, ◌∙◌, subst}
use Rattle.std.specs.Option.{option_map}
use Rattle.type_core.specs.declared.names.TypeName.{TypeName}
use Rattle.elab_env.specs.Realizations.{function_resolved, resolved}
use Rattle.elab_env.specs.Sound.{IsSound}
use Rattle.elab_rules.specs.declared.entry.TypeEntry.{TypeEntry}
use Rattle.elab_rules.specs.declared.entry.ValueEntry.{ValueEntry}
use Rattle.elab_rules.specs.declared.found.Found.{Found}
use Rattle.elab_rules.specs.declared.progress.Progress.{Progress}
use Rattle.elab_rules.specs.declared.site.Site.{Site}
use Rattle.elab_rules.specs.Environments.{Environment, values_in}
use Rattle.elab_rules.specs.LongIdentifiers as paths
use Rattle.sig_base.specs.LongIdentifiers.{parts}
use Rattle.elab_rules.specs.LookUps.{datatype_at, datatype_sought, sought}
use Rattle.elab_rules.specs.Replications.{replica}
use Rattle.elab_types.specs.Sources.{text_at}
use Rattle.elab_rules.specs.Standing.{IsFoundOver, Sees, SeesOver}
use Rattle.elab_rules.specs.Views.{body_at, entries_at, found_of, found_seen, site_at, site_of}
use Rattle.elab_types.specs.Views.{texts}
use Rattle.elab_phrases.proofs.FunctionsByNow.{initial_stays, sought_now}
use Rattle.elab_rules.proofs.LookedUp.{found_with, values_in_with}
use Rattle.elab_phrases.proofs.SoughtByNow.{datatype_with}
use Rattle.elab_phrases.proofs.Stands.{sees_over}

-- what was found, by now
abbrev pub found_now : Progress → Found → paths.Found
found_now p found = found_with (resolved p.table.realizations) (found_of found)

module _ (p : Progress) (site : Site) (own : Environment) (sound : IsSound p.table) (sees : Sees p site own) where
  datatype_now : (token : ℕ) → datatype_at token (site_at p site) (body_at p own) ≡ option_map (found_with (resolved p.table.realizations)) (datatype_at token (site_of site) own)
  datatype_now token =
      let ids = parts (text_at (texts site.source) token) in
      ap datatype_sought (sought_now p site own sound sees ids)
      ∙ datatype_with (resolved p.table.realizations) (initial_stays p site own sound sees) (sought ids (site_of site) (own ∷ (site_of site).around))

  -- as it was sought from what is seen of the body
  module _ (seen : Environment) (whole : seen ≡ own) where
    by_now : (token : ℕ) (found : Option Found) → found_seen found ≡ datatype_at token (site_of site) seen
        → datatype_at token (site_at p site) (body_at p own) ≡ option_map (found_with (resolved p.table.realizations)) (found_seen found)
    by_now token found is = datatype_now token ∙ ap (option_map (found_with (resolved p.table.realizations))) (sym (is ∙ ap (datatype_at token (site_of site)) whole))

    pub datatype_found : (token : ℕ) (found : Found) → found_seen (Some found) ≡ datatype_at token (site_of site) seen → datatype_at token (site_at p site) (body_at p own) ≡ Some (found_now p found)
    datatype_found token found = by_now token (Some found)

    pub no_datatype : (token : ℕ) → found_seen None ≡ datatype_at token (site_of site) seen → datatype_at token (site_at p site) (body_at p own) ≡ None
    no_datatype token = by_now token None

    pub found_over : (found : Found) → ((names : List TypeName) → SeesOver names site seen → IsFoundOver names found) → IsFoundOver p.table.names found
    found_over found over = over p.table.names (subst (SeesOver p.table.names site) (sym whole) (sees_over p site own sound sees))

-- what a replication makes of it
module _ (p : Progress) (found : Found) (ids : List (List ℕ)) (given : ids ≡ found.entry.now.constructors) where
  pub is_replica : (id text : List ℕ) (entry : TypeEntry) → text ≡ id → entry.id ≡ text → entry.fun ≡ function_resolved p.table.realizations found.entry.now.fun → entry.constructors ≡ ids → entry ≡ replica id (found_now p found).entry
  is_replica id text entry named same meant copied =
      ap (λ i. let e : TypeEntry = record { id = i; fun = entry.fun; constructors = entry.constructors } in e) (same ∙ named)
      ∙ ap (λ f. let e : TypeEntry = record { id = id; fun = f; constructors = entry.constructors } in e) meant
      ∙ ap (λ cs. let e : TypeEntry = record { id = id; fun = function_resolved p.table.realizations found.entry.now.fun; constructors = cs } in e) (copied ∙ given)

  pub values_now : (values : List ValueEntry) → values ≡ values_in ids (entries_at p.table found.env.entries.now) → values ≡ (found_now p found).constructors
  values_now values are =
      are
      ∙ ap (λ (is : List (List ℕ)). values_in is (entries_at p.table found.env.entries.now)) given
      ∙ values_in_with (resolved p.table.realizations) found.entry.now.constructors found.env.entries.now
