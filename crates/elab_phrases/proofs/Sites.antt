-- Sites and bodies by now, as the table of names changes.
use Rattle.std.proofs.Common.{◌≡◌, ℕ, List, [], ◌∷◌, map, take, refl, ap, ap₂, ◌∙◌}
use Rattle.std.specs.List.{All}
use Rattle.std.proofs.lemmas.List.Elements.{All-head, All-tail}
use Rattle.elab_env.specs.declared.realization.Realization.{Realization}
use Rattle.elab_env.specs.Realizations.{resolved}
use Rattle.elab_env.specs.Sound.{IsSound}
use Rattle.elab_rules.specs.declared.place.Place.{Place}
use Rattle.elab_rules.specs.declared.progress.Progress.{Progress}
use Rattle.elab_rules.specs.declared.site.Site.{Site}
use Rattle.elab_rules.specs.Bodies as bodies
use Rattle.elab_rules.specs.Environments.{Environment}
use Rattle.elab_rules.specs.Replacing.{environment_with}
use Rattle.elab_rules.specs.Standing.{AreOver, Grew, IsEarly, Mentions, StandsFrom}
use Rattle.elab_rules.specs.Types as spec
use Rattle.elab_rules.specs.Views.{body_at, place_by_now, site_at, site_of, variables_of}
use Rattle.elab_rules.proofs.LaterNames.{stays}

-- ---- by the realizations
abbrev by_realizations : Site → List Realization → bodies.Site
by_realizations site rs = record {
  texts = (site_of site).texts;
  path = (site_of site).path;
  around = map (environment_with (resolved rs)) (site_of site).around;
  base = (site_of site).base;
  units = (site_of site).units;
  declaring = (site_of site).declaring;
}

-- names that are mentioned change no site, no body and no place
pub site_mentions : (p q : Progress) (site : Site) → Mentions p q → site_at q site ≡ site_at p site
site_mentions p q site h = ap (by_realizations site) h.realizations

pub body_mentions : (p q : Progress) (env : Environment) → Mentions p q → body_at q env ≡ body_at p env
body_mentions p q env h = ap (λ rs. environment_with (resolved rs) env) h.realizations

pub place_mentions : (p q : Progress) (place : Place) → Mentions p q → place_by_now q place ≡ place_by_now p place
place_mentions p q place h =
    ap (λ rs. let at : spec.Place = record { site = by_realizations place.site rs; own = environment_with (resolved rs) place.own.entries.now; first = place.first; variables = variables_of place.variables } in at) h.realizations

-- ---- later names that are realized
-- a body over early names is what it was
pub body_stays : (base : ℕ) (p q : Progress) (env : Environment) → IsSound p.table → Grew base p q → All (IsEarly base p.table.names) p.table.realizations → AreOver (take base p.table.names) env → body_at q env ≡ body_at p env
body_stays base p q env sound grew early over =
    ap (λ rs. environment_with (resolved rs) env) grew.realizations
    ∙ stays base p.table.names p.table.realizations grew.more env sound.realizations early grew.later over

bodies_stay : (base : ℕ) (p q : Progress) (envs : List Environment) → IsSound p.table → Grew base p q → All (IsEarly base p.table.names) p.table.realizations → All (AreOver (take base p.table.names)) envs → map (body_at q) envs ≡ map (body_at p) envs
bodies_stay base p q [] sound grew early over = refl
bodies_stay base p q (env ∷ envs) sound grew early over =
    ap₂ ◌∷◌ (body_stays base p q env sound grew early (All-head (AreOver (take base p.table.names)) env envs over))
    (bodies_stay base p q envs sound grew early (All-tail (AreOver (take base p.table.names)) env envs over))

-- what stands around is what it was
pub site_stays : (base : ℕ) (p q : Progress) (site : Site) (own : Environment) → IsSound p.table → Grew base p q → StandsFrom base p site own → site_at q site ≡ site_at p site
site_stays base p q site own sound grew h =
    ap (λ around. let at : bodies.Site = record {
      texts = (site_of site).texts;
      path = (site_of site).path;
      around = around;
      base = (site_of site).base;
      units = (site_of site).units;
      declaring = (site_of site).declaring;
    } in at) (bodies_stay base p q (site_of site).around sound grew h.early h.around)
