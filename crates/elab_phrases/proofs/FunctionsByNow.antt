-- The type functions that long identifiers stand for by now.
use Rattle.std.proofs.Common.{◌≡◌, ℕ, List, ◌∷◌, Ok, Result, Err, refl, sym, ap, ◌∙◌, subst}
use Rattle.std.specs.List.{All}
use Rattle.std.proofs.lemmas.List.Elements.{All-weaker}
use Rattle.type_core.specs.declared.type_fn.TypeFn.{TypeFn}
use Rattle.elab_env.specs.Names.{external_number}
use Rattle.elab_env.specs.Parameters.{name_function}
use Rattle.elab_env.specs.Realizations.{function_resolved, resolved}
use Rattle.elab_env.specs.Sound.{IsSound}
use Rattle.elab_env.specs.Table.{is_realized}
use Rattle.elab_rules.specs.declared.entry.UnitEntry.{UnitEntry}
use Rattle.elab_rules.specs.declared.found.Found.{Found}
use Rattle.elab_rules.specs.declared.progress.Progress.{Progress}
use Rattle.elab_rules.specs.declared.refusal.ElabRefusal.{ElabRefusal}
use Rattle.elab_rules.specs.declared.refusal.ElabRefusal.TheVariants.{Refused, NoMemory}
use Rattle.elab_rules.specs.declared.refusal.Why.TheVariants.{Unbound}
use Rattle.elab_rules.specs.declared.site.Site.{Site}
use Rattle.elab_rules.specs.Environments.{Environment}
use Rattle.elab_rules.specs.InitialEnvironment.{initial_environment}
use Rattle.sig_base.specs.LongIdentifiers.{parts}
use Rattle.elab_rules.specs.LookUps.{Elsewhere, Known, Missing, external_named, function_at, function_sought, sought}
use Rattle.elab_rules.specs.Outcome.{GivesWith, Outcome}
use Rattle.elab_types.specs.Outcome.{and_then, failed}
use Rattle.elab_rules.specs.Replacing.{environment_with}
use Rattle.elab_types.specs.Sources.{text_at}
use Rattle.elab_rules.specs.Standing.{IsSettled, IsSettledType, Mentions, Sees}
use Rattle.elab_rules.specs.States.{State}
use Rattle.elab_rules.specs.Views.{GivesNumber, body_at, found_of, site_at, site_of, state_of}
use Rattle.elab_types.specs.Views.{texts}
use Rattle.elab_phrases.proofs.EntriesByNow.{settled_is}
use Rattle.elab_rules.proofs.InitialSettled.{initial_settled}
use Rattle.elab_rules.proofs.AddedNames.{IsExternal, named_is, not_realized}
use Rattle.elab_phrases.proofs.SettledParts.{name_settled}
use Rattle.elab_phrases.proofs.SoughtByNow.{UnitStays, sought_by_now, sought_with}
use Rattle.elab_phrases.proofs.SoughtLevels.{sought_at}

module _ (p : Progress) (site : Site) (own : Environment) (sound : IsSound p.table) (sees : Sees p site own) where
  pub initial_stays : environment_with (resolved p.table.realizations) initial_environment ≡ initial_environment
  initial_stays = settled_is p.table initial_environment (initial_settled p.table sound)

  units_stay : All (UnitStays (resolved p.table.realizations) initial_stays) (site_of site).units
  units_stay =
      All-weaker (λ (unit : UnitEntry). IsSettled p.table unit.entries) (UnitStays (resolved p.table.realizations) initial_stays) (λ unit h. settled_is p.table unit.entries h) (site_of site).units sees.units

  -- what is sought by now is what was sought, with its types as they are by now
  pub sought_now : (ids : List (List ℕ))
      → sought ids (site_at p site) (body_at p own ∷ (site_at p site).around) ≡ sought_with (resolved p.table.realizations) initial_stays (sought ids (site_of site) (own ∷ (site_of site).around))
  sought_now ids =
      sought_at ids (site_at p site) (site_of site) (body_at p own ∷ (site_at p site).around) refl refl
      ∙ sought_by_now (resolved p.table.realizations) initial_stays ids (site_of site) (own ∷ (site_of site).around) units_stay

  module _ (token count : ℕ) (path : List ℕ) (s : State) (named : path ≡ text_at (texts site.source) token) where
    pub known_now : (found : Found) (f : TypeFn) → Known (found_of found) ≡ sought (parts path) (site_of site) (own ∷ (site_of site).around) → f ≡ function_resolved p.table.realizations found.entry.now.fun
        → function_at token count (site_at p site) (body_at p own) s ≡ Ok (f, s)
    known_now found f is meant =
        ap (λ x. function_sought x (text_at (texts site.source) token) count token s)
        (sought_now (parts (text_at (texts site.source) token))
        ∙ ap (sought_with (resolved p.table.realizations) initial_stays) (ap (λ t. sought (parts t) (site_of site) (own ∷ (site_of site).around)) (sym named) ∙ sym is))
        ∙ ap (λ (h : TypeFn). let r : Outcome (TypeFn × State) = Ok (h, s) in r) (sym meant)

    pub missing_now : Missing ≡ sought (parts path) (site_of site) (own ∷ (site_of site).around) → function_at token count (site_at p site) (body_at p own) s ≡ failed Unbound token
    missing_now is =
        ap (λ x. function_sought x (text_at (texts site.source) token) count token s)
        (sought_now (parts (text_at (texts site.source) token))
        ∙ ap (sought_with (resolved p.table.realizations) initial_stays) (ap (λ t. sought (parts t) (site_of site) (own ∷ (site_of site).around)) (sym named) ∙ sym is))

    pub elsewhere_now : Elsewhere ≡ sought (parts path) (site_of site) (own ∷ (site_of site).around)
        → function_at token count (site_at p site) (body_at p own) s ≡ and_then (external_named path count token (external_number path count s.names) s) (λ r. Ok (name_function r.0 count, r.1))
    elsewhere_now is =
        ap (λ x. function_sought x (text_at (texts site.source) token) count token s)
        (sought_now (parts (text_at (texts site.source) token))
        ∙ ap (sought_with (resolved p.table.realizations) initial_stays) (ap (λ t. sought (parts t) (site_of site) (own ∷ (site_of site).around)) (sym named) ∙ sym is))
        ∙ ap (λ t. and_then (external_named t count token (external_number t count s.names) s) (λ r. let o : Outcome (TypeFn × State) = Ok (name_function r.0 count, r.1) in o)) (sym named)

-- a name from elsewhere, applied to its parameters, is settled
pub external_settled : (p q : Progress) (arity n : ℕ) → IsSound p.table → Mentions p q → IsExternal arity n p.table.names q.table.names → IsSettledType q.table (name_function n arity).body
external_settled p q arity n sound mentions is =
    name_settled q.table n arity is.takes (ap (λ rs. is_realized rs n) mentions.realizations ∙ not_realized p.table.names p.table.realizations n sound.realizations is.undescribed)

-- ---- a name from elsewhere
number_fails : {A : Type 0} (o : Outcome (ℕ × State)) (next : ℕ × State → Outcome (A × State)) (refusal : ElabRefusal) (s : State) → GivesNumber o (Err refusal) s → GivesWith {A = A} (and_then o next) (Err refusal) s
number_fails o next (Refused why token) s gives = ap (λ q. and_then q next) gives
number_fails o next NoMemory s gives = tt

module _ (p : Progress) (site : Site) (own : Environment) (sound : IsSound p.table) (sees : Sees p site own) (token count arity : ℕ) (path : List ℕ) (named : path ≡ text_at (texts site.source) token) (counted : arity ≡ count)
    (is : Elsewhere ≡ sought (parts path) (site_of site) (own ∷ (site_of site).around)) where
  by_arity : function_at token count (site_at p site) (body_at p own) (state_of p) ≡ and_then (external_named path arity token (external_number path arity p.table.names) (state_of p)) (λ r. Ok (name_function r.0 arity, r.1))
  by_arity =
      elsewhere_now p site own sound sees token count path (state_of p) named is
      ∙ ap (λ k. and_then (external_named path k token (external_number path k p.table.names) (state_of p)) (λ r. let o : Outcome (TypeFn × State) = Ok (name_function r.0 k, r.1) in o)) (sym counted)

  pub elsewhere_fails : (refusal : ElabRefusal) (result : Result TypeFn ElabRefusal) (after : State) → result ≡ Err refusal → GivesNumber (external_named path arity token (external_number path arity p.table.names) (state_of p)) (Err refusal) after
      → GivesWith (function_at token count (site_at p site) (body_at p own) (state_of p)) result after
  elsewhere_fails refusal result after handed gives =
      subst (λ r. GivesWith (function_at token count (site_at p site) (body_at p own) (state_of p)) r after) (sym handed)
      (subst (λ o. GivesWith {A = TypeFn} o (Err refusal) after) (sym by_arity) (number_fails {A = TypeFn} (external_named path arity token (external_number path arity p.table.names) (state_of p)) _ refusal after gives))

  pub elsewhere_made : (n : ℕ) (f : TypeFn) (after : State) → external_named path arity token (external_number path arity p.table.names) (state_of p) ≡ Ok (n, after) → f ≡ name_function n arity
      → function_at token count (site_at p site) (body_at p own) (state_of p) ≡ Ok (f, after)
  elsewhere_made n f after ok made =
      by_arity
      ∙ ap (λ o. and_then o (λ r. let k : Outcome (TypeFn × State) = Ok (name_function r.0 arity, r.1) in k)) ok
      ∙ ap (λ (h : TypeFn). let r : Outcome (TypeFn × State) = Ok (h, after) in r) (sym made)

pub elsewhere_settled : (p q : Progress) (path : List ℕ) (arity token n : ℕ) (f : TypeFn) → IsSound p.table → Mentions p q → external_named path arity token (external_number path arity p.table.names) (state_of p) ≡ Ok (n, state_of q)
    → f ≡ name_function n arity → IsSettledType q.table f.body
elsewhere_settled p q path arity token n f sound mentions ok made =
    subst (λ (h : TypeFn). IsSettledType q.table h.body) (sym made) (external_settled p q arity n sound mentions (named_is path arity token n (state_of p) (state_of q) ok))
