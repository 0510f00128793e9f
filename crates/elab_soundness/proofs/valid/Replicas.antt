-- Replications of datatypes keep a body sound.
use Rattle.std.proofs.Common.{◌≡◌, ℕ, List, [], ◌∷◌, Ok}
use Rattle.std.specs.List.{All}
use Rattle.std.proofs.lemmas.List.Elements.{All-weaker}
use Rattle.elab_rules.specs.declared.entry.ValueEntry.{ValueEntry}
use Rattle.elab_rules.specs.declared.refusal.Why.TheVariants.{Unbound}
use Rattle.elab_rules.specs.Bodies.{Described, Site, added, in_turn}
use Rattle.elab_rules.specs.Environments.{Environment, is_new_type, is_new_value, the_type, the_value}
use Rattle.elab_rules.specs.LongIdentifiers.{Found}
use Rattle.elab_rules.specs.LookUps.{datatype_at}
use Rattle.elab_types.specs.Outcome.{and_then}
use Rattle.elab_rules.specs.Replications.{replica, replica_described, value_copied}
use Rattle.elab_soundness.specs.Soundness.{IsSoundValue, known_by}
use Rattle.elab_types.specs.Sources.{text_at}
use Rattle.elab_soundness.specs.Spelling.{NamesType}
use Rattle.elab_rules.specs.States.{State}
use Rattle.elab_soundness.proofs.valid.Body.{IsSoundBody, IsSoundSite, body_with, new_type, new_value, one_type, one_value}
use Rattle.elab_types.proofs.Outcomes.{checked_parts, required_parts, then_parts}
use Rattle.elab_soundness.proofs.valid.Outcomes.{kept_in_turn}
use Rattle.elab_soundness.proofs.valid.Sought.{datatype_usable}
use Rattle.elab_soundness.proofs.valid.Values.{IsKept, entry_added, kept_itself, kept_then, stand}
use Rattle.elab_soundness.proofs.valid.Weaker.{value_still}

module _ (tops : List (List ℕ)) (base : State) (site : Site) (seen : IsSoundSite tops base site) where
  abbrev Body : Environment → State → Type 0
  Body = IsSoundBody tops base site.path

  abbrev Kept : State → Environment × State → Type 0
  Kept = IsKept tops base site seen

  value_kept : (token : ℕ) (value : ValueEntry) (own : Environment) (s : State) (r : Environment × State) → IsSoundValue (known_by s) value → Body own s → value_copied token value site own s ≡ Ok r → Kept s r
  value_kept token value own s r sound h e =
      let a = checked_parts (is_new_value value.id own) _ token (added site (the_value value) token own s) r e in
      entry_added tops base site seen (the_value value) token own s r (body_with tops base site.path own (the_value value ∷ []) s h (one_value (known_by s) value sound) (new_value value own a.0)) a.1

  values_kept : (token : ℕ) (values : List ValueEntry) (own : Environment) (s : State) (r : Environment × State) → All (IsSoundValue (known_by s)) values → Body own s → in_turn (value_copied token) values site own s ≡ Ok r → Kept s r
  values_kept token values own s r sound h e =
      kept_in_turn (IsSoundValue (known_by s)) (λ env t. Kept s (env, t)) (value_copied token) site
      (λ value env t q k kept f. kept_then tops base site seen s t q kept.grows (value_kept token value env t q (value_still (known_by s) (known_by t) (kept.grows).known value k) kept.body f))
      values own s r sound (kept_itself tops base site seen own s h) e

  pub replica_kept : (id other : ℕ) (own : Environment) (s : State) (r : Environment × State) → NamesType site.texts id → Body own s → replica_described id other site own s ≡ Ok r → Kept s r
  replica_kept id other own s r spelled h e =
      let text = text_at site.texts id in
      let last : Found → Environment × State → Described = λ found q. in_turn (value_copied other) found.constructors site q.0 q.1 in
      let rest : Found → Described = λ found. and_then (added site (the_type (replica text found.entry)) other own s) (last found) in
      let a = checked_parts (is_new_type text own) _ id _ r e in
      let c = required_parts (datatype_at other site own) Unbound other rest r a.1 in
      let found = datatype_usable (known_by s) site own (stand tops base site seen own s h).sees other c.0 c.1 in
      let d = then_parts (added site (the_type (replica text c.0.entry)) other own s) (last c.0) r c.2 in
      let type = replica text c.0.entry in
      let first = entry_added tops base site seen (the_type type) other own s d.0
      (body_with tops base site.path own (the_type type ∷ []) s h (one_type (known_by s) type (record { id = record { spelled = spelled.0; short = spelled.1 }; fun = found.entry })) (new_type type own a.0)) d.1 in
      kept_then tops base site seen s d.0.1 r first.grows
      (values_kept other c.0.constructors d.0.0 d.0.1 r (All-weaker (IsSoundValue (known_by s)) (IsSoundValue (known_by d.0.1)) (value_still (known_by s) (known_by d.0.1) (first.grows).known) c.0.constructors found.constructors) first.body d.2)
