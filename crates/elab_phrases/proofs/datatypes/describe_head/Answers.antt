use Rattle.std.proofs.Common.{◌≡◌, ℕ, ◌+◌, ◌≤◌, List, [], ◌∷◌, ◌++◌, length, Result, Ok, Err, Bool, true, false, nat_le, refl, sym, ap, ◌∙◌, subst, arith}
use Rattle.std.specs.Result.{IfOk, OnOk}
use Rattle.std.proofs.lemmas.Bool.{lt-leb}
use Rattle.std.proofs.lemmas.List.{length-append, length-map}
use Rattle.std.proofs.lemmas.Result.{on_ok_weaker}
use Rattle.sig_parser.specs.declared.tree.DataDesc.{DataDesc}
use Rattle.type_core.specs.declared.names.Equality.TheVariants.{IfArgs}
use Rattle.type_core.specs.declared.type_fn.TypeFn.{TypeFn}
use Rattle.elab_env.specs.Parameters.{name_function}
use Rattle.elab_rules.specs.declared.body.Body.{Body}
use Rattle.elab_rules.specs.declared.entry.Entry.{Entry}
use Rattle.elab_rules.specs.declared.entry.TypeEntry.{TypeEntry}
use Rattle.elab_rules.specs.declared.progress.Progress.{Progress}
use Rattle.elab_rules.specs.declared.refusal.ElabRefusal.{ElabRefusal}
use Rattle.elab_rules.specs.declared.refusal.Why.TheVariants.{Duplicate, LibraryTooLarge, TypeTooLarge}
use Rattle.elab_rules.specs.Bodies.{Site, added}
use Rattle.elab_rules.specs.Datatypes.{datatype_head}
use Rattle.elab_rules.specs.Environments.{Environment, is_new_type, the_type}
use Rattle.elab_rules.specs.Extended.{IsExtended}
use Rattle.elab_types.specs.Outcome.{and_then, checked, failed}
use Rattle.elab_rules.specs.Parameters.{parameters_checked}
use Rattle.elab_types.specs.Sources.{text_at, variable}
use Rattle.elab_rules.specs.Standing.{IsSettledType, Mentions}
use Rattle.elab_rules.specs.States.{State, entry_weight}
use Rattle.elab_rules.specs.Views.{GivesBody, body_at, site_at, state_of}
use Rattle.elab_types.specs.Views.{texts}
use Rattle.elab_phrases.proofs.Added.{type_stays}
use Rattle.elab_phrases.proofs.DatatypeGroups.{head_is}
use Rattle.elab_phrases.proofs.Extensions.{extended_by}
use Rattle.elab_phrases.proofs.NewNames.{new_function, new_marked, new_names}
use Rattle.elab_phrases.proofs.Phrases.{added_mentions, new_type_by_now}
use Rattle.elab_phrases.proofs.Stands.{settled_type_mentions, stands_mentions}
use Rattle.elab_phrases.proofs.Staying.{mentions_twice}
use Rattle.elab_phrases.proofs.Turns.{body_same}
use Rattle.elab_phrases.proofs.datatypes.describe_head.Goals as goal

-- an entry that is added is no new name
added_names : (site : Site) (entry : Entry) (token : ℕ) (own more : Environment) (s t : State) → added site entry token own s ≡ Ok (more, t) → t.names ≡ s.names
added_names site entry token own more s t = by_case (nat_le (s.weight + entry_weight site.path entry) 8000000)
  where
    heavier : State
    heavier = record { names = s.names; gone = s.gone; weight = s.weight + entry_weight site.path entry }

    by_case : (b : Bool) → and_then {B = Environment × State} (checked b LibraryTooLarge token (Ok (record { names = s.names; gone = s.gone; weight = s.weight + entry_weight site.path entry }))) (λ (after : State). Ok (own ++ entry ∷ [], after)) ≡ Ok (more, t) → t.names ≡ s.names
    by_case true e = let same : (own ++ entry ∷ [], heavier) ≡ (more, t) = cc in ap (λ (x : Environment × State). x.1.names) (sym same)
    by_case false e = cc

module _ (q new : Progress) where
  names_same : (site : Site) (entry : Entry) (token : ℕ) (own : Environment) (r : Result Body ElabRefusal) → GivesBody (added site entry token own (state_of q)) r new → OnOk r (new.table.names ≡ q.table.names)
  names_same site entry token own (Ok body) gives = added_names site entry token own (body_at new body.entries.items) (state_of q) (state_of new) gives
  names_same site entry token own (Err e) gives = tt

  extended_after : (own : Environment) (type : TypeEntry) (r : Result Body ElabRefusal) → IsSettledType q.table type.fun.body → OnOk r (Mentions q new) → IfOk r (λ (body : Body). body.entries.items ≡ own ++ the_type type ∷ [])
      → IfOk r (λ (body : Body). IsExtended new own body.entries.items)
  extended_after own type (Ok body) settled mentions pushed = extended_by new own body.entries.items (the_type type) pushed (type_stays new.table type (settled_type_mentions q new type.fun.body mentions settled))
  extended_after own type (Err e) settled mentions pushed = tt

settled_entry : (p q : Progress) (arity n : ℕ) (type : TypeEntry) → IsSettledType q.table (name_function (length p.table.names) arity).body → n ≡ length p.table.names → type.fun ≡ name_function n arity → IsSettledType q.table type.fun.body
settled_entry p q arity n type h number is =
    subst (λ (f : TypeFn). IsSettledType q.table f.body) (sym is) (subst (λ m. IsSettledType q.table (name_function m arity).body) (sym number) h)

module _ (d : DataDesc) (site : Site) (own : Environment) (s : State) (tokens : List ℕ) (done : Unit {0}) (same : tokens ≡ d.params) (ok : parameters_checked site.texts [] tokens ≡ Ok done) where
  all_checked : parameters_checked site.texts [] d.params ≡ Ok done
  all_checked = ap (parameters_checked site.texts []) (sym same) ∙ ok

  is_described_again : is_new_type (text_at site.texts d.id) own ≡ false → datatype_head d site own s ≡ failed Duplicate d.id
  is_described_again again = rw (all_checked, again) refl

  has_too_many : (count : ℕ) → is_new_type (text_at site.texts d.id) own ≡ true → count ≡ length d.params → 2000 ≤ count → datatype_head d site own s ≡ failed TypeTooLarge d.id
  has_too_many count new counted large = let over : nat_le (1 + length d.params) 2000 ≡ false = lt-leb _ _ (omega (arith, counted, large)) in rw (all_checked, new, over) refl

pub returns-then-not-is_new_type-clause-outcome : goal.returns-then-not-is_new_type-clause-outcome
returns-then-not-is_new_type-clause-outcome c =
    let p = c.args.progress.now in
    is_described_again c.args.desc.now (site_at p c.args.site.now) (body_at p c.args.own.entries.items) (state_of p) _ _ c.as_slice.ensures.value c.in_ok-check_parameters.ensures.outcome
    (new_type_by_now p _ _ _ _ _ c.text-text.ensures.value c.scope.ensures.value c.is_new_type.ensures.value ∙ c.if-not-is_new_type.true)

pub returns-then-len-ge-MAX_NODES-clause-outcome : goal.returns-then-len-ge-MAX_NODES-clause-outcome
returns-then-len-ge-MAX_NODES-clause-outcome c =
    let p = c.args.progress.now in
    has_too_many c.args.desc.now (site_at p c.args.site.now) (body_at p c.args.own.entries.items) (state_of p) _ _ c.as_slice.ensures.value c.in_ok-check_parameters.ensures.outcome _
    (new_type_by_now p _ _ _ _ _ c.text-text.ensures.value c.scope.ensures.value c.is_new_type.ensures.value ∙ c.if-not-is_new_type.false) c.len.ensures.value c.if-len-ge-MAX_NODES.true

pub add_type-requires-clause-stands : goal.add_type-requires-clause-stands
add_type-requires-clause-stands c = stands_mentions _ c.args.progress.now _ c.args.site.now _ c.in_ok-name.ensures.mentions c.requires.stands

pub add_type-requires-clause-settled : goal.add_type-requires-clause-settled
add_type-requires-clause-settled c =
    let p = c.args.progress.now in
    let name = c.in_ok-name.ensures in
    settled_entry p c.describe.new.self c.in_ok-arity.arity c.in_ok-name.name.0 c.in_ok-entry.entry
    (new_function p c.describe.new.self _ _ IfArgs c.is_sound.ensures.sound name.described name.mentions) name.number (ap (λ (entry : TypeEntry). entry.fun) c.in_ok-entry.ensures.value)

pub returns-clause-outcome : goal.returns-clause-outcome
returns-clause-outcome c =
    let p = c.args.progress.now in
    body_same _ _ _ _
    (head_is c.args.desc.now (site_at p c.args.site.now) (body_at p c.args.own.entries.items) _ _ _ _ _ _ _ _ _ _ c.as_slice.ensures.value c.in_ok-check_parameters.ensures.outcome c.text-text.ensures.value
    (sym (new_type_by_now p _ _ _ _ _ refl c.scope.ensures.value c.is_new_type.ensures.value)) c.if-not-is_new_type.false c.len.ensures.value c.if-len-ge-MAX_NODES.false
    (c.in_ok-arity.ensures.value ∙ c.len-2.ensures.value) c.in_ok-name.ensures.number c.in_ok-name.ensures.described c.in_ok-entry.ensures.value
    ∙ added_mentions p c.describe.new.self c.args.site.now c.args.own.entries.items _ _ _ c.in_ok-name.ensures.mentions)
    c.add_type.ensures.outcome

pub returns-clause-mentions : goal.returns-clause-mentions
returns-clause-mentions c = on_ok_weaker _ (mentions_twice _ _ _ c.in_ok-name.ensures.mentions) c.add_type.ensures.mentions

pub returns-clause-extended : goal.returns-clause-extended
returns-clause-extended c =
    let p = c.args.progress.now in
    let q = c.describe.new.self in
    let name = c.in_ok-name.ensures in
    extended_after q c.add_type.new.progress c.args.own.entries.items c.in_ok-entry.entry _
    (settled_entry p q c.in_ok-arity.arity c.in_ok-name.name.0 c.in_ok-entry.entry
    (new_function p q _ _ IfArgs c.is_sound.ensures.sound name.described name.mentions) name.number (ap (λ (entry : TypeEntry). entry.fun) c.in_ok-entry.ensures.value))
    c.add_type.ensures.mentions c.add_type.ensures.pushed

pub returns-clause-made : goal.returns-clause-made
returns-clause-made c =
    let p = c.args.progress.now in
    let q = c.describe.new.self in
    let name = c.in_ok-name.ensures in
    let params = c.args.desc.now.params in
    let count : length params ≡ c.in_ok-arity.arity = sym (c.in_ok-arity.ensures.value ∙ c.len-2.ensures.value) in
    let made = new_marked p q _ _ IfArgs c.is_sound.ensures.sound name.described name.mentions _ (length-map params (variable (texts c.args.site.now.source)) ∙ count) in
    on_ok_weaker _ (λ mentions. settled_type_mentions q c.add_type.new.progress _ mentions made) c.add_type.ensures.mentions

pub returns-clause-one : goal.returns-clause-one
returns-clause-one c =
    let p = c.args.progress.now in
    let q = c.describe.new.self in
    let name = c.in_ok-name.ensures in
    let new = c.add_type.new.progress in
    let added = new_names p q _ _ IfArgs c.is_sound.ensures.sound name.described name.mentions in
    on_ok_weaker c.add_type.result (λ (same : new.table.names ≡ q.table.names). ap length same ∙ ap length added ∙ length-append p.table.names _)
    (names_same q new (site_at q c.args.site.now) (the_type c.in_ok-entry.entry) c.args.desc.now.id (body_at q c.args.own.entries.items) c.add_type.result c.add_type.ensures.outcome)
