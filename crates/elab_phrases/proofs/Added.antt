-- A body by now, after an entry was weighed and added.
use Rattle.std.proofs.Common.{◌≡◌, ℕ, ◌+◌, List, [], ◌∷◌, ◌++◌, length, slice_get, Result, Ok, Err, IsErrAnd, refl, sym, ap, ◌∙◌, subst, arith, rules}
use Rattle.std.specs.List.{All}
use Rattle.std.proofs.lemmas.List.Elements.{All-cons, All-nil}
use Rattle.std.proofs.lemmas.Grind.{common_steps}
use Rattle.type_core.specs.declared.names.TypeName.{TypeName}
use Rattle.type_core.specs.declared.ty.Ty.{Ty}
use Rattle.type_core.specs.Schemes.{closed, numbered_among}
use Rattle.type_core.specs.Types.{IsOver}
use Rattle.type_core.specs.Variables.{by_first_occurrence}
use Rattle.type_core.specs.Weight.{member_weight, tycon_weight}
use Rattle.elab_env.specs.Realizations.{resolved}
use Rattle.elab_env.specs.Table.{Table}
use Rattle.elab_env.proofs.Resolved.{resolved_again}
use Rattle.elab_rules.specs.declared.body.Body.{Body}
use Rattle.elab_rules.specs.declared.entry.Entry.{Entry}
use Rattle.elab_rules.specs.declared.entry.Entry.TheViews as views
use Rattle.elab_rules.specs.declared.entry.TypeEntry.{TypeEntry}
use Rattle.elab_rules.specs.declared.entry.ValueEntry.{ValueEntry}
use Rattle.elab_rules.specs.declared.progress.Progress.{Progress}
use Rattle.elab_rules.specs.declared.refusal.ElabRefusal.{ElabRefusal}
use Rattle.elab_rules.specs.declared.refusal.ElabRefusal.TheVariants.{Refused, NoMemory}
use Rattle.elab_rules.specs.declared.site.Site.{Site}
use Rattle.elab_rules.specs.Bodies as bodies
use Rattle.elab_rules.specs.Bodies.{added}
use Rattle.elab_rules.specs.Environments.{Environment, the_structure, the_type, the_value}
use Rattle.elab_rules.specs.Outcome.{Agrees, Outcome}
use Rattle.elab_types.specs.Outcome.{and_then}
use Rattle.elab_rules.specs.Replacing.{entry_with}
use Rattle.elab_rules.specs.Standing.{AreOver, IsSettledScheme, IsSettledType, Mentions, Stands}
use Rattle.elab_rules.specs.States.{State, entry_weight, member_of, tycon_of, weighed, within}
use Rattle.elab_rules.specs.Views.{GivesBody, body_at, entries_at, site_at, state_of}
use Rattle.elab_rules.proofs.Entries.{all_types_appended, all_types_cons, entry_types, types_structure, types_type, types_value, with_appended, with_structure, with_type, with_value}
use Rattle.elab_phrases.proofs.EntriesByNow.{closed_twice, over_renamed, resolved_stays_renamed}
use Rattle.elab_rules.proofs.Outcomes.{handed_on}
use Rattle.elab_phrases.proofs.Stands.{stands_mentions, stands_with}
use Rattle.elab_rules.proofs.Tracked.{AreAlike, alike_itself, tracked_alike}

-- ---- what an entry weighs
pub weight_of_type : (path : List ℕ) (type : TypeEntry) → entry_weight path (the_type type) ≡ tycon_weight (tycon_of path type)
weight_of_type path type = search (rules, views.the_lemmas)

pub weight_of_value : (path : List ℕ) (value : ValueEntry) → entry_weight path (the_value value) ≡ member_weight (member_of path value)
weight_of_value path value = search (rules, views.the_lemmas)

pub weight_of_structure : (path id : List ℕ) (entries : Environment) → entry_weight path (the_structure id entries) ≡ 1 + length (within path id)
weight_of_structure path id entries = search (rules, views.the_lemmas)

pub length_within : (path id : List ℕ) → length path + (length id + 2) ≡ 1 + length (within path id)
length_within path id = grind (arith, common_steps)

-- ---- settled types and schemes
module _ (table : Table) where
  pub closed_settled : (t : Ty) → IsSettledType table t → IsSettledScheme table (closed t)
  closed_settled t h =
      let r = numbered_among (by_first_occurrence t) in
      record {
        body = record { over = over_renamed r table.names t h.over; resolved = resolved_stays_renamed r table.realizations t h.resolved };
        is_closed = closed_twice t;
      }

  -- ---- entries by now
  pub type_stays : (type : TypeEntry) → IsSettledType table type.fun.body → entry_with (resolved table.realizations) (the_type type) ≡ the_type type
  type_stays type h =
      with_type (resolved table.realizations) type
      ∙ ap (λ t. let now : TypeEntry = record { id = type.id; fun = record { arity = type.fun.arity; body = t }; constructors = type.constructors } in the_type now) (resolved_again table.realizations type.fun.body h.resolved)

  pub value_stays : (value : ValueEntry) → IsSettledScheme table value.scheme → entry_with (resolved table.realizations) (the_value value) ≡ the_value value
  value_stays value h =
      with_value (resolved table.realizations) value
      ∙ ap (λ s. let now : ValueEntry = record { id = value.id; kind = value.kind; scheme = s } in the_value now) (ap closed (resolved_again table.realizations value.scheme.body h.body.resolved) ∙ h.is_closed)

  pub structure_by_now : (id : List ℕ) (entries : Environment) → entry_with (resolved table.realizations) (the_structure id entries) ≡ the_structure id (entries_at table entries)
  structure_by_now id entries = with_structure (resolved table.realizations) id entries

-- ---- the types of entries
pub type_over : (P : Ty → Type 0) (type : TypeEntry) → P type.fun.body → All P (entry_types (the_type type))
type_over P type h = subst (All P) (sym (types_type type)) (All-cons P type.fun.body [] h (All-nil P))

pub value_over : (P : Ty → Type 0) (value : ValueEntry) → P value.scheme.body → All P (entry_types (the_value value))
value_over P value h = subst (All P) (sym (types_value value)) (All-cons P value.scheme.body [] h (All-nil P))

pub structure_over : (names : List TypeName) (id : List ℕ) (entries : Environment) → AreOver names entries → All (IsOver names) (entry_types (the_structure id entries))
structure_over names id entries h = subst (All (IsOver names)) (sym (types_structure id entries)) h

-- ---- an entry that is refused
agrees_fails : (o : Outcome State) (next : State → bodies.Described) (e : ElabRefusal) (s : State) (p : Progress) → Agrees o (Err e) s → GivesBody (and_then o next) (Err e) p
agrees_fails o next (Refused why token) s p agrees = ap (λ q. and_then q next) agrees
agrees_fails o next NoMemory s p agrees = tt

pub entry_refused : (site : bodies.Site) (entry : Entry) (token : ℕ) (own : Environment) (s after : State) (p : Progress) (result : Result Body ElabRefusal) (e : ElabRefusal) (weight : ℕ) → entry_weight site.path entry ≡ weight
    → IsErrAnd result (λ other. other ≡ e) → Agrees (weighed weight token s) (Err e) after → GivesBody (added site entry token own s) result p
entry_refused site entry token own s after p result e weight is handed agrees =
    subst (λ r. GivesBody (added site entry token own s) r p) (sym (handed_on result e handed))
    (agrees_fails (weighed (entry_weight site.path entry) token s) _ e after p (subst (λ w. Agrees (weighed w token s) (Err e) after) (sym is) agrees))

-- ---- an entry that is added
module _ (p q : Progress) (site : Site) (own more : Environment) (entry : Entry) (table : q.table ≡ p.table) (pushed : more ≡ own ++ entry ∷ []) where
  pub added_by_now : (now : Entry) (token weight : ℕ) → entry_with (resolved p.table.realizations) entry ≡ now → entry_weight site.path.now now ≡ weight → weighed weight token (state_of p) ≡ Ok (state_of q)
      → added (site_at p site) now token (body_at p own) (state_of p) ≡ Ok (body_at q more, state_of q)
  added_by_now now token weight is weighs ok =
      let by_now : body_at p own ++ now ∷ [] ≡ body_at q more =
      ap (λ e. body_at p own ++ e ∷ []) (sym is) ∙ sym (with_appended (resolved p.table.realizations) own (entry ∷ [])) ∙ ap (body_at p) (sym pushed) ∙ ap (λ (t : Table). entries_at t more) (sym table) in
      ap (λ w. and_then (weighed w token (state_of p)) (λ after. Ok (body_at p own ++ now ∷ [], after))) weighs
      ∙ ap (λ o. and_then o (λ after. Ok (body_at p own ++ now ∷ [], after))) ok
      ∙ ap (λ env. Ok (env, state_of q)) by_now

  module _ (firsts : q.firsts ≡ p.firsts) (external : q.external_weight ≡ p.external_weight) where
    pub weighed_mentions : Mentions p q
    weighed_mentions = record {
      names = λ n name at. (name, (ap (λ (t : Table). slice_get t.names n) table ∙ at, record { path = refl; arity = refl; external = refl }));
      tracked = tracked_alike p q (subst (AreAlike p.table.names) (ap (λ (t : Table). t.names) (sym table)) (alike_itself p.table.names)) firsts external;
      realizations = ap (λ (t : Table). t.realizations) table;
    }

    pub added_stands : Stands p site own → All (IsOver p.table.names) (entry_types entry) → Stands q site more
    added_stands h over =
        let mentions = weighed_mentions in
        let all : AreOver p.table.names more = subst (AreOver p.table.names) (sym pushed) (all_types_appended (IsOver p.table.names) own (entry ∷ []) h.sees.body (all_types_cons (IsOver p.table.names) entry [] over (All-nil (IsOver p.table.names)))) in
        stands_mentions site.base p q site more mentions (stands_with site.base p site own more h all)
