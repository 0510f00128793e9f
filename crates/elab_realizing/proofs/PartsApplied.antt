-- The parts of a `where`, step by step.
use Rattle.std.proofs.Common.{◌≡◌, ℕ, false, ◌+◌, ◌<◌, List, [], length, drop, get_or, Option, Some, None, Result, Ok, Err, IsErrAnd, OnOk, refl, sym, ap, ap₂, ◌∙◌, subst}
use Rattle.std.specs.Option.{option_map}
use Rattle.std.proofs.lemmas.List.{length-map}
use Rattle.type_core.specs.declared.ty.Ty.{Ty}
use Rattle.type_core.specs.declared.ty.VarId.{VarId}
use Rattle.type_core.specs.declared.type_fn.TypeFn.{TypeFn}
use Rattle.sig_parser.specs.declared.tree.WherePart.{WherePart}
use Rattle.elab_env.specs.Realizations.{function_resolved, resolved}
use Rattle.elab_rules.specs.declared.body.Body.{Body}
use Rattle.elab_rules.specs.declared.progress.Progress.{Progress}
use Rattle.elab_rules.specs.declared.refusal.ElabRefusal.{ElabRefusal}
use Rattle.elab_rules.specs.declared.refusal.ElabRefusal.TheVariants.{Refused, NoMemory}
use Rattle.elab_rules.specs.declared.refusal.Why.TheVariants.{NotFlexible, Unbound}
use Rattle.elab_rules.specs.declared.site.Site.{Site}
use Rattle.elab_rules.specs.Bodies as bodies
use Rattle.elab_rules.specs.Bodies.{Described}
use Rattle.elab_rules.specs.Environments.{Environment}
use Rattle.sig_base.specs.LongIdentifiers.{parts}
use Rattle.elab_rules.specs.LongIdentifiers.{Found, type_along}
use Rattle.elab_rules.specs.Outcome.{Gives, GivesWith, Outcome}
use Rattle.elab_types.specs.Outcome.{and_then, failed, required}
use Rattle.elab_rules.specs.Parameters.{parameters_checked, variables_at}
use Rattle.elab_rules.specs.Replacing.{flexible}
use Rattle.elab_types.specs.Sources.{text_at, variable}
use Rattle.elab_rules.specs.Standing.{Mentions}
use Rattle.elab_rules.specs.States.{State}
use Rattle.elab_rules.specs.Types.{Parameters, Place, typed}
use Rattle.elab_rules.specs.Views.{GivesBody, body_at, site_at, state_of}
use Rattle.elab_types.specs.Views.{texts}
use Rattle.elab_rules.specs.Wheres.{part_applied, parts_applied, realized, realizing, realizing_place}
use Rattle.elab_rules.proofs.LookedUp.{found_with, type_along_with}
use Rattle.elab_types.proofs.Lists.{dropped}
use Rattle.elab_rules.proofs.Outcomes.{handed_on}
use Rattle.elab_phrases.proofs.Sites.{body_mentions}
use Rattle.elab_phrases.proofs.Turns.{ends}

-- ---- steps that fail
handed_body : (whole : Described) (result : Result Body ElabRefusal) (e : ElabRefusal) (p : Progress) → IsErrAnd result (λ other. other ≡ e) → GivesBody whole (Err e) p → GivesBody whole result p
handed_body whole result e p handed gives = subst (λ r. GivesBody whole r p) (sym (handed_on result e handed)) gives

-- a step that gives no state
pub plain_fails : {A : Type 0} (o : Outcome A) (next : A → Described) (whole : Described) (result : Result Body ElabRefusal) (e : ElabRefusal) (p : Progress)
    → and_then o next ≡ whole → IsErrAnd result (λ other. other ≡ e) → Gives o (Err e) → GivesBody whole result p
plain_fails {A} o next whole result e p is handed gives = handed_body whole result e p handed (by_case e gives)
  where
    by_case : (e : ElabRefusal) → Gives {A = A} o (Err e) → GivesBody whole (Err e) p
    by_case (Refused why token) failed_at = sym is ∙ ap (λ q. and_then q next) failed_at
    by_case NoMemory failed_at = tt

-- a step with a state
pub step_fails : {A S : Type 0} (o : Outcome (A × S)) (next : A × S → Described) (whole : Described) (result : Result Body ElabRefusal) (e : ElabRefusal) (s : S) (p : Progress)
    → and_then o next ≡ whole → IsErrAnd result (λ other. other ≡ e) → GivesWith {A = A} o (Err e) s → GivesBody whole result p
step_fails {A} {S} o next whole result e s p is handed gives = handed_body whole result e p handed (by_case e gives)
  where
    by_case : (e : ElabRefusal) → GivesWith {A = A} o (Err e) s → GivesBody whole (Err e) p
    by_case (Refused why token) failed_at = sym is ∙ ap (λ q. and_then q next) failed_at
    by_case NoMemory failed_at = tt

-- what holds anyway holds of an answer
pub always_ok : {T E A : Type 0} (result : Result T E) → A → OnOk result A
always_ok (Ok t) a = a
always_ok (Err e) a = tt

-- ---- the right side of a part
module _ (part : WherePart) (site : bodies.Site) (own : Environment) (vs : List VarId) (s : State) (nothing : own ≡ []) (parameters : vs ≡ variables_at site.texts part.params) where
  abbrev place : Place
  place = record { site = site; own = own; first = part.ty.first; variables = Parameters false vs }

  abbrev typed_side : Outcome (Ty × State)
  typed_side = typed part.ty.ty place s

  same_place : place ≡ realizing_place site part.ty.first (variables_at site.texts part.params)
  same_place = ap₂ (λ env ws. let p : Place = record { site = site; own = env; first = part.ty.first; variables = Parameters false ws } in p) nothing parameters

  abbrev made : Ty × State → Outcome (TypeFn × State)
  made r = Ok (record { arity = length part.params; body = r.0 }, r.1)

  pub side_typed : and_then typed_side made ≡ realizing part site s
  side_typed = ap (λ p. and_then (typed part.ty.ty p s) made) same_place

  pub side_made : (arity : ℕ) (t : Ty) (u : State) → arity ≡ length vs → typed_side ≡ Ok (t, u) → realizing part site s ≡ Ok (record { arity = arity; body = t }, u)
  side_made arity t u count ok =
      sym side_typed ∙ ap (λ o. and_then o made) ok
      ∙ ap (λ n. Ok (record { arity = n; body = t }, u)) (sym (count ∙ ap length parameters ∙ length-map part.params (variable site.texts)))

-- ---- one part
module _ (part : WherePart) (base : ℕ) (p : Progress) (site : Site) (own : Environment) where
  abbrev whole : Described
  whole = part_applied part base (site_at p site) (body_at p own) (state_of p)

  abbrev ids : List (List ℕ)
  ids = parts (text_at (texts site.source) part.tycon)

  abbrev right_side : Outcome (TypeFn × State)
  right_side = realizing part (site_at p site) (state_of p)

  -- what follows the right side
  abbrev after_right_side : Found → TypeFn × State → Described
  after_right_side found r = required (flexible base r.1 (function_resolved p.table.realizations found.entry.fun)) NotFlexible part.at (λ n. realized n r.0 part.at (body_at p own) r.1)

  abbrev after_found : Option Found → Described
  after_found found = required found Unbound part.tycon (λ f. and_then right_side (λ r. required (flexible base r.1 f.entry.fun) NotFlexible part.at (λ n. realized n r.0 part.at (body_at p own) r.1)))

  -- the parameters are refused
  pub parameters_fail : (tokens : List ℕ) (result : Result Body ElabRefusal) (e : ElabRefusal) (q : Progress) → tokens ≡ part.params → IsErrAnd result (λ other. other ≡ e) → Gives (parameters_checked (texts site.source) [] tokens) (Err e) → GivesBody whole result q
  parameters_fail tokens result e q same handed gives =
      plain_fails (parameters_checked (texts site.source) [] part.params) (λ done. after_found (type_along ids (body_at p own))) whole result e q refl handed
      (subst (λ ts. Gives (parameters_checked (texts site.source) [] ts) (Err e)) same gives)

  module _ (checked : parameters_checked (texts site.source) [] part.params ≡ Ok tt) where
    looked_up : (o : Option Found) → o ≡ type_along ids own → whole ≡ after_found (option_map (found_with (resolved p.table.realizations)) o)
    looked_up o is =
        ap (λ c. and_then c (λ done. after_found (type_along ids (body_at p own)))) checked
        ∙ ap after_found (type_along_with (resolved p.table.realizations) ids own ∙ ap (option_map (found_with (resolved p.table.realizations))) (sym is))

    -- no type constructor stands there
    pub unbound : None ≡ type_along ids own → whole ≡ failed Unbound part.tycon
    unbound = looked_up None

    module _ (found : Found) (is : Some found ≡ type_along ids own) where
      -- the right side is refused
      pub right_side_fails : (result : Result Body ElabRefusal) (e : ElabRefusal) (s : State) (q : Progress) → IsErrAnd result (λ other. other ≡ e) → GivesWith right_side (Err e) s → GivesBody whole result q
      right_side_fails result e s q handed gives = step_fails right_side (after_right_side found) whole result e s q (sym (looked_up (Some found) is)) handed gives

      module _ (f : TypeFn) (q : Progress) (gives : right_side ≡ Ok (f, state_of q)) (mentions : Mentions p q) where
        sided : (o : Option ℕ) → o ≡ flexible base (state_of q) (function_resolved q.table.realizations found.entry.fun) → whole ≡ required o NotFlexible part.at (λ n. realized n f part.at (body_at p own) (state_of q))
        sided o flexible_is =
            looked_up (Some found) is
            ∙ ap (λ r. and_then r (after_right_side found)) gives
            ∙ ap (λ n. required n NotFlexible part.at (λ n. realized n f part.at (body_at p own) (state_of q)))
            (ap (λ rs. flexible base (state_of q) (function_resolved rs found.entry.fun)) (sym mentions.realizations) ∙ sym flexible_is)

        -- its name isn't flexible
        pub not_flexible : None ≡ flexible base (state_of q) (function_resolved q.table.realizations found.entry.fun) → whole ≡ failed NotFlexible part.at
        not_flexible = sided None

        -- its name is realized
        pub realizes : (n : ℕ) → Some n ≡ flexible base (state_of q) (function_resolved q.table.realizations found.entry.fun) → whole ≡ realized n f part.at (body_at q own) (state_of q)
        realizes n is_flexible = sided (Some n) is_flexible ∙ ap (λ env. realized n f part.at env (state_of q)) (sym (body_mentions p q own mentions))

-- ---- the parts in turn
module _ (xs : List WherePart) (i : ℕ) (x d : WherePart) (base : ℕ) (site : bodies.Site) (env : Environment) (s : State) (whole : Described)
    (within : i < length xs) (is : x ≡ get_or xs i d) (so_far : parts_applied (drop i xs) base site env s ≡ whole) where
  abbrev rest : Environment × State → Described
  rest r = parts_applied (drop (i + 1) xs) base site r.0 r.1

  part_turn : and_then (part_applied x base site env s) rest ≡ whole
  part_turn = sym (ap (λ ys. parts_applied ys base site env s) (dropped xs i x d within is)) ∙ so_far

  -- the one whose turn it is fails
  pub part_ends : (result : Result Body ElabRefusal) (e : ElabRefusal) (q : Progress) → IsErrAnd result (λ other. other ≡ e) → GivesBody (part_applied x base site env s) (Err e) q → GivesBody whole result q
  part_ends result e q handed gives = ends (part_applied x base site env s) rest whole result e q part_turn handed gives

  -- it doesn't
  pub part_moves_on : (next : bodies.Site) (more : Environment) (t : State) → next ≡ site → part_applied x base site env s ≡ Ok (more, t) → parts_applied (drop (i + 1) xs) base next more t ≡ whole
  part_moves_on next more t same ok =
      ap (λ at. parts_applied (drop (i + 1) xs) base at more t) same
      ∙ sym (ap (λ o. and_then o rest) ok) ∙ part_turn
