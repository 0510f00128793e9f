-- Parts of phrases by now: identifiers that are new, types that are seen from a body, entries, and what fails.
use Rattle.std.proofs.Common.{◌≡◌, ℕ, Bool, List, take, drop, Result, Err, IsErrAnd, sym, ap, ap₂, ◌∙◌, subst}
use Rattle.std.proofs.lemmas.List.{take-append-drop}
use Rattle.type_core.specs.declared.ty.Ty.{Ty}
use Rattle.type_core.specs.Types.{IsOver}
use Rattle.ty_parser.specs.declared.tree.TyExp.{TyExp}
use Rattle.elab_env.specs.Realizations.{resolved}
use Rattle.elab_rules.specs.declared.body.Body.{Body}
use Rattle.elab_rules.specs.declared.entry.Entry.{Entry}
use Rattle.elab_rules.specs.declared.progress.Progress.{Progress}
use Rattle.elab_rules.specs.declared.refusal.ElabRefusal.{ElabRefusal}
use Rattle.elab_rules.specs.declared.refusal.ElabRefusal.TheVariants.{Refused, NoMemory}
use Rattle.elab_rules.specs.declared.site.Site.{Site}
use Rattle.elab_rules.specs.Bodies as bodies
use Rattle.elab_rules.specs.Bodies.{added}
use Rattle.elab_rules.specs.Environments.{Environment, is_new_type, is_new_value}
use Rattle.elab_rules.specs.Outcome.{GivesWith, Outcome}
use Rattle.elab_types.specs.Outcome.{and_then}
use Rattle.elab_rules.specs.Standing.{AreOver, Mentions, Sees}
use Rattle.elab_rules.specs.States.{State}
use Rattle.elab_rules.specs.Types.{Variables, typed}
use Rattle.elab_rules.specs.Types as types
use Rattle.elab_rules.specs.Views.{GivesBody, body_at, site_at}
use Rattle.elab_rules.proofs.Entries.{all_types_split}
use Rattle.elab_rules.proofs.LookedUp.{new_type_with, new_value_with}
use Rattle.elab_rules.proofs.Outcomes.{handed_on}
use Rattle.elab_phrases.proofs.Sites.{body_mentions, site_mentions}

-- ---- identifiers that are new
pub new_type_by_now : (p : Progress) (id text : List ℕ) (own seen : Environment) (b : Bool) → text ≡ id → seen ≡ own → b ≡ is_new_type text seen → is_new_type id (body_at p own) ≡ b
new_type_by_now p id text own seen b named whole is =
    new_type_with (resolved p.table.realizations) id own ∙ ap₂ is_new_type (sym named) (sym whole) ∙ sym is

pub new_value_by_now : (p : Progress) (id text : List ℕ) (own seen : Environment) (b : Bool) → text ≡ id → seen ≡ own → b ≡ is_new_value text seen → is_new_value id (body_at p own) ≡ b
new_value_by_now p id text own seen b named whole is =
    new_value_with (resolved p.table.realizations) id own ∙ ap₂ is_new_value (sym named) (sym whole) ∙ sym is

-- ---- types
abbrev pub place_in : Progress → Site → Environment → ℕ → Variables → types.Place
place_in p site own first variables = record { site = site_at p site; own = body_at p own; first = first; variables = variables }

-- what is seen of a body is the body
pub typed_seen : (p : Progress) (site : Site) (seen own : Environment) (first : ℕ) (variables : Variables) (e : TyExp) (result : Result Ty ElabRefusal) (s t : State) → seen ≡ own
    → GivesWith (typed e (place_in p site seen first variables) s) result t → GivesWith (typed e (place_in p site own first variables) s) result t
typed_seen p site seen own first variables e result s t whole gives = subst (λ (env : Environment). GivesWith (typed e (place_in p site env first variables) s) result t) whole gives

-- the first entries of a body are seen as the body is
pub sees_front : (p : Progress) (site : Site) (own seen : Environment) (n : ℕ) → seen ≡ take n own → Sees p site own → Sees p site seen
sees_front p site own seen n front h = record {
  around = h.around;
  units = h.units;
  kept_before = h.kept_before;
  kept_added = h.kept_added;
  body =
      subst (AreOver p.table.names) (sym front)
      (all_types_split (IsOver p.table.names) (take n own) (drop n own) (subst (AreOver p.table.names) (sym (take-append-drop n own)) h.body)).0;
}

-- ---- entries after names were mentioned
pub added_mentions : (p q : Progress) (site : Site) (own : Environment) (entry : Entry) (token : ℕ) (s : State) → Mentions p q
    → added (site_at p site) entry token (body_at p own) s ≡ added (site_at q site) entry token (body_at q own) s
added_mentions p q site own entry token s mentions =
    sym (ap₂ (λ at env. added at entry token env s) (site_mentions p q site mentions) (body_mentions p q own mentions))

-- ---- what fails
part_fails : {A : Type 0} (o : Outcome (A × State)) (next : A × State → bodies.Described) (e : ElabRefusal) (s : State) (p : Progress) → GivesWith {A = A} o (Err e) s → GivesBody (and_then o next) (Err e) p
part_fails o next (Refused why token) s p gives = ap (λ q. and_then q next) gives
part_fails o next NoMemory s p gives = tt

-- a part that fails ends the phrase
pub part_ends : {A : Type 0} (o : Outcome (A × State)) (next : A × State → bodies.Described) (whole : bodies.Described) (result : Result Body ElabRefusal) (e : ElabRefusal) (s : State) (p : Progress)
    → whole ≡ and_then o next → IsErrAnd result (λ other. other ≡ e) → GivesWith {A = A} o (Err e) s → GivesBody whole result p
part_ends o next whole result e s p is handed gives =
    subst (λ r. GivesBody whole r p) (sym (handed_on result e handed)) (subst (λ q. GivesBody q (Err e) p) (sym is) (part_fails o next e s p gives))
