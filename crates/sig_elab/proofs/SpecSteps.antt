-- Structures and inclusions, by what their checks and their expressions come to.
use Rattle.std.proofs.Common.{◌≡◌, ℕ, Bool, true, false, List, ◌++◌, Result, Ok, Err, IsErrAnd, sym, ap, ◌∙◌}
use Rattle.sig_parser.specs.declared.tree.Bind.{Bind}
use Rattle.sig_parser.specs.declared.tree.SigExp.{SigExp}
use Rattle.elab_env.specs.Realizations.{resolved}
use Rattle.elab_rules.specs.declared.body.Body.{Body}
use Rattle.elab_rules.specs.declared.progress.Progress.{Progress}
use Rattle.elab_rules.specs.declared.refusal.ElabRefusal.{ElabRefusal}
use Rattle.elab_rules.specs.declared.refusal.Why.TheVariants.{Duplicate}
use Rattle.elab_rules.specs.Bodies.{Described, Site, added, site_within}
use Rattle.elab_rules.specs.Environments.{Environment, is_new_structure, the_structure}
use Rattle.elab_types.specs.Outcome.{and_then, checked, failed}
use Rattle.elab_types.specs.Sources.{text_at}
use Rattle.elab_rules.specs.Specifications.{Signature, are_new, binding_of, included, signature_of, structure_described}
use Rattle.elab_rules.specs.States.{State, within}
use Rattle.elab_rules.specs.Views.{GivesBody, body_at}
use Rattle.elab_rules.proofs.Entries.{with_appended}
use Rattle.elab_rules.proofs.IndexWith.{new_with}
use Rattle.elab_rules.proofs.Levels.{binding_is, first_is}
use Rattle.elab_rules.proofs.LookedUp.{new_structure_with}
use Rattle.elab_phrases.proofs.Turns.{body_same, ends}

-- ---- a structure
module _ (before : Environment) (bind : Bind) (site : Site) (own : Environment) (s : State) (id : List ℕ) (text : id ≡ text_at site.texts bind.id) where
  -- what is described at the path
  abbrev pub inner_described : Described
  inner_described = (signature_of bind.rhs).elaborated (site_within (within site.path id) before site) s

  abbrev pub and_added : Environment × State → Described
  and_added r = added site (the_structure id r.0) bind.id own r.1

  is_checked : structure_described before (binding_of bind) site own s ≡ checked (is_new_structure id own) Duplicate bind.id (and_then inner_described and_added)
  is_checked =
      ap (λ b. structure_described before b site own s) (binding_is bind)
      ∙ ap (λ t. checked (is_new_structure t own) Duplicate bind.id (and_then ((signature_of bind.rhs).elaborated (site_within (within site.path t) before site) s) (λ r. added site (the_structure t r.0) bind.id own r.1))) (sym text)

  pub structure_refused : is_new_structure id own ≡ false → structure_described before (binding_of bind) site own s ≡ failed Duplicate bind.id
  structure_refused known = is_checked ∙ ap (λ b. checked b Duplicate bind.id (and_then inner_described and_added)) known

  pub structure_goes_on : is_new_structure id own ≡ true → structure_described before (binding_of bind) site own s ≡ and_then inner_described and_added
  structure_goes_on new = is_checked ∙ ap (λ b. checked b Duplicate bind.id (and_then inner_described and_added)) new

  -- the entry is added to the body that is the same by now
  pub structure_added : (later : Site) (more inner : Environment) (t : State) → is_new_structure id own ≡ true → inner_described ≡ Ok (inner, t) → later ≡ site → more ≡ own
      → structure_described before (binding_of bind) site own s ≡ added later (the_structure id inner) bind.id more t
  structure_added later more inner t new ok same stays =
      structure_goes_on new
      ∙ ap (λ o. and_then o and_added) ok
      ∙ ap (λ at. added at (the_structure id inner) bind.id own t) (sym same)
      ∙ ap (λ env. added later (the_structure id inner) bind.id env t) (sym stays)

-- ---- an inclusion
module _ (e : SigExp) (site : Site) (own : Environment) (s : State) where
  abbrev pub and_included : Environment × State → Described
  and_included r = checked (are_new r.0 own) Duplicate (signature_of e).first (Ok (own ++ r.0, r.1))

  pub included_refused : (inner : Environment) (t : State) → (signature_of e).elaborated (site_within site.path own site) s ≡ Ok (inner, t) → are_new inner own ≡ false → included (signature_of e) site own s ≡ failed Duplicate e.first
  included_refused inner t ok known =
      ap (λ o. and_then o and_included) ok
      ∙ ap (λ b. checked b Duplicate (signature_of e).first (Ok (own ++ inner, t))) known
      ∙ ap (failed Duplicate) (first_is e)

  pub included_added : (inner : Environment) (t : State) → (signature_of e).elaborated (site_within site.path own site) s ≡ Ok (inner, t) → are_new inner own ≡ true → included (signature_of e) site own s ≡ Ok (own ++ inner, t)
  included_added inner t ok new =
      ap (λ o. and_then o and_included) ok
      ∙ ap (λ b. checked b Duplicate (signature_of e).first (Ok (own ++ inner, t))) new

-- ---- what a body has, by now
pub appended_by_now : (p q : Progress) (own more whole : Environment) → body_at q own ≡ body_at p own → whole ≡ own ++ more → body_at p own ++ body_at q more ≡ body_at q whole
appended_by_now p q own more whole stays is =
    ap (λ env. env ++ body_at q more) (sym stays)
    ∙ sym (with_appended (resolved q.table.realizations) own more)
    ∙ ap (body_at q) (sym is)

-- ---- by now
pub structure_new : (p : Progress) (id : List ℕ) (own : Environment) (b : Bool) → is_new_structure id own ≡ b → is_new_structure id (body_at p own) ≡ b
structure_new p id own b is = new_structure_with (resolved p.table.realizations) id own ∙ is

pub all_new : (p q : Progress) (more own : Environment) (b : Bool) → body_at q own ≡ body_at p own → are_new more own ≡ b → are_new (body_at q more) (body_at p own) ≡ b
all_new p q more own b stays is = ap (are_new (body_at q more)) (sym stays) ∙ new_with (resolved q.table.realizations) more own ∙ is

-- an expression at another path that is the same, in a body that is the same
pub elaborated_same : (signature : Signature) (p : Progress) (site : Site) (path other : List ℕ) (seen own : Environment) (s : State) → other ≡ path → own ≡ seen
    → signature.elaborated (site_within path (body_at p seen) site) s ≡ signature.elaborated (site_within other (body_at p own) site) s
elaborated_same signature p site path other seen own s at same =
    ap (λ text. signature.elaborated (site_within text (body_at p seen) site) s) (sym at)
    ∙ ap (λ env. signature.elaborated (site_within other (body_at p env) site) s) (sym same)

-- what fails, where it is the same as another
pub fails_same : (o other : Described) (e : ElabRefusal) (p : Progress) → o ≡ other → GivesBody other (Err e) p → GivesBody o (Err e) p
fails_same o other e p = body_same o other (Err e) p

-- a step that fails ends what follows it, where the step is the same as another one
pub ends_by : (o other : Described) (next : Environment × State → Described) (whole : Described) (result : Result Body ElabRefusal) (e : ElabRefusal) (p : Progress)
    → and_then o next ≡ whole → o ≡ other → IsErrAnd result (λ refusal. refusal ≡ e) → GivesBody other (Err e) p → GivesBody whole result p
ends_by o other next whole result e p is same handed gives = ends o next whole result e p is handed (body_same o other (Err e) p same gives)
