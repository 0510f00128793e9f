-- Structures that are described in turn, each of which sees the body before them.
use Rattle.std.proofs.Common.{◌≡◌, ℕ, ◌≤◌, List, [], ◌∷◌, ◌++◌, length, map, take, Ok, Err, refl, sym, ap, ◌∙◌, append-nil, append_assoc}
use Rattle.elab_env.specs.Sound.{IsSound}
use Rattle.elab_rules.specs.declared.entry.Entry.{Entry}
use Rattle.elab_rules.specs.declared.progress.Progress.{Progress}
use Rattle.elab_rules.specs.declared.site.Site.{Site}
use Rattle.elab_rules.specs.Bodies as bodies
use Rattle.elab_rules.specs.Bodies.{Described, Specified, in_turn}
use Rattle.elab_rules.specs.Environments.{Environment}
use Rattle.elab_types.specs.Outcome.{and_then}
use Rattle.elab_rules.specs.Specifications.{Signature, structure_described}
use Rattle.elab_rules.specs.Standing.{Grew, Stands}
use Rattle.elab_rules.specs.States.{State}
use Rattle.elab_rules.specs.Views.{body_at, site_at}
use Rattle.elab_phrases.proofs.Sites.{site_stays}
use Rattle.sig_elab.proofs.SitesWithin.{own_was}
use Rattle.elab_phrases.proofs.Staying.{grew_from, grew_itself, grew_twice, grows}

-- ---- phrases that were mapped
then_same : (o : Described) (f g : Environment × State → Described) → ((r : Environment × State) → f r ≡ g r) → and_then o f ≡ and_then o g
then_same (Ok r) f g same = same r
then_same (Err failure) f g same = refl

pub turns_over : {A B : Type 0} (f : A → B) (step : B → Specified) (xs : List A) (site : bodies.Site) (env : Environment) (s : State) → in_turn (λ x. step (f x)) xs site env s ≡ in_turn step (map f xs) site env s
turns_over f step [] site env s = refl
turns_over f step (x ∷ xs) site env s = then_same (step (f x) site env s) _ _ (λ r. turns_over f step xs site r.0 r.1)

-- ---- the body before them
-- it is what a body begins with
pub record BeginsWith (front env : Environment) : Type 0 where
  pub rest : Environment
  pub whole : env ≡ front ++ rest

pub begins_itself : (env : Environment) → BeginsWith env env
begins_itself env = record { rest = []; whole = sym (append-nil env) }

pub begins_more : (front env more : Environment) → BeginsWith front env → ((entry : Entry) × (more ≡ env ++ entry ∷ [])) → BeginsWith front more
begins_more front env more h grown = record {
  rest = h.rest ++ grown.0 ∷ [];
  whole = grown.1 ∙ ap (λ e. e ++ grown.0 ∷ []) h.whole ∙ append_assoc front h.rest (grown.0 ∷ []);
}

front_taken : (front rest : Environment) → take (length front) (front ++ rest) ≡ front
front_taken [] [] = refl
front_taken [] (e ∷ rest) = refl
front_taken (e ∷ front) rest = ap (λ es. e ∷ es) (front_taken front rest)

pub taken_is : (count : ℕ) (front env : Environment) → count ≡ length front → BeginsWith front env → take count env ≡ front
taken_is count front env e h = ap (λ n. take n env) e ∙ ap (take (length front)) h.whole ∙ front_taken front h.rest

-- ---- one turn
-- it is described as if nothing had been described in the group so far
pub structure_now : (bind : ℕ × Signature) (p q : Progress) (site : Site) (own env : Environment) (count : ℕ) (s : State) → IsSound p.table → Stands p site own → Grew (length p.table.names) p q
    → count ≡ length own → BeginsWith own env
    → structure_described (body_at p own) bind (site_at p site) (body_at q env) s ≡ structure_described (body_at q (take count env)) bind (site_at q site) (body_at q env) s
structure_now bind p q site own env count s sound h grew e begins =
    ap (λ at. structure_described (body_at p own) bind at (body_at q env) s) (sym (site_stays site.base p q site own sound (grew_from site.base (length p.table.names) p q h.begun grew) h))
    ∙ ap (λ before. structure_described before bind (site_at q site) (body_at q env) s) (sym (own_was site.base p q site own sound h grew))
    ∙ ap (λ before. structure_described (body_at q before) bind (site_at q site) (body_at q env) s) (sym (taken_is count own env e begins))

-- what one turn after the other realizes
pub grew_on : (base : ℕ) (p q r : Progress) → base ≤ length q.table.names → Grew base p q → Grew (length q.table.names) q r → Grew base p r
grew_on base p q r l h k = grew_twice base p q r h (grew_from base (length q.table.names) q r l k)

pub names_grew : (base : ℕ) (p q : Progress) → Grew base p q → length p.table.names ≤ length q.table.names
names_grew base p q h = grows p q h.names

-- the state before the first turn
pub none_grew : (p : Progress) → Grew (length p.table.names) p p
none_grew p = grew_itself (length p.table.names) p
