-- Sites of what stands in a body, and of bodies that begin with so many names.
use Rattle.std.proofs.Common.{◌≡◌, ℕ, List, [], ◌∷◌, ◌++◌, drop, length, map, take, Result, IfOk, refl, sym, ap, ◌∙◌, subst}
use Rattle.std.specs.List.{All}
use Rattle.std.proofs.lemmas.List.{take-append-drop}
use Rattle.std.proofs.lemmas.List.Elements.{All-cons, All-nil, All-tail}
use Rattle.std.proofs.lemmas.Result.{IfOk-weaker}
use Rattle.type_core.specs.declared.names.TypeName.{TypeName}
use Rattle.type_core.specs.Types.{IsOver}
use Rattle.elab_env.specs.Sound.{IsSound}
use Rattle.elab_rules.specs.declared.entry.UnitEntry.{UnitEntry}
use Rattle.elab_rules.specs.declared.progress.Progress.{Progress}
use Rattle.elab_rules.specs.declared.scope.Scope.{Scope}
use Rattle.elab_rules.specs.declared.site.Site.{Site}
use Rattle.elab_types.specs.declared.source.Source.{Source}
use Rattle.sig_parser.specs.declared.tree.Bind.{Bind}
use Rattle.elab_rules.specs.declared.tops.Tops.{Tops}
use Rattle.elab_rules.specs.Bodies as bodies
use Rattle.elab_rules.specs.Bodies.{site_from, site_within}
use Rattle.elab_rules.specs.Details.{HaveOwn}
use Rattle.elab_rules.specs.Environments.{Environment}
use Rattle.elab_rules.specs.Standing.{AreOver, Begins, Grew, IsMadeBelow, IsSettled, Stands, StandsFrom}
use Rattle.elab_types.specs.Sources.{text_at}
use Rattle.elab_rules.specs.Views.{around_of, body_at, site_at, site_of, state_of, units_seen}
use Rattle.elab_types.specs.Views.{texts}
use Rattle.elab_rules.proofs.Entries.{all_types_split}
use Rattle.elab_phrases.proofs.Sites.{body_stays}
use Rattle.elab_phrases.proofs.Stands.{begins, over_all, stands_with}

-- ---- sites by now
abbrev by_now : Progress → bodies.Site → bodies.Site
by_now p site = record { texts = site.texts; path = site.path; around = map (body_at p) site.around; base = site.base; units = site.units; declaring = site.declaring }

pub around_more : (scopes : List Scope) (own : Scope) → around_of (scopes ++ own ∷ []) ≡ own.entries.now ∷ around_of scopes
around_more [] own = refl
around_more (scope ∷ scopes) own = ap (λ envs. envs ++ scope.entries.now ∷ []) (around_more scopes own)

-- what stands in a body, by now
pub within_by_now : (p : Progress) (site inner : Site) (path : List ℕ) (own : Environment) → site_of inner ≡ site_within path own (site_of site) → site_at p inner ≡ site_within path (body_at p own) (site_at p site)
within_by_now p site inner path own is = ap (by_now p) is

-- a body that begins with so many names, by now
pub from_by_now : (p : Progress) (site inner : Site) (base : ℕ) → site_of inner ≡ site_from base (site_of site) → site_at p inner ≡ site_from base (site_at p site)
from_by_now p site inner base is = ap (by_now p) is

-- ---- other sites that see the same units
module _ (base : ℕ) (p : Progress) (site other : Site) (same : other.tops ≡ site.tops) where
  pub stands_around : (own body : Environment) → All (AreOver p.table.names) (site_of other).around → All (AreOver (take base p.table.names)) (site_of other).around → AreOver p.table.names body
      → StandsFrom base p site own → StandsFrom base p other body
  stands_around own body around early over h = record {
    sees = record {
      around = around;
      units = subst (λ (t : Tops). All (λ (unit : UnitEntry). IsSettled p.table unit.entries) (units_seen t)) (sym same) h.sees.units;
      kept_before = subst (λ (t : Tops). HaveOwn (state_of p) t.before.now.details.items t.before.now.entries.items) (sym same) h.sees.kept_before;
      kept_added = subst (λ (t : Tops). HaveOwn (state_of p) t.added.now.details.items t.added.now.entries.items) (sym same) h.sees.kept_added;
      body = over;
    };
    begun = h.begun;
    around = early;
    units = subst (λ (t : Tops). All (λ (unit : UnitEntry). AreOver (take base p.table.names) unit.entries) (units_seen t)) (sym same) h.units;
    made_before = subst (λ (t : Tops). All (IsMadeBelow base) t.before.now.entries.items) (sym same) h.made_before;
    made_added = subst (λ (t : Tops). All (IsMadeBelow base) t.added.now.entries.items) (sym same) h.made_added;
    early = h.early;
  }

-- nothing is over any names
pub nothing_over : (names : List TypeName) → AreOver names []
nothing_over names = All-nil (IsOver names)

-- ---- in a body
pub begins_within : (p : Progress) (site inner : Site) (path : List ℕ) (own : Environment) → inner.tops ≡ site.tops → site_of inner ≡ site_within path own (site_of site) → Begins p site own → Begins p inner []
begins_within p site inner path own same is h =
    let names = p.table.names in
    stands_around (length names) p site inner same own []
    (subst (λ (s : bodies.Site). All (AreOver names) s.around) (sym is) (All-cons (AreOver names) own (site_of site).around h.sees.body h.sees.around))
    (subst (λ (s : bodies.Site). All (AreOver (take (length names) names)) s.around) (sym is) (All-cons (AreOver (take (length names) names)) own (site_of site).around (over_all names own h.sees.body) h.around))
    (nothing_over names) h

-- what stands there stands around it too
pub stands_without : (base : ℕ) (p : Progress) (site inner : Site) (path : List ℕ) (own body : Environment) → inner.tops ≡ site.tops → site_of inner ≡ site_within path own (site_of site) → StandsFrom base p inner body → StandsFrom base p site body
stands_without base p site inner path own body same is h =
    let names = p.table.names in
    stands_around base p inner site (sym same) body body
    (All-tail (AreOver names) own (site_of site).around (subst (λ (s : bodies.Site). All (AreOver names) s.around) is h.sees.around))
    (All-tail (AreOver (take base names)) own (site_of site).around (subst (λ (s : bodies.Site). All (AreOver (take base names)) s.around) is h.around))
    h.sees.body h

-- ---- where a body begins
pub stands_at : (base : ℕ) (p : Progress) (site inner : Site) (own : Environment) → inner.tops ≡ site.tops → site_of inner ≡ site_from base (site_of site) → StandsFrom base p site own → Stands p inner own
stands_at base p site inner own same is h =
    let names = p.table.names in
    subst (λ b. StandsFrom b p inner own) (sym (ap (λ (s : bodies.Site). s.base) is))
    (stands_around base p site inner same own own
    (subst (λ (s : bodies.Site). All (AreOver names) s.around) (sym is) h.sees.around)
    (subst (λ (s : bodies.Site). All (AreOver (take base names)) s.around) (sym is) h.around)
    h.sees.body h)

pub stood_at : (base : ℕ) (p : Progress) (site inner : Site) (own : Environment) → inner.tops ≡ site.tops → site_of inner ≡ site_from base (site_of site) → Stands p inner own → StandsFrom base p site own
stood_at base p site inner own same is h =
    let names = p.table.names in
    let k = subst (λ b. StandsFrom b p inner own) (ap (λ (s : bodies.Site). s.base) is) h in
    stands_around base p inner site (sym same) own own
    (subst (λ (s : bodies.Site). All (AreOver names) s.around) is k.sees.around)
    (subst (λ (s : bodies.Site). All (AreOver (take base names)) s.around) is k.around)
    k.sees.body k

pub grew_at : (base : ℕ) (p q : Progress) (site inner : Site) → site_of inner ≡ site_from base (site_of site) → Grew inner.base p q → Grew base p q
grew_at base p q site inner is = subst (λ b. Grew b p q) (ap (λ (s : bodies.Site). s.base) is)

-- ---- an expression in a body
-- the first entries of a body are seen
pub begins_front : (base : ℕ) (p : Progress) (site : Site) (own front rest : Environment) → own ≡ front ++ rest → IsSound p.table → StandsFrom base p site own → Begins p site front
begins_front base p site own front rest is sound h =
    let over = all_types_split (IsOver p.table.names) front rest (subst (AreOver p.table.names) is h.sees.body) in
    begins p site front sound (stands_with base p site own front h over.0).sees

-- a body is what it was, after an expression in it
pub own_was : (base : ℕ) (p q : Progress) (site : Site) (own : Environment) → IsSound p.table → StandsFrom base p site own → Grew (length p.table.names) p q → body_at q own ≡ body_at p own
own_was base p q site own sound h grew =
    body_stays (length p.table.names) p q own sound grew (begins p site own sound h.sees).early (over_all p.table.names own h.sees.body)

-- ---- a site by its parts
abbrev site_by : List (List ℕ) → List ℕ → List Environment → ℕ → List UnitEntry → List (List ℕ) → bodies.Site
site_by texts path around base units declaring = record { texts = texts; path = path; around = around; base = base; units = units; declaring = declaring }

pub inner_site : (site inner : Site) (own : Scope) (path : List ℕ) (scopes : List Scope) → inner.source ≡ site.source → inner.path.now ≡ path → inner.around.now ≡ scopes → scopes ≡ site.around.now ++ own ∷ []
    → inner.base ≡ site.base → inner.tops ≡ site.tops → inner.binds.now ≡ site.binds.now → site_of inner ≡ site_within path own.entries.now (site_of site)
inner_site site inner own path scopes source at around scopes_are base tops binds =
    ap (λ (source : Source). site_by (texts source) inner.path.now (around_of inner.around.now) inner.base (units_seen inner.tops) (map (λ (bind : Bind). text_at (texts source) bind.id) inner.binds.now)) source
    ∙ ap (λ p. site_by (texts site.source) p (around_of inner.around.now) inner.base (units_seen inner.tops) (map (λ (bind : Bind). text_at (texts site.source) bind.id) inner.binds.now)) at
    ∙ ap (λ envs. site_by (texts site.source) path envs inner.base (units_seen inner.tops) (map (λ (bind : Bind). text_at (texts site.source) bind.id) inner.binds.now)) (ap around_of (around ∙ scopes_are) ∙ around_more site.around.now own)
    ∙ ap (λ n. site_by (texts site.source) path (own.entries.now ∷ around_of site.around.now) n (units_seen inner.tops) (map (λ (bind : Bind). text_at (texts site.source) bind.id) inner.binds.now)) base
    ∙ ap (λ (t : Tops). site_by (texts site.source) path (own.entries.now ∷ around_of site.around.now) site.base (units_seen t) (map (λ (bind : Bind). text_at (texts site.source) bind.id) inner.binds.now)) tops
    ∙ ap (λ (bs : List Bind). site_by (texts site.source) path (own.entries.now ∷ around_of site.around.now) site.base (units_seen site.tops) (map (λ (bind : Bind). text_at (texts site.source) bind.id) bs)) binds

-- ---- what an expression in a body sees
pub begins_taken : (p : Progress) (site : Site) (own seen : Environment) (count : ℕ) → seen ≡ take count own → IsSound p.table → Stands p site own → Begins p site seen
begins_taken p site own seen count is sound h = subst (Begins p site) (sym is) (begins_front site.base p site own (take count own) (drop count own) (sym (take-append-drop count own)) sound h)

pub begins_whole : (p : Progress) (site : Site) (own seen : Environment) → seen ≡ own → IsSound p.table → Stands p site own → Begins p site seen
begins_whole p site own seen is sound h = subst (Begins p site) (sym is) (begins p site own sound h.sees)

pub stands_same : (p : Progress) (site : Site) (own seen : Environment) → seen ≡ own → Stands p site seen → Stands p site own
stands_same p site own seen is = subst (Stands p site) is

-- a body that begins
pub stands_empty : (p : Progress) (site inner : Site) (own : Environment) (base : ℕ) → base ≡ length p.table.names → site_of inner ≡ site_from base (site_of site) → inner.tops ≡ site.tops → own ≡ [] → Begins p site [] → Stands p inner own
stands_empty p site inner own base e is same empty h =
    subst (Stands p inner) (sym empty) (stands_at (length p.table.names) p site inner [] same (is ∙ ap (λ n. site_from n (site_of site)) e) h)

-- ---- the same of an answer
pub then_if_ok : {T E : Type 0} {P Q : T → Type 0} (result : Result T E) → IfOk result P → ((x : T) → P x → Q x) → IfOk result Q
then_if_ok result h follows = IfOk-weaker result _ _ follows h
