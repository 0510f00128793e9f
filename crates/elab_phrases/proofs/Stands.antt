-- What is known of sites and bodies, as names are added, settled, realized and joined.
use Rattle.std.proofs.Common.{◌≡◌, ℕ, zero, suc, ◌≤◌, List, [], ◌∷◌, length, take, slice_get, Some, refl, sym, subst, arith}
use Rattle.std.specs.List.{All}
use Rattle.std.proofs.lemmas.List.{take_all}
use Rattle.std.proofs.lemmas.List.Elements.{All-append, All-cons, All-head, All-nil, All-tail, All-weaker}
use Rattle.type_core.specs.declared.names.TypeName.{TypeName}
use Rattle.type_core.specs.declared.ty.Ty.{Ty}
use Rattle.type_core.specs.Types.{IsOver}
use Rattle.elab_env.specs.declared.realization.Realization.{Realization}
use Rattle.elab_env.specs.Sound.{AreRealizations, IsResolved, IsSound}
use Rattle.elab_env.proofs.NameLists.{still_over}
use Rattle.elab_rules.specs.declared.detail.Detail.{Detail}
use Rattle.elab_rules.specs.declared.entry.UnitEntry.{UnitEntry}
use Rattle.elab_rules.specs.declared.entry.ValueEntry.{ValueEntry}
use Rattle.elab_rules.specs.declared.progress.Progress.{Progress}
use Rattle.elab_rules.specs.declared.site.Site.{Site}
use Rattle.elab_rules.specs.Details.{AreDetails, HaveOwn}
use Rattle.elab_rules.specs.Environments.{Environment}
use Rattle.elab_rules.specs.Standing.{AreOver, Begins, Grew, IsEarly, IsMadeBelow, IsSettled, IsSettledScheme, IsSettledType, Mentions, Sees, SeesOver, StandsFrom}
use Rattle.elab_rules.specs.Views.{site_of, state_of}
use Rattle.elab_rules.specs.Wheres.{types_of}
use Rattle.elab_rules.proofs.InitialTypes.{initial_over}
use Rattle.elab_phrases.proofs.Staying.{early_over_later, grows, mentions_grew, over_later, own_stays, settled_stays, table_keeps, taken_keeps}

pub all_at : {A : Type 0} (P : A → Type 0) (xs : List A) (n : ℕ) (x : A) → All P xs → slice_get xs n ≡ Some x → P x
all_at P [] n x all at = cc
all_at P (y ∷ ys) zero x all at = subst P (let e : y ≡ x = cc in e) (All-head P y ys all)
all_at P (y ∷ ys) (suc n) x all at = all_at P ys n x (All-tail P y ys all) at

-- ---- types
pub settled_type_mentions : (p q : Progress) (t : Ty) → Mentions p q → IsSettledType p.table t → IsSettledType q.table t
settled_type_mentions p q t h s = record {
  over = still_over p.table.names q.table.names (table_keeps p.table.names q.table.names h.names) t s.over;
  resolved = subst (λ rs. IsResolved rs t) (sym h.realizations) s.resolved;
}

pub schemes_mentions : (p q : Progress) (values : List ValueEntry) → Mentions p q → All (λ value. IsSettledScheme p.table value.scheme) values → All (λ value. IsSettledScheme q.table value.scheme) values
schemes_mentions p q values h =
    All-weaker (λ (value : ValueEntry). IsSettledScheme p.table value.scheme) (λ value. IsSettledScheme q.table value.scheme)
    (λ value s. record { body = settled_type_mentions p q value.scheme.body h s.body; is_closed = s.is_closed }) values

-- ---- where an expression began, later names may be realized
module _ (base : ℕ) (p q : Progress) (grew : Grew base p q) where
  early_later : (rs : List Realization) → All (IsEarly base p.table.names) rs → All (IsEarly base q.table.names) rs
  early_later = All-weaker (IsEarly base p.table.names) (IsEarly base q.table.names)
      (λ r early l. still_over (take base p.table.names) (take base q.table.names) (table_keeps _ _ (taken_keeps base p.table.names q.table.names grew.names)) r.fun.body (early l))

  later_early : (rs : List Realization) → All (λ r. base ≤ r.name.0) rs → All (IsEarly base q.table.names) rs
  later_early = All-weaker (λ (r : Realization). base ≤ r.name.0) (IsEarly base q.table.names) (λ r later l. absurd (omega (arith, later, l)))

  own_kept : (details : List Detail) (units : List UnitEntry) → All (IsMadeBelow base) units → HaveOwn (state_of p) details units → HaveOwn (state_of q) details units
  own_kept details units below has n detail unit d u = own_stays base p q detail unit grew (all_at (IsMadeBelow base) units n unit below u) (has n detail unit d u)

  pub stands_later : (site : Site) (own : Environment) → StandsFrom base p site own → StandsFrom base q site own
  stands_later site own h = record {
    sees = record {
      around = All-weaker (AreOver p.table.names) (AreOver q.table.names) (over_later p.table.names q.table.names grew.names) (site_of site).around h.sees.around;
      units = λ k d l. settled_stays base p q _ grew (h.units k d l) (h.sees.units k d l);
      kept_before = own_kept _ _ h.made_before h.sees.kept_before;
      kept_added = own_kept _ _ h.made_added h.sees.kept_added;
      body = over_later p.table.names q.table.names grew.names own h.sees.body;
    };
    begun = omega (arith, h.begun, grows p q grew.names);
    around = All-weaker (AreOver (take base p.table.names)) (AreOver (take base q.table.names)) (λ env. early_over_later base p q env grew.names) (site_of site).around h.around;
    units = All-weaker (λ (unit : UnitEntry). AreOver (take base p.table.names) unit.entries) (λ unit. AreOver (take base q.table.names) unit.entries) (λ unit. early_over_later base p q unit.entries grew.names) (site_of site).units h.units;
    made_before = h.made_before;
    made_added = h.made_added;
    early = subst (All (IsEarly base q.table.names)) (sym grew.realizations) (All-append (IsEarly base q.table.names) p.table.realizations grew.more (early_later p.table.realizations h.early) (later_early grew.more grew.later));
  }

-- ---- names that are mentioned
pub sees_mentions : (p q : Progress) (site : Site) (own : Environment) → Mentions p q → Sees p site own → Sees q site own
sees_mentions p q site own h s =
    let base = length p.table.names in
    let grew = mentions_grew base p q h in
    record {
      around = All-weaker (AreOver p.table.names) (AreOver q.table.names) (over_later p.table.names q.table.names h.names) (site_of site).around s.around;
      units = All-weaker (λ (unit : UnitEntry). IsSettled p.table unit.entries) (λ unit. IsSettled q.table unit.entries)
          (λ unit k. record {
            over = over_later p.table.names q.table.names h.names unit.entries k.over;
            resolved = subst (λ rs. All (IsResolved rs) (types_of unit.entries)) (sym h.realizations) k.resolved;
            is_closed = k.is_closed;
          }) (site_of site).units s.units;
      kept_before = λ n detail unit d u. let has = s.kept_before n detail unit d u in own_stays base p q detail unit grew has.made has;
      kept_added = λ n detail unit d u. let has = s.kept_added n detail unit d u in own_stays base p q detail unit grew has.made has;
      body = over_later p.table.names q.table.names h.names own s.body;
    }

pub stands_mentions : (base : ℕ) (p q : Progress) (site : Site) (own : Environment) → Mentions p q → StandsFrom base p site own → StandsFrom base q site own
stands_mentions base p q site own h = stands_later base p q (mentions_grew base p q h) site own

-- ---- another body at the same site
pub stands_with : (base : ℕ) (p : Progress) (site : Site) (own other : Environment) → StandsFrom base p site own → AreOver p.table.names other → StandsFrom base p site other
stands_with base p site own other h over = record {
  sees = record { around = h.sees.around; units = h.sees.units; kept_before = h.sees.kept_before; kept_added = h.sees.kept_added; body = over };
  begun = h.begun;
  around = h.around;
  units = h.units;
  made_before = h.made_before;
  made_added = h.made_added;
  early = h.early;
}

-- ---- an expression begins
all_taken : (names : List TypeName) → take (length names) names ≡ names
all_taken names = take_all (length names) names (omega arith)

pub over_all : (names : List TypeName) (env : Environment) → AreOver names env → AreOver (take (length names) names) env
over_all names env = subst (λ xs. AreOver xs env) (sym (all_taken names))

-- a list that is as long has an element at each place
beside : {A B : Type 0} (xs : List A) (ys : List B) (n : ℕ) (y : B) → length xs ≡ length ys → slice_get ys n ≡ Some y → (x : A) × (slice_get xs n ≡ Some x)
beside xs [] n y e at = cc
beside [] (z ∷ ys) n y e at = absurd (omega (arith, e))
beside (x ∷ xs) (z ∷ ys) zero y e at = (x, refl)
beside (x ∷ xs) (z ∷ ys) (suc n) y e at = beside xs ys n y (omega (arith, e)) at

each_made : (base : ℕ) (units : List UnitEntry) → ((n : ℕ) (unit : UnitEntry) → slice_get units n ≡ Some unit → IsMadeBelow base unit) → All (IsMadeBelow base) units
each_made base [] each = All-nil (IsMadeBelow base)
each_made base (unit ∷ units) each = All-cons (IsMadeBelow base) unit units (each 0 unit refl) (each_made base units (λ n other u. each (suc n) other u))

made_below : (p : Progress) (details : List Detail) (units : List UnitEntry) → AreDetails details units → HaveOwn (state_of p) details units → All (IsMadeBelow (length p.table.names)) units
made_below p details units are has = each_made (length p.table.names) units (λ n unit u. let d = beside details units n unit are.count u in (has n d.0 unit d.1 u).made)

early_all : (names : List TypeName) (rs : List Realization) → AreRealizations names rs → All (IsEarly (length names) names) rs
early_all names [] h = All-nil (IsEarly (length names) names)
early_all names (r ∷ rs) h = All-cons (IsEarly (length names) names) r rs (λ l. subst (λ xs. IsOver xs r.fun.body) (sym (all_taken names)) h.0.body.over) (early_all names rs h.1)

pub begins : (p : Progress) (site : Site) (own : Environment) → IsSound p.table → Sees p site own → Begins p site own
begins p site own sound s =
    let names = p.table.names in
    record {
      sees = s;
      begun = omega arith;
      around = All-weaker (AreOver names) (AreOver (take (length names) names)) (over_all names) (site_of site).around s.around;
      units = All-weaker (λ (unit : UnitEntry). IsSettled p.table unit.entries) (λ unit. AreOver (take (length names) names) unit.entries) (λ unit k. over_all names unit.entries k.over) (site_of site).units s.units;
      made_before = made_below p _ _ site.tops.before.now.detailed s.kept_before;
      made_added = made_below p _ _ site.tops.added.now.detailed s.kept_added;
      early = early_all names p.table.realizations sound.realizations;
    }

-- ---- what a look-up goes through
pub sees_over : (p : Progress) (site : Site) (own : Environment) → IsSound p.table → Sees p site own → SeesOver p.table.names site own
sees_over p site own sound s = record {
  around = s.around;
  units = All-weaker (λ (unit : UnitEntry). IsSettled p.table unit.entries) (λ unit. AreOver p.table.names unit.entries) (λ unit k. k.over) (site_of site).units s.units;
  initial = initial_over p.table sound;
  body = s.body;
}
