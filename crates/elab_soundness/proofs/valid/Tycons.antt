-- Descriptions of type constructors and of datatypes keep a body sound.
use Rattle.std.proofs.Common.{◌≡◌, inl, inr, ℕ, zero, suc, ◌+◌, ◌-◌, ◌≤◌, Bool, true, false, not, nat_le, List, [], ◌∷◌, ◌++◌, drop, length, slice_get, Option, Some, None, Ok, eq-eqb, refl, sym, ap, ◌∙◌, subst, arith}
use Rattle.std.proofs.lemmas.Bool.{and_from, and_parts, leb-true}
use Rattle.std.proofs.lemmas.List.{length-append, length-map}
use Rattle.std.proofs.lemmas.List.Elements.{All-cons, All-head, All-nil, All-tail, Contains-push}
use Rattle.std.specs.List.{All, Contains}
use Rattle.sig_parser.specs.declared.tree.DataDesc.{DataDesc}
use Rattle.sig_parser.specs.declared.tree.TypeDesc.{TypeDesc}
use Rattle.ty_parser.specs.declared.tree.TypeAt.{TypeAt}
use Rattle.type_core.specs.declared.names.Equality.{Equality}
use Rattle.type_core.specs.declared.names.Equality.TheVariants.{IfArgs}
use Rattle.type_core.specs.declared.names.TypeName.{TypeName}
use Rattle.type_core.specs.declared.ty.Ty.{Ty}
use Rattle.type_core.specs.declared.ty.VarId.{VarId}
use Rattle.type_core.specs.declared.type_fn.TypeFn.{TypeFn}
use Rattle.type_core.specs.Types.{takes}
use Rattle.elab_env.specs.Names.{described, is_own, with_equality}
use Rattle.elab_env.specs.Parameters.{name_function}
use Rattle.elab_env.proofs.NameLists.{keeps_appended, keeps_settled, length-with_equality}
use Rattle.elab_rules.specs.declared.entry.TypeEntry.{TypeEntry}
use Rattle.elab_rules.specs.Bodies.{Described, Site, added}
use Rattle.elab_rules.specs.Constructors.{constructors_described}
use Rattle.elab_rules.specs.Datatypes.{datatype_entry, datatype_family, datatype_head, datatype_heads, datatypes_described, group_constructed, identifiers, settled}
use Rattle.elab_rules.specs.Environments.{Environment, is_new_type, the_type}
use Rattle.elab_rules.specs.Equality.{by_choice, greatest, union, with_choice}
use Rattle.elab_rules.specs.Outcome.{Outcome}
use Rattle.elab_types.specs.Outcome.{and_then}
use Rattle.elab_rules.specs.Parameters.{parameters_checked, variables_at}
use Rattle.elab_soundness.specs.Soundness.{AreNamed, IsSoundFunction, IsTypeId, known_by, paths_within}
use Rattle.elab_types.specs.Sources.{text_at, variable}
use Rattle.elab_soundness.specs.Spelling.{IsSpelledDatatype, IsSpelledIfGiven, IsSpelledTycon}
use Rattle.elab_rules.specs.States.{State, with_name, within}
use Rattle.elab_rules.specs.TypeDescriptions.{group_described, head, plain_type, right_place, right_side, type_described, types_described}
use Rattle.elab_rules.specs.Types.{typed}
use Rattle.elab_soundness.proofs.valid.Body.{Extends, IsSoundBody, IsSoundSite, IsUsual, added_parts, body_added, body_together, body_with, external_known, name_extends, names_with_name, new_type, one_type}
use Rattle.elab_soundness.proofs.valid.Made.{name_sound}
use Rattle.elab_types.proofs.Outcomes.{checked_parts, ok_is, then_parts}
use Rattle.elab_soundness.proofs.valid.Outcomes.{kept_in_turn}
use Rattle.elab_soundness.proofs.valid.Paths.{tycon_paths}
use Rattle.elab_soundness.proofs.valid.Settled.{named_settled, settled_after, sound_settled}
use Rattle.elab_soundness.proofs.valid.States.{Keeps, flag_past, flag_unset, get_last, keeps_added, known_added, takes_appended}
use Rattle.elab_soundness.proofs.valid.Typed.{typed_sound}
use Rattle.elab_soundness.proofs.valid.Values.{IsKept, constructors_kept, entry_added, kept_itself, kept_then, marked_closable, stand_before}
use Rattle.elab_soundness.proofs.valid.Weaker.{AreSound, entries_still, environment_still}

-- ---- the head of a description
pub record HeadParts {A : Type 0} (params : List ℕ) (is_new : Bool) (site : Site) (next : List VarId → Outcome A) (r : A) : Type 0 where
  pub new : is_new ≡ true
  pub few : length (variables_at site.texts params) ≤ 1999
  pub rest : next (variables_at site.texts params) ≡ Ok r

head_parts : {A : Type 0} (params : List ℕ) (is_new : Bool) (id : ℕ) (site : Site) (next : List VarId → Outcome A) (r : A) → head params is_new id site next ≡ Ok r → HeadParts params is_new site next r
head_parts params is_new id site next r e =
    let a = then_parts (parameters_checked site.texts [] params) _ r e in
    let b = checked_parts is_new _ id _ r a.2 in
    let c = checked_parts (nat_le (1 + length params) 2000) _ id _ r b.1 in
    record { new = b.0; few = omega (arith, length-map params (variable site.texts), leb-true (1 + length params) 2000 c.0); rest = c.1 }

-- ---- a name that was described last
last_known : (path : List ℕ) (arity : ℕ) (equality : Equality) (s : State) → length s.gone ≡ length s.names → known_by (with_name path arity equality s) (length s.names) arity ≡ true
last_known path arity equality s counted =
    let name : TypeName = described path arity equality in
    and_from _ _ (ap (λ o. takes o arity) (get_last s.names name) ∙ eq-eqb arity arity refl)
    (ap not (flag_unset s.gone (name ∷ []) (length s.names) ∙ flag_past s.gone (length s.names) (omega (arith, counted))))

keeps_named : (path : List ℕ) (arity : ℕ) (equality : Equality) (s : State) → Keeps s (with_name path arity equality s)
keeps_named path arity equality s =
    let name : TypeName = described path arity equality in
    record {
      known = λ n count e. let p = and_parts (takes (slice_get s.names n) count) _ e in and_from _ _ (takes_appended s.names (name ∷ []) n count p.0) (ap not (flag_unset s.gone (name ∷ []) n) ∙ p.1);
      own = (keeps_appended s.names (name ∷ [])).own;
    }

-- the type constructor of a name has its path
pub name_named : (path : List ℕ) (type : TypeEntry) (arity : ℕ) (equality : Equality) → AreNamed (paths_within path (the_type type ∷ [])) (described (within path type.id) arity equality ∷ []) (false ∷ [])
name_named path type arity equality =
    let p = within path type.id in
    subst (λ ps. AreNamed ps (described p arity equality ∷ []) (false ∷ [])) (sym (tycon_paths.type path type []))
    (record { described = All-cons (Contains (p ∷ [])) p [] (Contains-push [] p) (All-nil _); distinct = λ i j x l m e. absurd (omega (arith, l, m)) })

-- the names from this number on are described ones
abbrev AreOwn : List Bool → ℕ → List TypeName → Type 0
AreOwn [] n names = Unit {0}
AreOwn (c ∷ choice) n names = (is_own (slice_get names n) ≡ true) × AreOwn choice (n + 1) names

own_settled : (at : ℕ) (equality : Equality) (choice : List Bool) (n : ℕ) (names : List TypeName) → AreOwn choice n names → AreOwn choice n (with_equality at equality names)
own_settled at equality [] n names h = tt
own_settled at equality (c ∷ choice) n names h = ((keeps_settled at equality names).own n h.0, own_settled at equality choice (n + 1) names h.1)

usual_choice : (b : Bool) → IsUsual (by_choice b)
usual_choice true = inr refl
usual_choice false = inl refl

length-union : (count : ℕ) (test : List Bool → Bool) → length (union count test) ≡ count
length-union zero test = refl
length-union (suc count) test = ap (λ n. suc n) (length-union count _)

length-greatest : (n count : ℕ) (entries : Environment) (names : List TypeName) → length (greatest n count entries names) ≡ count
unfolding greatest
length-greatest n count entries names = length-union count _

-- ---- the equality of a described name
pub settled_extends : (base s : State) (more : List TypeName) (flags : List Bool) (at : ℕ) (equality : Equality) (weight : ℕ) → length base.names ≤ at → Extends base s more flags
    → Extends base (record { names = with_equality at equality s.names; gone = s.gone; weight = weight }) (with_equality (at - length base.names) equality more) flags
settled_extends base s more flags at equality weight l x = record {
  names = ap (with_equality at equality) x.names ∙ settled_after at equality base.names more l;
  gone = x.gone;
  counted = x.counted ∙ sym (length-with_equality (at - length base.names) equality more);
}

keeps_equality : (at : ℕ) (equality : Equality) (s : State) (weight : ℕ) → Keeps s (record { names = with_equality at equality s.names; gone = s.gone; weight = weight })
keeps_equality at equality s weight = record {
  known = λ n count e. let p = and_parts (takes (slice_get s.names n) count) _ e in and_from _ _ ((keeps_settled at equality s.names).arities n count p.0) p.1;
  own = (keeps_settled at equality s.names).own;
}

module _ (tops : List (List ℕ)) (base : State) (site : Site) (seen : IsSoundSite tops base site) where
  abbrev Body : Environment → State → Type 0
  Body = IsSoundBody tops base site.path

  abbrev Kept : State → Environment × State → Type 0
  Kept = IsKept tops base site seen

  -- ---- a new name
  record NewName (s : State) (arity : ℕ) (r : Environment × State) : Type 0 where
    kept : Kept s r
    known : known_by r.1 (length s.names) arity ≡ true
    own : is_own (slice_get r.1.names (length s.names)) ≡ true
    count : length r.1.names ≡ length s.names + 1

  name_added : (id : List ℕ) (arity : ℕ) (equality : Equality) (constructors : List (List ℕ)) (token : ℕ) (own : Environment) (s : State) (r : Environment × State) → is_new_type id own ≡ true → IsTypeId id → arity ≤ 1999 → IsUsual equality
      → Body own s
      → added site (the_type (record { id = id; fun = name_function (length s.names) arity; constructors = constructors })) token own (with_name (within site.path id) arity equality s) ≡ Ok r → NewName s arity r
  name_added id arity equality constructors token own s r new spelled few usual h e =
      let type : TypeEntry = record { id = id; fun = name_function (length s.names) arity; constructors = constructors } in
      let path = within site.path id in
      let t = with_name path arity equality s in
      let known = last_known path arity equality s (h.sound).counted in
      let body : Body (own ++ the_type type ∷ []) t =
      body_together tops base site.path own (the_type type ∷ []) s t (described path arity equality ∷ []) (false ∷ []) h (name_extends path arity equality s) (names_with_name tops path arity equality s usual few h.sound)
      (one_type (known_by t) type (record { id = spelled; fun = name_sound (known_by t) (length s.names) arity known few })) (new_type type own new) (name_named site.path type arity equality) in
      let last = entry_added tops base site seen (the_type type) token own t r body e in
      let a = added_parts site (the_type type) token own t r e in
      let grown : Keeps s t = keeps_named path arity equality s in
      record {
        kept = kept_then tops base site seen s t r grown last;
        known = (last.grows).known (length s.names) arity known;
        own = (last.grows).own (length s.names) (ap is_own (get_last s.names (described path arity equality)));
        count = sym (ap length (a.alike).names) ∙ length-append s.names (described path arity equality ∷ []);
      }

  -- ---- a description with a right side or without one
  module _ (equality : Equality) (usual : IsUsual equality) (before : Environment) where
    with_right_side : (id : List ℕ) (f : TypeFn) (token : ℕ) (own : Environment) (s : State) (r : Environment × State) → is_new_type id own ≡ true → IsTypeId id → IsSoundFunction (known_by s) f → Body own s
        → added site (the_type (plain_type id f)) token own s ≡ Ok r → Kept s r
    with_right_side id f token own s r new spelled sound h e =
        entry_added tops base site seen (the_type (plain_type id f)) token own s r
        (body_with tops base site.path own (the_type (plain_type id f) ∷ []) s h (one_type (known_by s) (plain_type id f) (record { id = spelled; fun = sound })) (new_type (plain_type id f) own new)) e

    by_right_side : (rhs : Option TypeAt) (id : List ℕ) (vs : List VarId) (token : ℕ) (own : Environment) (s : State) (q : TypeFn × State) (r : Environment × State) → is_new_type id own ≡ true → IsTypeId id → length vs ≤ 1999
        → IsSpelledIfGiven site.texts rhs → AreSound (known_by s) before → Body own s → right_side rhs id equality vs site before s ≡ Ok q → added site (the_type (plain_type id q.0)) token own q.1 ≡ Ok r → Kept s r
    by_right_side None id vs token own s q r new spelled few given earlier h e f =
        let is = ok_is (name_function (length s.names) (length vs), with_name (within site.path id) (length vs) equality s) q e in
        (name_added id (length vs) equality [] token own s r new spelled few usual h (ap (λ (x : TypeFn × State). added site (the_type (plain_type id x.0)) token own x.1) is ∙ f)).kept
    by_right_side (Some t) id vs token own s q r new spelled few given earlier h e f =
        let place = right_place site t.first vs before in
        let last : Ty × State → Outcome (TypeFn × State) = λ x. Ok (record { arity = length vs; body = x.0 }, x.1) in
        let a = then_parts (typed t.ty place s) last q e in
        let b = typed_sound tops known_by (known_added tops) (external_known tops) place t.ty given s a.0 (stand_before tops base site seen own before s earlier h) a.1 in
        let fun : TypeFn = record { arity = length vs; body = a.0.0 } in
        let is = ok_is (fun, a.0.1) q a.2 in
        let made = (b.typed).made in
        kept_then tops base site seen s a.0.1 r (keeps_added tops s a.0.1 b.adds)
        (with_right_side id fun token own a.0.1 r new spelled (record { formed = record { arity = few; function = made.variables; body = made.sound }; limits = (b.typed).limits }) (body_added tops base site.path own s a.0.1 b.adds h)
        (ap (λ (x : TypeFn × State). added site (the_type (plain_type id x.0)) token own x.1) is ∙ f))

    type_kept : (d : TypeDesc) (own : Environment) (s : State) (r : Environment × State) → IsSpelledTycon site.texts d → AreSound (known_by s) before → Body own s → type_described equality d before site own s ≡ Ok r → Kept s r
    type_kept d own s r spelled earlier h e =
        let id = text_at site.texts d.id in
        let last : TypeFn × State → Described = λ q. added site (the_type (plain_type id q.0)) d.id own q.1 in
        let a = head_parts d.params (is_new_type id own) d.id site (λ vs. and_then (right_side d.rhs id equality vs site before s) last) r e in
        let b = then_parts (right_side d.rhs id equality (variables_at site.texts d.params) site before s) last r a.rest in
        by_right_side d.rhs id (variables_at site.texts d.params) d.id own s b.0 r a.new (record { spelled = spelled.0.0; short = spelled.0.1 }) a.few spelled.1 earlier h b.1 b.2

    group_kept : (ds : List TypeDesc) (own : Environment) (s : State) (r : Environment × State) → All (IsSpelledTycon site.texts) ds → AreSound (known_by s) before → Body own s → group_described equality ds before site own s ≡ Ok r → Kept s r
    group_kept ds own s r spelled earlier h e =
        kept_in_turn (IsSpelledTycon site.texts) (λ env t. Kept s (env, t)) (λ d. type_described equality d before) site
        (λ d env t q k kept f. kept_then tops base site seen s t q kept.grows (type_kept d env t q k (entries_still (known_by s) (known_by t) (kept.grows).known before earlier) kept.body f))
        ds own s r spelled (kept_itself tops base site seen own s h) e

  pub types_kept : (equality : Equality) (ds : List TypeDesc) (own : Environment) (s : State) (r : Environment × State) → IsUsual equality → All (IsSpelledTycon site.texts) ds → Body own s → types_described equality ds site own s ≡ Ok r → Kept s r
  types_kept equality ds own s r usual spelled h e = group_kept equality usual own ds own s r spelled (h.env).entries h e

  -- ---- datatypes
  -- the names from this number on are described ones, with the arities of the datatypes
  abbrev AreHeaded : List DataDesc → ℕ → State → Type 0
  AreHeaded [] n s = Unit {0}
  AreHeaded (d ∷ ds) n s = ((known_by s n (length (variables_at site.texts d.params)) ≡ true) × (is_own (slice_get s.names n) ≡ true) × (length (variables_at site.texts d.params) ≤ 1999)) × AreHeaded ds (n + 1) s

  headed_still : (ds : List DataDesc) (n : ℕ) (s t : State) → Keeps s t → AreHeaded ds n s → AreHeaded ds n t
  headed_still [] n s t k h = tt
  headed_still (d ∷ ds) n s t k h = ((k.known n (length (variables_at site.texts d.params)) h.0.0, k.own n h.0.1, h.0.2), headed_still ds (n + 1) s t k h.1)

  head_kept : (d : DataDesc) (own : Environment) (s : State) (r : Environment × State) → IsSpelledDatatype site.texts d → Body own s → datatype_head d site own s ≡ Ok r
      → NewName s (length (variables_at site.texts d.params)) r × (length (variables_at site.texts d.params) ≤ 1999)
  head_kept d own s r spelled h e =
      let id = text_at site.texts d.id in
      let last : List VarId → Described = λ vs. added site (the_type (datatype_entry id (length s.names) (length vs) (identifiers site.texts d.cons))) d.id own (with_name (within site.path id) (length vs) IfArgs s) in
      let a = head_parts d.params (is_new_type id own) d.id site last r e in
      (name_added id (length (variables_at site.texts d.params)) IfArgs (identifiers site.texts d.cons) d.id own s r a.new (record { spelled = spelled.0.0; short = spelled.0.1 }) a.few (inr refl) h a.rest, a.few)

  record Headed (ds : List DataDesc) (s : State) (r : Environment × State) : Type 0 where
    kept : Kept s r
    headed : AreHeaded ds (length s.names) r.1

  heads_kept : (ds : List DataDesc) (own : Environment) (s : State) (r : Environment × State) → All (IsSpelledDatatype site.texts) ds → Body own s → datatype_heads ds site own s ≡ Ok r → Headed ds s r
  heads_kept [] own s r spelled h e = subst (Headed [] s) (ok_is (own, s) r e) (record { kept = kept_itself tops base site seen own s h; headed = tt })
  heads_kept (d ∷ ds) own s r spelled h e =
      let a = then_parts (datatype_head d site own s) (λ (q : Environment × State). datatype_heads ds site q.0 q.1) r e in
      let b = head_kept d own s a.0 (All-head (IsSpelledDatatype site.texts) d ds spelled) h a.1 in
      let first = b.0 in
      let kept = first.kept in
      let c = heads_kept ds a.0.0 a.0.1 r (All-tail (IsSpelledDatatype site.texts) d ds spelled) kept.body a.2 in
      let rest = c.kept in
      record {
        kept = kept_then tops base site seen s a.0.1 r kept.grows rest;
        headed = (
          ((rest.grows).known (length s.names) (length (variables_at site.texts d.params)) first.known, (rest.grows).own (length s.names) first.own, b.1),
          subst (λ n. AreHeaded ds n r.1) first.count c.headed,
        );
      }

  constructed_kept : (ds : List DataDesc) (n : ℕ) (own : Environment) (s : State) (r : Environment × State) → All (IsSpelledDatatype site.texts) ds → AreHeaded ds n s → Body own s → group_constructed ds n site own s ≡ Ok r → Kept s r
  constructed_kept [] n own s r spelled headed h e = subst (Kept s) (ok_is (own, s) r e) (kept_itself tops base site seen own s h)
  constructed_kept (d ∷ ds) n own s r spelled headed h e =
      let vs = variables_at site.texts d.params in
      let a = then_parts (constructors_described d.cons (datatype_family n vs) site own s) (λ (q : Environment × State). group_constructed ds (n + 1) site q.0 q.1) r e in
      let b = constructors_kept tops base site seen (datatype_family n vs) d.cons own s a.0 (marked_closable (known_by s) n vs headed.0.0 headed.0.2) (All-head (IsSpelledDatatype site.texts) d ds spelled).1 h a.1 in
      let c = constructed_kept ds (n + 1) a.0.0 a.0.1 r (All-tail (IsSpelledDatatype site.texts) d ds spelled) (headed_still ds (n + 1) s a.0.1 b.grows headed.1) b.body a.2 in
      kept_then tops base site seen s a.0.1 r b.grows c

  -- ---- equality
  body_settled : (at : ℕ) (equality : Equality) (own : Environment) (s : State) (weight : ℕ) → length base.names ≤ at → IsUsual equality → is_own (slice_get s.names at) ≡ true → Body own s
      → Body own (record { names = with_equality at equality s.names; gone = s.gone; weight = weight })
  body_settled at equality own s weight l usual is h =
      let t : State = record { names = with_equality at equality s.names; gone = s.gone; weight = weight } in
      let k : Keeps s t = keeps_equality at equality s weight in
      record {
        more = with_equality (at - length base.names) equality h.more;
        flags = h.flags;
        extends = settled_extends base s h.more h.flags at equality weight l h.extends;
        sound = sound_settled tops at equality s weight (omega (arith, l, seen.later)) usual is h.sound;
        env = environment_still (known_by s) (known_by t) k.known own h.env;
        named = named_settled (paths_within site.path own) (at - length base.names) equality h.more h.flags h.named;
      }

  chosen_kept : (choice : List Bool) (n : ℕ) (own : Environment) (s : State) → length base.names ≤ n → AreOwn choice n s.names → Body own s → Kept s (own, record { names = with_choice n choice s.names; gone = s.gone; weight = s.weight })
  chosen_kept [] n own s l is h = kept_itself tops base site seen own s h
  chosen_kept (c ∷ choice) n own s l is h =
      let t : State = record { names = with_equality n (by_choice c) s.names; gone = s.gone; weight = s.weight } in
      let rest = chosen_kept choice (n + 1) own t (omega (arith, l)) (own_settled n (by_choice c) choice (n + 1) s.names is.1) (body_settled n (by_choice c) own s s.weight l (usual_choice c) is.0 h) in
      kept_then tops base site seen s t (own, record { names = with_choice n (c ∷ choice) s.names; gone = s.gone; weight = s.weight }) (keeps_equality n (by_choice c) s s.weight) rest

  headed_own : (ds : List DataDesc) (choice : List Bool) (n : ℕ) (s : State) → length choice ≡ length ds → AreHeaded ds n s → AreOwn choice n s.names
  headed_own ds [] n s e h = tt
  headed_own [] (c ∷ choice) n s e h = absurd (omega (arith, e))
  headed_own (d ∷ ds) (c ∷ choice) n s e h = (h.0.1, headed_own ds choice (n + 1) s (omega (arith, e)) h.1)

  base_first : (own : Environment) (s : State) → Body own s → length base.names ≤ length s.names
  base_first own s h = omega (arith, ap length (h.extends).names, length-append base.names h.more)

  pub datatypes_kept : (ds : List DataDesc) (own : Environment) (s : State) (r : Environment × State) → All (IsSpelledDatatype site.texts) ds → Body own s → datatypes_described ds site own s ≡ Ok r → Kept s r
  datatypes_kept ds own s r spelled h e =
      let n = length s.names in
      let final : Environment × State → Described = λ q. Ok (q.0, settled n (length ds) (drop (length own) q.0) q.1) in
      let next : Environment × State → Described = λ heads. and_then (group_constructed ds n site heads.0 heads.1) final in
      let a = then_parts (datatype_heads ds site own s) next r e in
      let b = heads_kept ds own s a.0 spelled h a.1 in
      let kept = b.kept in
      let c = then_parts (group_constructed ds n site a.0.0 a.0.1) final r a.2 in
      let d = constructed_kept ds n a.0.0 a.0.1 c.0 spelled b.headed kept.body c.1 in
      let choice = greatest n (length ds) (drop (length own) c.0.0) c.0.1.names in
      let own_now = headed_own ds choice n c.0.1 (length-greatest n (length ds) (drop (length own) c.0.0) c.0.1.names) (headed_still ds n a.0.1 c.0.1 d.grows b.headed) in
      let last : Environment × State = (c.0.0, settled n (length ds) (drop (length own) c.0.0) c.0.1) in
      let all = chosen_kept choice n c.0.0 c.0.1 (base_first own s h) own_now d.body in
      subst (Kept s) {x = last} (ok_is last r c.2) (kept_then tops base site seen s a.0.1 last kept.grows (kept_then tops base site seen a.0.1 c.0.1 last d.grows all))
