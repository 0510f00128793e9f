-- Descriptions of values, constructors and exceptions keep a body sound.
use Rattle.std.proofs.Common.{◌≡◌, ℕ, ◌+◌, ◌≤◌, true, nat_le, List, [], ◌∷◌, ◌++◌, length, map, Option, Some, None, Ok, refl, sym, ap, ap₂, ◌∙◌, subst, arith, suc}
use Rattle.std.proofs.lemmas.Bool.{leb-true}
use Rattle.std.proofs.lemmas.List.Elements.{All-cons, All-nil}
use Rattle.std.specs.List.{All}
use Rattle.sig_parser.specs.declared.tree.ConDesc.{ConDesc}
use Rattle.sig_parser.specs.declared.tree.ValDesc.{ValDesc}
use Rattle.ty_parser.specs.declared.tree.TypeAt.{TypeAt}
use Rattle.type_core.specs.declared.member.Kind.{Kind}
use Rattle.type_core.specs.declared.member.Kind.TheVariants.{Val}
use Rattle.type_core.specs.declared.ty.Ty.{Ty}
use Rattle.type_core.specs.declared.ty.Ty.TheVariants as ty
use Rattle.type_core.specs.declared.ty.VarId.{VarId}
use Rattle.type_core.specs.Height.{height_of}
use Rattle.type_core.specs.Lists.{greatest_of, sum_of}
use Rattle.type_core.specs.NormalSize.{normal_size_of}
use Rattle.type_core.specs.Size.{size_of}
use Rattle.type_core.specs.ValidLibrary.{IsWithinLimits}
use Rattle.type_core.proofs.Trees.{height_con, height_var, normal_size_con, size_con, size_var}
use Rattle.elab_rules.specs.declared.entry.Entry.{Entry}
use Rattle.elab_rules.specs.Bodies.{Described, Site, added}
use Rattle.elab_rules.specs.Constructors.{Family, argument_place, constructor_described, constructor_type, constructors_described}
use Rattle.elab_rules.specs.Environments.{Environment, is_new_value, the_value}
use Rattle.elab_rules.specs.Exceptions.{exceptions, exceptions_described}
use Rattle.elab_rules.specs.Outcome.{Outcome}
use Rattle.elab_types.specs.Outcome.{and_then}
use Rattle.elab_rules.specs.Parameters.{marked, numbered_from}
use Rattle.elab_soundness.specs.Soundness.{IsSoundType, IsValueId, Known, known_by}
use Rattle.elab_types.specs.Sources.{text_at}
use Rattle.elab_soundness.specs.Spelling.{IsSpelledConstructor, IsSpelledIfGiven, IsSpelledValue}
use Rattle.elab_rules.specs.States.{State}
use Rattle.elab_rules.specs.Types.{limited, typed}
use Rattle.elab_rules.specs.Values.{closed_value, normal_limited, value_described, value_place, values_described}
use Rattle.elab_soundness.proofs.valid.Body.{IsSoundBody, IsSoundSite, added_parts, body_added, body_alike, body_with, external_known, known_extended, new_value, one_value, see_from}
use Rattle.elab_soundness.proofs.valid.Made.{IsMade, made_con, made_var, sound_arrow}
use Rattle.elab_types.proofs.Outcomes.{checked_parts, ok_is, then_parts}
use Rattle.elab_soundness.proofs.valid.Outcomes.{kept_in_turn}
use Rattle.elab_soundness.proofs.valid.Renamed.{closed_sound}
use Rattle.elab_soundness.proofs.valid.Sought.{CanStand}
use Rattle.elab_soundness.proofs.valid.States.{Adds, Keeps, adds_none, keeps_added, keeps_all, keeps_then, known_added}
use Rattle.elab_soundness.proofs.valid.Typed.{limited_parts, typed_sound}
use Rattle.elab_soundness.proofs.valid.Weaker.{AreSound, sound_usable, type_still}

-- a type of which a scheme can be made
pub record IsClosable (known : Known) (t : Ty) : Type 0 where
  pub sound : IsSoundType known t
  pub limits : IsWithinLimits t
  pub normal : normal_size_of t ≤ 8000

pub closable_still : (known after : Known) → ((n count : ℕ) → known n count ≡ true → after n count ≡ true) → (t : Ty) → IsClosable known t → IsClosable after t
closable_still known after more t h = record { sound = type_still known after more t h.sound; limits = h.limits; normal = h.normal }

-- ---- what constructors make
numbered : (known : Known) (first : ℕ) (vs : List VarId) → All (IsMade known (λ v. true)) (numbered_from first vs)
numbered known first [] = All-nil _
numbered known first (v ∷ vs) = All-cons (IsMade known (λ w. true)) _ (numbered_from (first + 1) vs) (made_var known (λ w. true) _ refl) (numbered known (first + 1) vs)

length-numbered : (first : ℕ) (vs : List VarId) → length (numbered_from first vs) ≡ length vs
length-numbered first [] = refl
length-numbered first (v ∷ vs) = ap suc (length-numbered (first + 1) vs)

sizes_numbered : (first : ℕ) (vs : List VarId) → sum_of (map size_of (numbered_from first vs)) ≡ length vs
sizes_numbered first [] = refl
sizes_numbered first (v ∷ vs) = ap₂ ◌+◌ (size_var _) (sizes_numbered (first + 1) vs) ∙ (let e : 1 + length vs ≡ suc (length vs) = omega arith in e)

heights_numbered : (first : ℕ) (vs : List VarId) → greatest_of (map height_of (numbered_from first vs)) ≤ 1
heights_numbered first [] = omega arith
heights_numbered first (v ∷ vs) = omega (arith, height_var (record { n = first; eq = v.eq }), heights_numbered (first + 1) vs)

pub marked_closable : (known : Known) (n : ℕ) (vs : List VarId) → known n (length vs) ≡ true → length vs ≤ 1999 → IsClosable known (marked n vs)
marked_closable known n vs may few =
    let nodes : size_of (marked n vs) ≤ 2000 = omega (arith, size_con (record { 0 = n }) (numbered_from 0 vs), sizes_numbered 0 vs, few) in
    record {
      sound = (made_con known (λ v. true) (record { 0 = n }) (numbered_from 0 vs) (ap (known n) (length-numbered 0 vs) ∙ may) (numbered known 0 vs)).sound;
      limits = record { nodes = nodes; height = omega (arith, height_con (record { 0 = n }) (numbered_from 0 vs), heights_numbered 0 vs) };
      normal = omega (arith, normal_size_con (record { 0 = n }) (numbered_from 0 vs), nodes);
    }

module _ (tops : List (List ℕ)) (base : State) (site : Site) (seen : IsSoundSite tops base site) where
  abbrev Body : Environment → State → Type 0
  Body = IsSoundBody tops base site.path

  -- the body is sound afterwards, and names are kept
  pub record IsKept (s : State) (r : Environment × State) : Type 0 where
    pub body : Body r.0 r.1
    pub grows : Keeps s r.1

  pub kept_itself : (own : Environment) (s : State) → Body own s → IsKept s (own, s)
  kept_itself own s h = record { body = h; grows = keeps_all s }

  pub kept_then : (s t : State) (r : Environment × State) → Keeps s t → IsKept t r → IsKept s r
  kept_then s t r more h = record { body = h.body; grows = keeps_then s t r.1 more h.grows }

  pub entry_added : (entry : Entry) (token : ℕ) (own : Environment) (s : State) (r : Environment × State) → Body (own ++ entry ∷ []) s → added site entry token own s ≡ Ok r → IsKept s r
  entry_added entry token own s r h e =
      let a = added_parts site entry token own s r e in
      record {
        body = subst (λ env. Body env r.1) a.env (body_alike tops base site.path (own ++ entry ∷ []) s r.1 a.alike h);
        grows = keeps_added tops s r.1 (adds_none tops s r.1 a.alike);
      }

  pub base_known : (own : Environment) (s : State) → Body own s → (n count : ℕ) → known_by base n count ≡ true → known_by s n count ≡ true
  base_known own s h = known_extended base s h.more h.flags seen.counted h.extends

  -- where another body is seen in place of the present one
  pub stand_before : (own before : Environment) (s : State) → AreSound (known_by s) before → Body own s → CanStand tops known_by (known_added tops) (external_known tops) site before s
  stand_before own before s earlier h = record {
    sound = h.sound;
    sees = see_from tops base site (known_by s) before (base_known own s h) seen (sound_usable (known_by s) (known_by s) (λ n count e. e) before earlier);
    outside = seen.outside;
  }

  pub stand : (own : Environment) (s : State) → Body own s → CanStand tops known_by (known_added tops) (external_known tops) site own s
  stand own s h = stand_before own own s (h.env).entries h

  -- ---- a value
  closed_added : (id : List ℕ) (kind : Kind) (t : Ty) (token : ℕ) (own : Environment) (s : State) (r : Environment × State) → IsValueId id → is_new_value id own ≡ true
      → IsClosable (known_by s) t → Body own s → added site (the_value (closed_value id kind t)) token own s ≡ Ok r → IsKept s r
  closed_added id kind t token own s r spelled new closable h e =
      entry_added (the_value (closed_value id kind t)) token own s r
      (body_with tops base site.path own (the_value (closed_value id kind t) ∷ []) s h
      (one_value (known_by s) (closed_value id kind t) (record { id = spelled; scheme = closed_sound (known_by s) t closable.sound closable.limits closable.normal }))
      (new_value (closed_value id kind t) own new)) e

  value_kept : (value : ValDesc) (own : Environment) (s : State) (r : Environment × State) → IsSpelledValue site.texts value → Body own s → value_described value site own s ≡ Ok r → IsKept s r
  value_kept value own s r spelled h e =
      let id = text_at site.texts value.id in
      let last : Ty × State → Described = λ q. normal_limited value.ty.first q.0 (added site (the_value (closed_value id Val q.0)) value.id own q.1) in
      let a = checked_parts (is_new_value id own) _ value.id _ r e in
      let b = then_parts (typed value.ty.ty (value_place site value.ty.first own) s) last r a.1 in
      let c = typed_sound tops known_by (known_added tops) (external_known tops) (value_place site value.ty.first own) value.ty.ty spelled.1 s b.0 (stand own s h) b.1 in
      let d = checked_parts (nat_le (normal_size_of b.0.0) 8000) _ value.ty.first _ r b.2 in
      kept_then s b.0.1 r (keeps_added tops s b.0.1 c.adds)
      (closed_added id Val b.0.0 value.id own b.0.1 r (record { spelled = spelled.0.0; short = spelled.0.1 }) a.0
      (record { sound = ((c.typed).made).sound; limits = (c.typed).limits; normal = leb-true (normal_size_of b.0.0) 8000 d.0 }) (body_added tops base site.path own s b.0.1 c.adds h) d.1)

  pub values_kept : (values : List ValDesc) (own : Environment) (s : State) (r : Environment × State) → All (IsSpelledValue site.texts) values → Body own s → values_described values site own s ≡ Ok r → IsKept s r
  values_kept values own s r spelled h e =
      kept_in_turn (IsSpelledValue site.texts) (λ env t. IsKept s (env, t)) value_described site
      (λ value env t q k kept f. kept_then s t q kept.grows (value_kept value env t q k kept.body f))
      values own s r spelled (kept_itself own s h) e

  -- ---- a constructor
  record IsConstructed (s : State) (r : Ty × State) : Type 0 where
    adds : Adds tops s r.1
    closable : IsClosable (known_by r.1) r.0

  with_argument : (t : Option TypeAt) (family : Family) (own : Environment) (s : State) (r : Ty × State) → IsSpelledIfGiven site.texts t → IsClosable (known_by s) family.made → Body own s
      → constructor_type t family site own s ≡ Ok r → IsConstructed s r
  with_argument None family own s r spelled made h e =
      subst (IsConstructed s) (ok_is (family.made, s) r e) (record { adds = adds_none tops s s (record { names = refl; gone = refl }); closable = made })
  with_argument (Some t) family own s r spelled made h e =
      let place = argument_place site t.first family.variables own in
      let inner : Ty × State → Outcome (Ty × State) = λ q. normal_limited t.first q.0 (Ok q) in
      let last : Ty × State → Outcome (Ty × State) = λ q. and_then (limited t.first (ty.Arrow q.0 family.made) q.1) inner in
      let a = then_parts (typed t.ty place s) last r e in
      let b = typed_sound tops known_by (known_added tops) (external_known tops) place t.ty spelled s a.0 (stand own s h) a.1 in
      let c = then_parts (limited t.first (ty.Arrow a.0.0 family.made) a.0.1) inner r a.2 in
      let d = limited_parts t.first (ty.Arrow a.0.0 family.made) a.0.1 c.0 c.1 in
      let f = checked_parts (nat_le (normal_size_of c.0.0) 8000) _ t.first _ r c.2 in
      let normal : normal_size_of (ty.Arrow a.0.0 family.made) ≤ 8000 = subst (λ n. n ≤ 8000) (ap (λ (x : Ty × State). normal_size_of x.0) (sym d.0)) (leb-true (normal_size_of c.0.0) 8000 f.0) in
      subst (IsConstructed s) (d.0 ∙ ok_is c.0 r f.1) (record {
        adds = b.adds;
        closable = record {
          sound = sound_arrow (known_by a.0.1) a.0.0 family.made (((b.typed).made).sound) (type_still (known_by s) (known_by a.0.1) (known_added tops s a.0.1 b.adds) family.made made.sound);
          limits = d.1;
          normal = normal;
        };
      })

  constructor_kept : (family : Family) (c : ConDesc) (own : Environment) (s : State) (r : Environment × State) → IsClosable (known_by s) family.made → IsSpelledConstructor site.texts c → Body own s
      → constructor_described c family site own s ≡ Ok r → IsKept s r
  constructor_kept family c own s r made spelled h e =
      let id = text_at site.texts c.id in
      let last : Ty × State → Described = λ q. added site (the_value (closed_value id family.kind q.0)) c.id own q.1 in
      let a = checked_parts (is_new_value id own) _ c.id _ r e in
      let b = then_parts (constructor_type c.arg family site own s) last r a.1 in
      let d = with_argument c.arg family own s b.0 spelled.1 made h b.1 in
      kept_then s b.0.1 r (keeps_added tops s b.0.1 d.adds)
      (closed_added id family.kind b.0.0 c.id own b.0.1 r (record { spelled = spelled.0.0; short = spelled.0.1 }) a.0 d.closable (body_added tops base site.path own s b.0.1 d.adds h) b.2)

  pub constructors_kept : (family : Family) (cs : List ConDesc) (own : Environment) (s : State) (r : Environment × State) → IsClosable (known_by s) family.made → All (IsSpelledConstructor site.texts) cs → Body own s
      → constructors_described cs family site own s ≡ Ok r → IsKept s r
  constructors_kept family cs own s r made spelled h e =
      kept_in_turn (IsSpelledConstructor site.texts) (λ env t. IsKept s (env, t)) (λ c. constructor_described c family) site
      (λ c env t q k kept f. kept_then s t q kept.grows (constructor_kept family c env t q (closable_still (known_by s) (known_by t) (kept.grows).known family.made made) k kept.body f))
      cs own s r spelled (kept_itself own s h) e

  -- ---- exceptions
  pub exceptions_kept : (cs : List ConDesc) (own : Environment) (s : State) (r : Environment × State) → All (IsSpelledConstructor site.texts) cs → Body own s → exceptions_described cs site own s ≡ Ok r → IsKept s r
  exceptions_kept cs own s r spelled h e =
      constructors_kept exceptions cs own s r (marked_closable (known_by s) 6 [] (base_known own s h 6 0 (seen.initial 6 0 refl)) (omega arith)) spelled h e
