-- The parts of a `where` keep a body sound.
use Rattle.std.proofs.Common.{◌≡◌, ℕ, ◌-◌, ◌≤◌, ◌==◌, ◌&&◌, ◌||◌, Bool, true, false, true≢false, not, is_some, nat_le, nat_lt, List, [], ◌∷◌, length, map, slice_get, Option, Some, None, Ok, eqb-true, eq-eqb, lt-ltb, refl, sym, ap, ◌∙◌, subst, arith}
use Rattle.std.proofs.lemmas.Bool.{and_from, and_parts, leb-true, ltb-true, le-leb}
use Rattle.std.proofs.lemmas.List.{length-map}
use Rattle.std.proofs.lemmas.Option.{slice_get_within}
use Rattle.std.proofs.lemmas.List.Elements.{All-cons, All-head, All-nil, All-tail}
use Rattle.std.specs.List.{All}
use Rattle.sig_parser.specs.declared.tree.WherePart.{WherePart}
use Rattle.type_core.specs.declared.names.TypeName.{TypeName}
use Rattle.type_core.specs.declared.ty.Ty.{Ty}
use Rattle.type_core.specs.declared.type_fn.TypeFn.{TypeFn}
use Rattle.type_core.specs.Height.{height_of}
use Rattle.type_core.specs.InitialNames.{initial_names}
use Rattle.type_core.specs.Lists.{all_true}
use Rattle.type_core.specs.NormalSize.{normal_size_of}
use Rattle.type_core.specs.Size.{size_of}
use Rattle.type_core.specs.Substitution.{allows, each_variable}
use Rattle.type_core.specs.TypeFunctions.{IsTypeFn}
use Rattle.type_core.specs.Types.{IsOver, takes}
use Rattle.type_core.specs.ValidLibrary.{IsWithinLimits}
use Rattle.elab_env.specs.declared.realization.Realization.{Realization}
use Rattle.elab_env.specs.Names.{arity_of, equality_at, is_own}
use Rattle.elab_env.specs.Realizations.{replaced}
use Rattle.elab_env.specs.Sound.{IsRealization}
use Rattle.elab_env.proofs.Replacing.{type_replaced, variables_replaced}
use Rattle.elab_rules.specs.declared.entry.TypeEntry.{TypeEntry}
use Rattle.elab_rules.specs.declared.entry.ValueEntry.{ValueEntry}
use Rattle.elab_rules.specs.declared.refusal.Why.TheVariants.{NotFlexible, Unbound}
use Rattle.elab_rules.specs.Bodies.{Described, Site}
use Rattle.elab_rules.specs.Environments.{Environment}
use Rattle.elab_rules.specs.Equality.{admits, is_never}
use Rattle.sig_base.specs.LongIdentifiers.{parts}
use Rattle.elab_rules.specs.LongIdentifiers.{Found, type_along}
use Rattle.elab_rules.specs.Outcome.{Outcome}
use Rattle.elab_types.specs.Outcome.{and_then, required}
use Rattle.elab_rules.specs.Parameters.{parameters_checked, variables_at}
use Rattle.elab_rules.specs.Replacing.{denoted, flexible, replaced_in, type_with, value_with}
use Rattle.elab_rules.specs.Sharing.{with_gone}
use Rattle.elab_soundness.specs.Soundness.{AreNamed, HasSoundNames, IsFormedFunction, IsFormedScheme, IsSoundTycon, IsSoundType, IsSoundValue, IsTypeId, IsUnitId, IsValueId, Known, known_by, no_entries, paths_within}
use Rattle.elab_types.specs.Sources.{text_at, variable}
use Rattle.elab_soundness.specs.Spelling.{IsSpelledPart}
use Rattle.elab_rules.specs.States.{State}
use Rattle.elab_rules.specs.Types.{typed}
use Rattle.elab_rules.specs.Wheres.{has_constructors, part_applied, parts_applied, realized, realized_away, realizing, realizing_place, types_of, value_types_of, within_limits}
use Rattle.elab_rules.proofs.IndexWith.{distinct_with}
use Rattle.elab_soundness.proofs.valid.Body.{IsSoundBody, IsSoundSite, body_added, known_extended, no_dots, see_from}
use Rattle.elab_soundness.proofs.valid.Everywhere.{all_limited, all_with}
use Rattle.elab_soundness.proofs.valid.Joins.{IsFlexible, flexible_parts, takes_own}
use Rattle.elab_soundness.proofs.valid.KnownNames.{names_over, names_replaced, names_weaker}
use Rattle.elab_soundness.proofs.valid.Made.{labels_replaced}
use Rattle.elab_types.proofs.Outcomes.{checked_parts, ok_is, required_parts, then_parts}
use Rattle.elab_soundness.proofs.valid.Paths.{paths_with, tycon_paths}
use Rattle.elab_soundness.proofs.valid.Renamed.{closed_formed}
use Rattle.elab_soundness.proofs.valid.Settled.{flag_other, gone_after, length-with_gone, named_left, sound_left}
use Rattle.elab_soundness.proofs.valid.Sought.{CanStand}
use Rattle.elab_soundness.proofs.valid.States.{Adds, get_appended, known_added}
use Rattle.elab_soundness.proofs.valid.Typed.{typed_sound}

-- ---- names that stand around the expression
-- the names that a right side may mention: those before a number, and those from elsewhere
abbrev pub known_outside : ℕ → State → Known
known_outside base s n count = known_by s n count && (nat_lt n base || not (is_own (slice_get s.names n)))

named_there : (o : Option TypeName) (count : ℕ) → takes o count ≡ true → (name : TypeName) × (o ≡ Some name)
named_there None count e = absurd (true≢false (sym e))
named_there (Some name) count e = (name, refl)

outside_added : (tops : List (List ℕ)) (base : ℕ) (s t : State) → Adds tops s t → (n count : ℕ) → known_outside base s n count ≡ true → known_outside base t n count ≡ true
outside_added tops base s t a n count e =
    let p = and_parts (known_by s n count) _ e in
    let q = and_parts (takes (slice_get s.names n) count) _ p.0 in
    let there = named_there (slice_get s.names n) count q.0 in
    let now : slice_get t.names n ≡ slice_get s.names n = ap (λ names. slice_get names n) a.names ∙ get_appended s.names a.more n there.0 there.1 ∙ sym there.1 in
    and_from _ _ (known_added tops s t a n count p.0) (ap (λ o. nat_lt n base || not (is_own o)) now ∙ p.1)

outside_external : (tops : List (List ℕ)) (base : ℕ) (s : State) (n : ℕ) (name : TypeName) → HasSoundNames tops s → slice_get s.names n ≡ Some name → name.external ≡ true → known_outside base s n name.arity ≡ true
outside_external tops base s n name h at e =
    and_from _ _ (and_from _ _ (ap (λ o. takes o name.arity) at ∙ eq-eqb name.arity name.arity refl) (ap not (h.stay n name at e)))
    (ap (λ o. nat_lt n base || not (is_own o)) at ∙ ap (λ b. nat_lt n base || not (not b)) e ∙ or_true (nat_lt n base))
  where
    or_true : (b : Bool) → (b || true) ≡ true
    or_true true = refl
    or_true false = refl

-- ---- tests
all_from : {A : Type 0} (P : A → Type 0) (test : A → Bool) → ((x : A) → test x ≡ true → P x) → (xs : List A) → all_true (map test xs) ≡ true → All P xs
all_from P test one [] e = All-nil P
all_from P test one (x ∷ xs) e = let p = and_parts (test x) _ e in All-cons P x xs (one x p.0) (all_from P test one xs p.1)

both_all : {A : Type 0} (P Q R : A → Type 0) → ((x : A) → P x → Q x → R x) → (xs : List A) → All P xs → All Q xs → All R xs
both_all P Q R one [] h k = All-nil R
both_all P Q R one (x ∷ xs) h k = All-cons R x xs (one x (All-head P x xs h) (All-head Q x xs k)) (both_all P Q R one xs (All-tail P x xs h) (All-tail Q x xs k))

-- an environment within the limits
record AreWithinLimits (env : Environment) : Type 0 where
  types : All IsWithinLimits (types_of env)
  normal : All (λ t. normal_size_of t ≤ 8000) (value_types_of env)

limits_parts : (token : ℕ) (env : Environment) (s : State) (r : Environment × State) → within_limits token env s ≡ Ok r → AreWithinLimits env × ((env, s) ≡ r)
limits_parts token env s r e =
    let a = checked_parts (all_true (map (λ t. nat_le (size_of t) 2000) (types_of env))) _ token _ r e in
    let b = checked_parts (all_true (map (λ t. nat_le (height_of t) 200) (types_of env))) _ token _ r a.1 in
    let c = checked_parts (all_true (map (λ t. nat_le (normal_size_of t) 8000) (value_types_of env))) _ token _ r b.1 in (
      record {
        types = both_all (λ t. size_of t ≤ 2000) (λ t. height_of t ≤ 200) IsWithinLimits (λ t n h. record { nodes = n; height = h }) (types_of env)
            (all_from (λ t. size_of t ≤ 2000) (λ t. nat_le (size_of t) 2000) (λ t. leb-true (size_of t) 2000) (types_of env) a.0)
            (all_from (λ t. height_of t ≤ 200) (λ t. nat_le (height_of t) 200) (λ t. leb-true (height_of t) 200) (types_of env) b.0);
        normal = all_from (λ t. normal_size_of t ≤ 8000) (λ t. nat_le (normal_size_of t) 8000) (λ t. leb-true (normal_size_of t) 8000) (value_types_of env) c.0;
      },
      ok_is (env, s) r c.1,
    )

module _ (tops : List (List ℕ)) (base : State) (site : Site) (seen : IsSoundSite tops base site) where
  abbrev Body : Environment × State → Type 0
  Body r = IsSoundBody tops base site.path r.0 r.1

  abbrev Outside : State → Known
  Outside s = known_outside (length base.names) s

  -- ---- a right side
  -- a type function of which the body mentions only what stands around, and names from elsewhere
  record IsRightSide (s : State) (r : TypeFn × State) : Type 0 where
    adds : Adds tops s r.1
    function : IsTypeFn r.0
    body : IsSoundType (Outside r.1) r.0.body

  before_outside : (own : Environment) (s : State) → Body (own, s) → (n count : ℕ) → known_by base n count ≡ true → Outside s n count ≡ true
  before_outside own s h n count e =
      let p = and_parts (takes (slice_get base.names n) count) _ e in
      let there = named_there (slice_get base.names n) count p.0 in
      and_from _ _ (known_extended base s h.more h.flags seen.counted h.extends n count e) (ap (λ b. b || not (is_own (slice_get s.names n))) (lt-ltb n (length base.names) (slice_get_within base.names n there.0 there.1)))

  right_side_sound : (part : WherePart) (own : Environment) (s : State) (r : TypeFn × State) → IsSpelledPart site.texts part → Body (own, s) → realizing part site s ≡ Ok r → IsRightSide s r
  right_side_sound part own s r spelled h e =
      let vs = variables_at site.texts part.params in
      let place = realizing_place site part.ty.first vs in
      let last : Ty × State → Outcome (TypeFn × State) = λ q. Ok (record { arity = length part.params; body = q.0 }, q.1) in
      let stands : CanStand tops Outside (outside_added tops (length base.names)) (outside_external tops (length base.names)) site [] s = record {
        sound = h.sound;
        sees = see_from tops base site (Outside s) [] (before_outside own s h) seen no_entries;
        outside = seen.outside;
      } in
      let a = then_parts (typed part.ty.ty place s) last r e in
      let b = typed_sound tops Outside (outside_added tops (length base.names)) (outside_external tops (length base.names)) place part.ty.ty spelled s a.0 stands a.1 in
      let made = (b.typed).made in
      subst (IsRightSide s) (ok_is (let f : TypeFn = record { arity = length part.params; body = a.0.0 } in (f, a.0.1)) r a.2)
      (record { adds = b.adds; function = subst (λ n. each_variable (allows n false) a.0.0 ≡ true) (length-map part.params (variable site.texts)) made.variables; body = made.sound })

  -- ---- one name realized
  module _ (n : ℕ) (f : TypeFn) (own : Environment) (s : State) (h : Body (own, s)) (is : IsFlexible (length base.names) s n) (function : IsTypeFn f) (body : IsSoundType (Outside s) f.body) (arity : f.arity ≡ arity_of (slice_get s.names n)) where
    abbrev r : Realization
    r = record { name = record { 0 = n }; fun = f }

    abbrev now : State
    now = realized_away n s

    other_known : (m count : ℕ) → (m == n) ≡ false → known_by s m count ≡ true → known_by now m count ≡ true
    other_known m count apart e =
        let p = and_parts (takes (slice_get s.names m) count) _ e in
        and_from _ _ p.0 (ap not (flag_other n s.gone m (λ same. true≢false (sym (eq-eqb m n same) ∙ apart))) ∙ p.1)

    not_outside : (m : ℕ) (b : Bool) → (m == n) ≡ b → (nat_lt m (length base.names) || not (is_own (slice_get s.names m))) ≡ true → (m == n) ≡ false
    not_outside m false e k = e
    not_outside m true e k = absurd (by_case (nat_lt m (length base.names)) refl k)
      where
        same : m ≡ n
        same = eqb-true m n e

        by_case : (b : Bool) → nat_lt m (length base.names) ≡ b → (b || not (is_own (slice_get s.names m))) ≡ true → ⊥
        by_case true l k' = absurd (let low = ltb-true m (length base.names) l in omega (arith, low, same, is.later))
        by_case false l k' = true≢false (sym k' ∙ ap not (ap (λ x. is_own (slice_get s.names x)) same ∙ is.own))

    outside_known : (m count : ℕ) → Outside s m count ≡ true → known_by now m count ≡ true
    outside_known m count e = let p = and_parts (known_by s m count) _ e in other_known m count (not_outside m (m == n) refl p.1) p.0

    is_realization : IsRealization s.names r
    is_realization = record {
      described = and_from _ _ (le-leb (length initial_names) n (omega (arith, is.later, seen.later))) is.own;
      arity = takes_own (slice_get s.names n) f.arity is.own arity;
      function = function;
      body = record { is_type = body.is_type; over = names_over (Outside s) s.names (λ m count e. (and_parts (takes (slice_get s.names m) count) _ (and_parts (known_by s m count) _ e).0).0) f.body body.names };
    }

    type_sound : (t : Ty) → IsSoundType (known_by s) t → IsSoundType (known_by now) (replaced r t)
    type_sound t k = record {
      is_type = type_replaced r body.is_type t k.is_type;
      names = names_replaced (known_by s) (known_by now) r (names_weaker (Outside s) (known_by now) outside_known f.body body.names) other_known t k.names;
      labels = labels_replaced r body.labels t k.labels;
    }

    -- what is left of soundness without limits
    record IsFormedTycon (type : TypeEntry) : Type 0 where
      id : IsTypeId type.id
      fun : IsFormedFunction (known_by now) type.fun

    record IsFormedValue (value : ValueEntry) : Type 0 where
      id : IsValueId value.id
      scheme : IsFormedScheme (known_by now) value.scheme

    over : (t : Ty) → IsSoundType (known_by s) t → IsOver s.names t
    over t k = names_over (known_by s) s.names (λ m count e. (and_parts (takes (slice_get s.names m) count) _ e).0) t k.names

    tycon_replaced : (type : TypeEntry) → IsSoundTycon (known_by s) type → IsFormedTycon (type_with (replaced r) type)
    tycon_replaced type k =
        let formed = (k.fun).formed in
        record {
          id = k.id;
          fun = record {
            arity = formed.arity;
            function = variables_replaced r s.names is_realization (allows type.fun.arity false) type.fun.body (over type.fun.body formed.body) formed.function;
            body = type_sound type.fun.body formed.body;
          };
        }

    value_replaced : (value : ValueEntry) → IsSoundValue (known_by s) value → IsFormedValue (value_with (replaced r) value)
    value_replaced value k = record { id = k.id; scheme = closed_formed (known_by now) (replaced r value.scheme.body) (type_sound value.scheme.body (((k.scheme).formed).body)) }

    realized_body : AreWithinLimits (replaced_in r own) → Body (replaced_in r own, now)
    realized_body limits =
        let x = h.extends in
        let entries = all_with (IsSoundTycon (known_by s)) IsFormedTycon (IsSoundValue (known_by s)) IsFormedValue IsUnitId (replaced r) tycon_replaced value_replaced own (h.env).entries in
        record {
          more = h.more;
          flags = with_gone (n - length base.gone) h.flags;
          extends = record {
            names = x.names;
            gone = ap (with_gone n) x.gone ∙ gone_after n base.gone h.flags (omega (arith, seen.counted, is.later));
            counted = length-with_gone (n - length base.gone) h.flags ∙ x.counted;
          };
          sound = sound_left tops n s s.weight is.own h.sound;
          env = record {
            entries = all_limited IsFormedTycon (IsSoundTycon (known_by now)) IsFormedValue (IsSoundValue (known_by now)) IsUnitId IsWithinLimits (λ t. normal_size_of t ≤ 8000)
                (λ type k l. record { id = k.id; fun = record { formed = k.fun; limits = l } })
                (λ value k l m. record { id = k.id; scheme = record { formed = k.scheme; limits = l; normal = m } })
                (replaced_in r own) entries limits.types limits.normal;
            distinct = distinct_with (replaced r) own (h.env).distinct;
          };
          named = subst (λ ps. AreNamed ps h.more (with_gone (n - length base.gone) h.flags)) (sym (paths_with true false paths_within tycon_paths (replaced r) site.path own (no_dots (known_by s) own (h.env).entries)))
              (named_left (paths_within site.path own) (n - length base.gone) h.more h.flags h.named);
        }

  realized_kept : (n : ℕ) (f : TypeFn) (token : ℕ) (own : Environment) (s : State) (q : Environment × State) → Body (own, s) → IsFlexible (length base.names) s n → IsTypeFn f → IsSoundType (Outside s) f.body
      → realized n f token own s ≡ Ok q → Body q
  realized_kept n f token own s q h is function body e =
      let a = checked_parts (f.arity == arity_of (slice_get s.names n)) _ token _ q e in
      let b = checked_parts (not (has_constructors n own) || is_some (denoted f)) _ token _ q a.1 in
      let c = checked_parts (is_never (equality_at s.names n) || admits s.names f.body) _ token _ q b.1 in
      let d = limits_parts token (replaced_in (let r : Realization = record { name = record { 0 = n }; fun = f } in r) own) (realized_away n s) q c.1 in
      subst Body d.1 (realized_body n f own s h is function body (eqb-true f.arity (arity_of (slice_get s.names n)) a.0) d.0)

  part_kept : (part : WherePart) (own : Environment) (s : State) (q : Environment × State) → IsSpelledPart site.texts part → Body (own, s) → part_applied part (length base.names) site own s ≡ Ok q → Body q
  part_kept part own s q spelled h e =
      let last : TypeFn × State → ℕ → Described = λ r n. realized n r.0 part.at own r.1 in
      let third : Found → TypeFn × State → Described = λ found r. required (flexible (length base.names) r.1 found.entry.fun) NotFlexible part.at (last r) in
      let second : Found → Described = λ found. and_then (realizing part site s) (third found) in
      let a = then_parts (parameters_checked site.texts [] part.params) (λ done. required (type_along (parts (text_at site.texts part.tycon)) own) Unbound part.tycon second) q e in
      let b = required_parts (type_along (parts (text_at site.texts part.tycon)) own) Unbound part.tycon second q a.2 in
      let c = then_parts (realizing part site s) (third b.0) q b.2 in
      let d = required_parts (flexible (length base.names) c.0.1 b.0.entry.fun) NotFlexible part.at (last c.0) q c.2 in
      let right = right_side_sound part own s c.0 spelled h c.1 in
      realized_kept d.0 c.0.0 part.at own c.0.1 q (body_added tops base site.path own s c.0.1 right.adds h) (flexible_parts (length base.names) c.0.1 b.0.entry.fun d.0 d.1) right.function right.body d.2

  pub parts_kept : (ps : List WherePart) (own : Environment) (s : State) (q : Environment × State) → All (IsSpelledPart site.texts) ps → Body (own, s) → parts_applied ps (length base.names) site own s ≡ Ok q → Body q
  parts_kept [] own s q spelled h e = subst Body (ok_is (own, s) q e) h
  parts_kept (part ∷ ps) own s q spelled h e =
      let next : Environment × State → Described = λ r. parts_applied ps (length base.names) site r.0 r.1 in
      let a = then_parts (part_applied part (length base.names) site own s) next q e in
      parts_kept ps a.0.0 a.0.1 q (All-tail (IsSpelledPart site.texts) part ps spelled) (part_kept part own s a.0 (All-head (IsSpelledPart site.texts) part ps spelled) h a.1) a.2
