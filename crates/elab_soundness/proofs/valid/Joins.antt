-- Names that are joined to others keep a body sound.
use Rattle.std.proofs.Common.{◌≡◌, ◌≢◌, inl, inr, ℕ, zero, suc, ◌-◌, ◌≤◌, ◌==◌, ◌&&◌, Bool, true, false, true≢false, not, nat_le, if◌then◌else◌, List, [], ◌∷◌, length, map, slice_get, slice_index_or, Option, Some, None, eqb-true, eq-eqb, refl, sym, ap, ◌∙◌, subst, arith}
use Rattle.std.proofs.lemmas.Bool.{and_from, and_parts, leb-true, not-true}
use Rattle.std.proofs.lemmas.List.{length-map}
use Rattle.std.proofs.lemmas.List.Elements.{All-cons, All-head, All-nil, All-tail, All-weaker}
use Rattle.std.specs.List.{All}
use Rattle.type_core.specs.declared.names.Equality.{Equality}
use Rattle.type_core.specs.declared.names.Equality.TheVariants.{Never, IfArgs, Always}
use Rattle.type_core.specs.declared.names.TypeName.{TypeName}
use Rattle.type_core.specs.declared.ty.NameId.{NameId}
use Rattle.type_core.specs.declared.ty.Ty.{Ty}
use Rattle.type_core.specs.declared.ty.Ty.TheVariants as ty
use Rattle.type_core.specs.declared.type_fn.TypeFn.{TypeFn}
use Rattle.type_core.specs.AdmitsEquality.{attribute_of}
use Rattle.type_core.specs.InitialNames.{initial_names}
use Rattle.type_core.specs.TypeFunctions.{applied}
use Rattle.type_core.specs.Types.{takes}
use Rattle.elab_env.specs.declared.realization.Realization.{Realization}
use Rattle.elab_env.specs.Names.{arity_of, equality_at, is_described, is_own, joined_equality, with_equality}
use Rattle.elab_env.specs.Parameters.{name_function}
use Rattle.elab_env.specs.Realizations.{replaced}
use Rattle.elab_env.proofs.Equations.{replaced_con, replaced_inside, replaced_var}
use Rattle.elab_env.proofs.NameLists.{keeps_settled}
use Rattle.elab_env.proofs.Parts.{agree}
use Rattle.elab_rules.specs.Copies.{with_numbers}
use Rattle.elab_rules.specs.Environments.{Environment, the_structure, the_type, the_value}
use Rattle.elab_rules.specs.Replacing.{environment_with, flexible, denoted, if_flexible, replaced_in}
use Rattle.elab_rules.specs.Sharing.{all_joined, distinct, joined, joined_away, joined_to, least_of, with_gone, without_number}
use Rattle.elab_soundness.specs.Soundness.{AreNamed, AreSoundNames, IsSoundEnvironment, IsSoundName, Known, known_by, names_known, no_entries, paths_within, structure_entry, type_entry, value_entry}
use Rattle.elab_rules.specs.States.{State, is_free}
use Rattle.elab_rules.specs.Wheres.{types_of}
use Rattle.elab_rules.proofs.Entries.{all_types_cons, types_structure, types_type, types_value, with_agrees}
use Rattle.elab_rules.proofs.Least.{least_is}
use Rattle.elab_rules.proofs.Renumbered.{numbered_con, numbered_inside, numbered_var}
use Rattle.elab_soundness.proofs.valid.Body.{IsSoundBody, IsUsual, no_dots}
use Rattle.elab_soundness.proofs.valid.Everywhere.{then_some}
use Rattle.elab_soundness.proofs.valid.KnownNames.{known_arguments, names_partwise}
use Rattle.elab_types.proofs.Lists.{no_some}
use Rattle.elab_soundness.proofs.valid.Numbered.{environment_numbered}
use Rattle.elab_soundness.proofs.valid.Paths.{paths_with, tycon_paths}
use Rattle.elab_soundness.proofs.valid.Settled.{flag_other, gone_after, later_at, length-with_gone, named_left, named_settled, sound_left, sound_settled}
use Rattle.elab_soundness.proofs.valid.States.{filtered}
use Rattle.elab_soundness.proofs.valid.Tycons.{settled_extends}
use Rattle.elab_soundness.proofs.valid.Typed.{name_applied}
use Rattle.elab_soundness.proofs.valid.Weaker.{AreSound}

-- ---- a name in place of another one of the same arity
abbrev pub in_place_of : ℕ → ℕ → ℕ → ℕ
in_place_of n kept m = if m == n then kept else m

module _ (known : Known) (n kept arity : ℕ) (takes_so_many : (count : ℕ) → known n count ≡ true → count ≡ arity) where
  abbrev joining_one : Realization
  joining_one = record { name = record { 0 = n }; fun = name_function kept arity }

  applied_is : (us : List Ty) → length us ≡ arity → applied (name_function kept arity) us ≡ ty.Con (record { 0 = kept }) us
  applied_is us e = ap (λ k. applied (name_function kept k) us) (sym e) ∙ name_applied kept us

  con_is : (name : NameId) (ts us : List Ty) → known name.0 (length ts) ≡ true → length us ≡ length ts
      → (if name.0 == n then applied (name_function kept arity) us else ty.Con name us) ≡ ty.Con (record { 0 = in_place_of n kept name.0 }) us
  con_is name ts us may count = by_case (name.0 == n) refl
    where
      by_case : (b : Bool) → (name.0 == n) ≡ b → (if b then applied (name_function kept arity) us else ty.Con name us) ≡ ty.Con (record { 0 = if b then kept else name.0 }) us
      by_case true e = applied_is us (count ∙ takes_so_many (length ts) (subst (λ m. known m (length ts) ≡ true) (eqb-true name.0 n e) may))
      by_case false e = refl

  pub replaced_is : (t : Ty) → names_known known t ≡ true → replaced joining_one t ≡ with_numbers (in_place_of n kept) t
  replaced_is = agree (names_known known) (replaced joining_one) (with_numbers (in_place_of n kept)) (names_partwise known) (replaced_inside joining_one) (numbered_inside (in_place_of n kept))
      (λ v e. replaced_var joining_one v ∙ sym (numbered_var (in_place_of n kept) v))
      (λ name ts e h. replaced_con joining_one name ts
      ∙ con_is name ts (map (replaced joining_one) ts) (known_arguments known name ts e) (length-map ts (replaced joining_one))
      ∙ ap (ty.Con (record { 0 = in_place_of n kept name.0 })) h
      ∙ sym (numbered_con (in_place_of n kept) name ts))

  just : (P : Ty → Type 0) (ts : List Ty) (t : Ty) → ts ≡ t ∷ [] → P t → All P ts
  just P ts t e h = subst (All P) (sym e) (All-cons P t [] h (All-nil P))

  abbrev Same : Ty → Type 0
  Same t = replaced joining_one t ≡ with_numbers (in_place_of n kept) t

  all_same : (env : Environment) → AreSound known env → All Same (types_of env)
  all_same env no_entries = All-nil Same
  all_same env (type_entry {type = t} {entries = es} p h) =
      all_types_cons Same (the_type t) es (just Same _ t.fun.body (types_type t) (replaced_is t.fun.body ((((p.fun).formed).body).names))) (all_same es h)
  all_same env (value_entry {value = v} {entries = es} q h) =
      all_types_cons Same (the_value v) es (just Same _ v.scheme.body (types_value v) (replaced_is v.scheme.body ((((q.scheme).formed).body).names))) (all_same es h)
  all_same env (structure_entry {id = id} {inner = inner} {entries = es} r k h) =
      all_types_cons Same (the_structure id inner) es (subst (All Same) (sym (types_structure id inner)) (all_same inner k)) (all_same es h)

  pub environment_is : (env : Environment) → AreSound known env → replaced_in joining_one env ≡ environment_with (with_numbers (in_place_of n kept)) env
  environment_is env h = with_agrees (replaced joining_one) (with_numbers (in_place_of n kept)) env (all_same env h)

-- ---- names of the list
arity_settled : (at : ℕ) (equality : Equality) (names : List TypeName) (n : ℕ) → arity_of (slice_get (with_equality at equality names) n) ≡ arity_of (slice_get names n)
arity_settled at equality [] n = refl
arity_settled zero equality (name ∷ names) zero = refl
arity_settled zero equality (name ∷ names) (suc n) = refl
arity_settled (suc at) equality (name ∷ names) zero = refl
arity_settled (suc at) equality (name ∷ names) (suc n) = arity_settled at equality names n

pub takes_arity : (o : Option TypeName) (count : ℕ) → takes o count ≡ true → count ≡ arity_of o
takes_arity None count e = absurd (true≢false (sym e))
takes_arity (Some name) count e = sym (eqb-true name.arity count e)

pub takes_own : (o : Option TypeName) (count : ℕ) → is_own o ≡ true → count ≡ arity_of o → takes o count ≡ true
takes_own None count is e = absurd (true≢false (sym is))
takes_own (Some name) count is e = eq-eqb name.arity count (sym e)

own_usual : (tops : List (List ℕ)) (own : List TypeName) (n : ℕ) → is_own (slice_get own n) ≡ true → All (IsSoundName tops) own → IsUsual (attribute_of (slice_get own n))
own_usual tops [] n is h = absurd (true≢false (sym is))
own_usual tops (name ∷ own) zero is h = (All-head (IsSoundName tops) name own h).described (not-true name.external is)
own_usual tops (name ∷ own) (suc n) is h = own_usual tops own n is (All-tail (IsSoundName tops) name own h)

usual_at : (tops : List (List ℕ)) (names : List TypeName) (n : ℕ) → length initial_names ≤ n → is_own (slice_get names n) ≡ true → AreSoundNames tops names → IsUsual (equality_at names n)
usual_at tops names n l is h =
    let e : slice_get names n ≡ slice_get h.own (n - length initial_names) = ap (λ xs. slice_get xs n) h.whole ∙ later_at initial_names h.own n l in
    subst (λ o. IsUsual (attribute_of o)) (sym e) (own_usual tops h.own (n - length initial_names) (sym (ap is_own e) ∙ is) h.each)

usual_joined : (a b : Equality) → IsUsual a → IsUsual (joined_equality a b)
usual_joined a IfArgs (inl e) = inr (ap (λ x. joined_equality x IfArgs) e)
usual_joined a Never (inl e) = inl (ap (λ x. joined_equality x Never) e)
usual_joined a Always (inl e) = inl (ap (λ x. joined_equality x Always) e)
usual_joined a b (inr e) = inr (ap (λ x. joined_equality x b) e)

-- ---- flexible names
-- the number is that of a described name that was made from a number on, and is left
pub record IsFlexible (base : ℕ) (s : State) (n : ℕ) : Type 0 where
  pub later : base ≤ n
  pub own : is_own (slice_get s.names n) ≡ true
  pub left : slice_index_or s.gone n false ≡ false

pub flexible_parts : (base : ℕ) (s : State) (f : TypeFn) (n : ℕ) → flexible base s f ≡ Some n → IsFlexible base s n
flexible_parts base s f n e =
    let a = then_some (if_flexible base s) (denoted f) n e in
    by_case a.0 (nat_le base a.0 && is_free s a.0) refl a.2
  where
    by_case : (m : ℕ) (b : Bool) → (nat_le base m && is_free s m) ≡ b → (if b then Some m else None) ≡ Some n → IsFlexible base s n
    by_case m false is g = absurd (no_some n g)
    by_case m true is g =
        let p = and_parts (nat_le base m) _ is in
        let q = and_parts (is_described s.names m) _ p.1 in
        let d = and_parts (nat_le (length initial_names) m) _ q.0 in
        subst (IsFlexible base s) (let same : m ≡ n = cc in same) (record { later = leb-true base m p.0; own = d.1; left = not-true _ q.1 })

module _ (tops : List (List ℕ)) (base : State) (site_path : List ℕ) (counted : length base.gone ≡ length base.names) (later : length initial_names ≤ length base.names) where
  abbrev Body : Environment → State → Type 0
  Body = IsSoundBody tops base site_path

  -- the number is that of a described name of this arity, made for the body
  pub record IsJoinable (arity : ℕ) (s : State) (n : ℕ) : Type 0 where
    pub from : length base.names ≤ n
    pub own : is_own (slice_get s.names n) ≡ true
    pub same : arity_of (slice_get s.names n) ≡ arity

  module _ (kept n : ℕ) (own : Environment) (s : State) (h : Body own s) (arity : ℕ) (k : IsJoinable arity s kept) (j : IsJoinable arity s n) (left : slice_index_or s.gone kept false ≡ false) (apart : kept ≢ n) where
    abbrev eq : Equality
    eq = joined_equality (equality_at s.names kept) (equality_at s.names n)

    abbrev half : State
    half = record { names = with_equality kept eq s.names; gone = s.gone; weight = s.weight }

    abbrev now : State
    now = joined_away kept n s

    takes_so_many : (count : ℕ) → known_by s n count ≡ true → count ≡ arity_of (slice_get s.names n)
    takes_so_many count e = takes_arity (slice_get s.names n) count (and_parts (takes (slice_get s.names n) count) _ e).0

    known_now : (m count : ℕ) → known_by s m count ≡ true → known_by now (in_place_of n kept m) count ≡ true
    known_now m count e = by_case (m == n) refl
      where
        by_case : (b : Bool) → (m == n) ≡ b → known_by now (if b then kept else m) count ≡ true
        by_case true is =
            let c : count ≡ arity_of (slice_get s.names kept) = takes_so_many count (subst (λ x. known_by s x count ≡ true) (eqb-true m n is) e) ∙ j.same ∙ sym k.same in
            and_from _ _ ((keeps_settled kept eq s.names).arities kept count (takes_own (slice_get s.names kept) count k.own c))
            (ap not (flag_other n s.gone kept apart ∙ left))
        by_case false is =
            let p = and_parts (takes (slice_get s.names m) count) _ e in
            and_from _ _ ((keeps_settled kept eq s.names).arities m count p.0)
            (ap not (flag_other n s.gone m (λ same. true≢false (sym (eq-eqb m n same) ∙ is))) ∙ p.1)

    abbrev g : ℕ → ℕ
    g = in_place_of n kept

    pub joined_body : Body (joined_to kept n own s).0 now
    joined_body =
        let x = h.extends in
        let r : Realization = record { name = record { 0 = n }; fun = name_function kept (arity_of (slice_get s.names n)) } in
        let env_is : replaced_in r own ≡ environment_with (with_numbers g) own = environment_is (known_by s) n kept (arity_of (slice_get s.names n)) takes_so_many own (h.env).entries in
        let usual = usual_joined (equality_at s.names kept) (equality_at s.names n) (usual_at tops s.names kept (omega (arith, later, k.from)) k.own (h.sound).names) in
        let first = settled_extends base s h.more h.flags kept eq s.weight k.from x in
        let paths : paths_within site_path (environment_with (with_numbers g) own) ≡ paths_within site_path own = paths_with true false paths_within tycon_paths (with_numbers g) site_path own (no_dots (known_by s) own (h.env).entries) in
        record {
          more = with_equality (kept - length base.names) eq h.more;
          flags = with_gone (n - length base.gone) h.flags;
          extends = record {
            names = first.names;
            gone = ap (with_gone n) x.gone ∙ gone_after n base.gone h.flags (omega (arith, counted, j.from));
            counted = length-with_gone (n - length base.gone) h.flags ∙ first.counted;
          };
          sound = sound_left tops n half s.weight ((keeps_settled kept eq s.names).own n j.own) (sound_settled tops kept eq s s.weight (omega (arith, later, k.from)) usual k.own h.sound);
          env = subst (IsSoundEnvironment (known_by now)) (sym env_is) (environment_numbered (known_by s) (known_by now) g known_now own h.env);
          named = subst (λ ps. AreNamed ps (with_equality (kept - length base.names) eq h.more) (with_gone (n - length base.gone) h.flags)) (sym (ap (paths_within site_path) env_is ∙ paths))
              (named_left (paths_within site_path own) (n - length base.gone) _ h.flags (named_settled (paths_within site_path own) (kept - length base.names) eq h.more h.flags h.named));
        }

    pub still_joinable : (m : ℕ) → IsJoinable arity s m → IsJoinable arity now m
    still_joinable m i = record { from = i.from; own = (keeps_settled kept eq s.names).own m i.own; same = arity_settled kept eq s.names m ∙ i.same }

    pub still_left : slice_index_or now.gone kept false ≡ false
    still_left = flag_other n s.gone kept apart ∙ left

  pub all_joined_body : (kept arity : ℕ) (ns : List ℕ) (own : Environment) (s : State) → Body own s → IsJoinable arity s kept → slice_index_or s.gone kept false ≡ false → All (IsJoinable arity s) ns
      → Body (all_joined kept ns (own, s)).0 (all_joined kept ns (own, s)).1
  all_joined_body kept arity [] own s h k left js = h
  all_joined_body kept arity (n ∷ ns) own s h k left js =
      let j = All-head (IsJoinable arity s) n ns js in
      let others = All-tail (IsJoinable arity s) n ns js in
      by_case (n == kept) refl (all_joined_body kept arity ns own s h k left others)
      (λ apart. all_joined_body kept arity ns (joined_to kept n own s).0 (joined_away kept n s) (joined_body kept n own s h arity k j left apart) (still_joinable kept n own s h arity k j left apart kept k) (still_left kept n own s h arity k j left apart)
      (All-weaker (IsJoinable arity s) (IsJoinable arity (joined_away kept n s)) (still_joinable kept n own s h arity k j left apart) ns others))
    where
      by_case : (b : Bool) → (n == kept) ≡ b → Body (all_joined kept ns (own, s)).0 (all_joined kept ns (own, s)).1 → (kept ≢ n → Body (all_joined kept ns (joined_to kept n own s)).0 (all_joined kept ns (joined_to kept n own s)).1)
          → Body (all_joined kept ns (if b then (own, s) else joined_to kept n own s)).0 (all_joined kept ns (if b then (own, s) else joined_to kept n own s)).1
      by_case true is same other = same
      by_case false is same other = other (λ e. true≢false (sym (eq-eqb n kept (sym e)) ∙ is))

  -- ---- flexible names of one arity
  pub record MayJoin (arity : ℕ) (s : State) (n : ℕ) : Type 0 where
    pub flexible : IsFlexible (length base.names) s n
    pub same : arity_of (slice_get s.names n) ≡ arity

  joinable : (arity : ℕ) (s : State) (n : ℕ) → MayJoin arity s n → IsJoinable arity s n
  joinable arity s n m = record { from = (m.flexible).later; own = (m.flexible).own; same = m.same }

  all_distinct : (P : ℕ → Type 0) (ns : List ℕ) → All P ns → All P (distinct ns)
  all_distinct P [] h = All-nil P
  all_distinct P (n ∷ ns) h = All-cons P n (without_number n (distinct ns)) (All-head P n ns h) (filtered P P (λ m. not (m == n)) (λ m e q. q) (distinct ns) (all_distinct P ns (All-tail P n ns h)))

  pub joined_names_body : (arity : ℕ) (n : ℕ) (ns : List ℕ) (own : Environment) (s : State) → Body own s → All (MayJoin arity s) (n ∷ ns) → Body (joined (n ∷ ns) own s).0 (joined (n ∷ ns) own s).1
  joined_names_body arity n ns own s h ms =
      let least = least_is (MayJoin arity s) n ns (All-head (MayJoin arity s) n ns ms) (All-tail (MayJoin arity s) n ns ms) in
      all_joined_body (least_of n ns) arity (distinct (n ∷ ns)) own s h (joinable arity s (least_of n ns) least) ((least.flexible).left)
      (all_distinct (IsJoinable arity s) (n ∷ ns) (All-weaker (MayJoin arity s) (IsJoinable arity s) (joinable arity s) (n ∷ ns) ms))
