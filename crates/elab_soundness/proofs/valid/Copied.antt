-- Copies of signatures are sound.
use Rattle.std.proofs.Common.{◌≡◌, ◌≢◌, inl, inr, ℕ, zero, suc, ◌+◌, ◌<◌, ◌≤◌, ◌==◌, ◌&&◌, Bool, true, false, true≢false, not, nat_le, if◌then◌else◌, List, [], ◌∷◌, ◌++◌, drop, length, map, slice_get, slice_index_or, take, append_assoc, append-nil, Option, Some, None, Ok, le-leb, refl, sym, ap, ap₂, ◌∙◌, subst, arith}
use Rattle.std.proofs.lemmas.Bool.{and_from, and_parts, not-true}
use Rattle.std.proofs.lemmas.List.{append_cancel_left, length-append, length-map}
use Rattle.std.proofs.lemmas.List.Elements.{All-append, All-cons, All-contains, All-contains_itself, All-head, All-map, All-nil, All-tail, All-weaker, filter-append}
use Rattle.std.proofs.lemmas.List.Kept.{AllPairs-cons}
use Rattle.std.proofs.Math.Seq.{drop-append_seam}
use Rattle.std.specs.List.{All, Contains, filter}
use Rattle.std.specs.Option.{option_to_list}
use Rattle.type_core.specs.declared.library.UnitKind.{UnitKind}
use Rattle.type_core.specs.declared.library.UnitKind.TheVariants.{Sig, Str}
use Rattle.type_core.specs.declared.names.TypeName.{TypeName}
use Rattle.type_core.specs.InitialNames.{initial_names}
use Rattle.type_core.specs.Types.{takes}
use Rattle.type_core.specs.ValidLibrary.{AreDistinct, path_and_arity}
use Rattle.elab_env.specs.Names.{is_own}
use Rattle.elab_env.proofs.Parts.{map_map}
use Rattle.elab_rules.specs.declared.entry.UnitEntry.{UnitEntry}
use Rattle.elab_rules.specs.declared.refusal.Why.TheVariants.{UnboundSignature}
use Rattle.elab_rules.specs.Bodies.{Described, Site}
use Rattle.elab_rules.specs.Copies.{copied, environment_weight, free_among, if_signature, name_copied, named_signature, names_at, new_or_old, own_names, renumbered, signature_in, with_copies, with_numbers}
use Rattle.elab_rules.specs.Environments.{Environment}
use Rattle.elab_types.specs.Finding.{place_of}
use Rattle.elab_rules.specs.Library.{kept_names}
use Rattle.elab_rules.specs.LookUps.{unit_in}
use Rattle.elab_rules.specs.Replacing.{environment_with}
use Rattle.elab_soundness.specs.Soundness.{AreNamed, AreSoundNames, HasSoundNames, IsSoundName, IsSoundUnit, known_by, made_paths, paths_within}
use Rattle.elab_types.specs.Sources.{text_at}
use Rattle.elab_rules.specs.States.{State, is_free, weighed}
use Rattle.elab_rules.proofs.CopiedArities.{copied_arities, own_within}
use Rattle.elab_rules.proofs.DistinctMore.{either_at}
use Rattle.elab_soundness.proofs.valid.Body.{IsSoundBody, IsSoundSite, body_alike, no_dots}
use Rattle.elab_soundness.proofs.valid.Everywhere.{then_some}
use Rattle.elab_types.proofs.Lists.{none_pass, no_some, pairs_parts}
use Rattle.elab_soundness.proofs.valid.Named.{all_kept}
use Rattle.elab_soundness.proofs.valid.Numbered.{environment_numbered}
use Rattle.elab_types.proofs.Outcomes.{ok_is, required_parts, then_parts}
use Rattle.elab_soundness.proofs.valid.Paths.{HaveNoDots, paths_moved, paths_with, tycon_paths}
use Rattle.elab_soundness.proofs.valid.Sought.{unit_so}
use Rattle.elab_soundness.proofs.valid.States.{filtered, flag_past, flag_unset, weighed_parts}

-- ---- a unit's own names are the described ones that are left
drop_at : {A : Type 0} (xs : List A) (n : ℕ) → n < length xs → (x : A) × ((slice_get xs n ≡ Some x) × (drop n xs ≡ x ∷ drop (n + 1) xs))
drop_at [] n l = absurd (omega (arith, l))
drop_at (x ∷ xs) zero l = (x, (refl, refl))
drop_at (x ∷ xs) (suc n) l =
    let h = drop_at xs n (omega (arith, l)) in
    (h.0, (h.1.0, h.1.1 ∙ ap (λ k. h.0 ∷ drop k (x ∷ xs)) (let e : suc (n + 1) ≡ suc n + 1 = omega arith in e)))

flag_is : (flags : List Bool) (n : ℕ) (flag : Bool) → slice_get flags n ≡ Some flag → slice_index_or flags n false ≡ flag
flag_is [] n flag e = absurd (no_some flag e)
flag_is (f ∷ flags) zero flag e = let same : f ≡ flag = cc in same
flag_is (f ∷ flags) (suc n) flag e = flag_is flags n flag e

abbrev is_made : TypeName → Bool
is_made name = not name.external

abbrev made_of : List TypeName → List Bool → List TypeName
made_of names flags = filter is_made (kept_names names flags)

module _ (s : State) (counted : length s.gone ≡ length s.names) where
  own_is : (count first : ℕ) → length initial_names ≤ first → first + count ≤ length s.names → names_at s.names (free_among first count s) ≡ made_of (take count (drop first s.names)) (take count (drop first s.gone))
  own_is zero first later l = refl
  own_is (suc count) first later l =
      let n = drop_at s.names first (omega (arith, l)) in
      let f = drop_at s.gone first (omega (arith, l, counted)) in
      let free : is_free s first ≡ (not (n.0).external && not f.0) =
      ap₂ (λ o b. (nat_le (length initial_names) first && is_own o) && not b) n.1.0 (flag_is s.gone first f.0 f.1.0) ∙ ap (λ b. (b && not (n.0).external) && not f.0) (le-leb (length initial_names) first later) in
      let rest = own_is count (first + 1) (omega (arith, later)) (omega (arith, l)) in
      ap (λ b. names_at s.names (if b then first ∷ free_among (first + 1) count s else free_among (first + 1) count s)) free
      ∙ by_case (n.0) f.0 n.1.0 rest
      ∙ sym (ap₂ (λ names flags. made_of (take (suc count) names) (take (suc count) flags)) n.1.1 f.1.1)
    where
      more : List ℕ
      more = free_among (first + 1) count s

      names' : List TypeName
      names' = take count (drop (first + 1) s.names)

      flags' : List Bool
      flags' = take count (drop (first + 1) s.gone)

      by_external : (name : TypeName) (b : Bool) → slice_get s.names first ≡ Some name → names_at s.names more ≡ made_of names' flags'
          → names_at s.names (if (not b && true) then first ∷ more else more) ≡ (if not b then name ∷ made_of names' flags' else made_of names' flags')
      by_external name true at rest = rest
      by_external name false at rest = ap₂ (λ o xs. option_to_list o ++ xs) at rest

      never : (b : Bool) → (b && false) ≡ false
      never true = refl
      never false = refl

      by_case : (name : TypeName) (flag : Bool) → slice_get s.names first ≡ Some name → names_at s.names more ≡ made_of names' flags'
          → names_at s.names (if (not name.external && not flag) then first ∷ more else more) ≡ made_of (name ∷ names') (flag ∷ flags')
      by_case name true at rest = ap (λ b. names_at s.names (if b then first ∷ more else more)) (never (not name.external)) ∙ rest
      by_case name false at rest = by_external name name.external at rest

-- ---- lists
all_dropped : {A : Type 0} (P : A → Type 0) (n : ℕ) (xs : List A) → All P xs → All P (drop n xs)
all_dropped P zero xs h = h
all_dropped P (suc n) [] h = h
all_dropped P (suc n) (x ∷ xs) h = all_dropped P n xs (All-tail P x xs h)

all_taken : {A : Type 0} (P : A → Type 0) (n : ℕ) (xs : List A) → All P xs → All P (take n xs)
all_taken P zero xs h = All-nil P
all_taken P (suc n) [] h = h
all_taken P (suc n) (x ∷ xs) h = All-cons P x (take n xs) (All-head P x xs h) (all_taken P n xs (All-tail P x xs h))

drop_appended : {A : Type 0} (xs ys : List A) (n : ℕ) → length xs ≤ n → (k : ℕ) × (drop n (xs ++ ys) ≡ drop k ys)
drop_appended [] ys n l = (n, refl)
drop_appended (x ∷ xs) ys zero l = absurd (omega (arith, l))
drop_appended (x ∷ xs) ys (suc n) l = drop_appended xs ys n (omega (arith, l))

-- a list of which all elements are so, and other ones come from others
distinct_mapped : (P : List ℕ → Type 0) (h : List ℕ → List ℕ) → ((a b : List ℕ) → P a → P b → h a ≡ h b → a ≡ b) → (xs : List (List ℕ)) → All P xs → AreDistinct xs → AreDistinct (map h xs)
distinct_mapped P h one [] p d = λ i j x l m e. absurd (omega (arith, m))
distinct_mapped P h one (x ∷ xs) p d =
    let q = pairs_parts (λ a b. a ≢ b) x xs d in
    AllPairs-cons (λ a b. a ≢ b) (h x) (map h xs) (apart xs (All-tail P x xs p) q.0) (distinct_mapped P h one xs (All-tail P x xs p) q.1)
  where
    apart : (ys : List (List ℕ)) → All P ys → All (λ y. x ≢ y) ys → All (λ z. h x ≢ z) (map h ys)
    apart [] r k = All-nil _
    apart (y ∷ ys) r k = All-cons (λ z. h x ≢ z) (h y) (map h ys) (λ e. All-head (λ z. x ≢ z) y ys k (one x y (All-head P x xs p) (All-head P y ys r) e)) (apart ys (All-tail P y ys r) (All-tail (λ z. x ≢ z) y ys k))

contains_mapped : (h : List ℕ → List ℕ) (xs : List (List ℕ)) (x : List ℕ) → Contains xs x → Contains (map h xs) (h x)
contains_mapped h xs x c = All-contains (λ y. Contains (map h xs) (h y)) xs x (unmapped_all xs (All-contains_itself (map h xs))) c
  where
    unmapped_all : (ys : List (List ℕ)) → All (Contains (map h xs)) (map h ys) → All (λ y. Contains (map h xs) (h y)) ys
    unmapped_all [] k = All-nil _
    unmapped_all (y ∷ ys) k = All-cons (λ z. Contains (map h xs) (h z)) y ys (All-head (Contains (map h xs)) (h y) (map h ys) k) (unmapped_all ys (All-tail (Contains (map h xs)) (h y) (map h ys) k))

-- ---- paths with another beginning
module _ (old new : List ℕ) (env : Environment) (dots : HaveNoDots env) where
  abbrev moved : List ℕ → List ℕ
  moved path = new ++ drop (length old) path

  abbrev rests : List (List ℕ)
  rests = paths_within [] env

  abbrev Begins : List ℕ → Type 0
  Begins path = (rest : List ℕ) × (path ≡ old ++ rest)

  paths_by : (front : List ℕ) → paths_within front env ≡ map (λ q. front ++ q) rests
  paths_by front = ap (λ p. paths_within p env) (sym (append-nil front)) ∙ paths_moved true false paths_within tycon_paths front [] env dots

  all_begin : (qs : List (List ℕ)) → All Begins (map (λ q. old ++ q) qs)
  all_begin [] = All-nil Begins
  all_begin (q ∷ qs) = All-cons Begins (old ++ q) (map (λ p. old ++ p) qs) (q, refl) (all_begin qs)

  moved_is : (rest : List ℕ) → moved (old ++ rest) ≡ new ++ rest
  moved_is rest = ap (λ text. new ++ text) (drop-append_seam old rest)

  moved_all : (qs : List (List ℕ)) → map moved (map (λ q. old ++ q) qs) ≡ map (λ q. new ++ q) qs
  moved_all [] = refl
  moved_all (q ∷ qs) = ap₂ ◌∷◌ (moved_is q) (moved_all qs)

  moved_path : map moved (paths_within old env) ≡ paths_within new env
  moved_path = ap (map moved) (paths_by old) ∙ moved_all rests ∙ sym (paths_by new)

  same_moved : (a b : List ℕ) → Begins a → Begins b → moved a ≡ moved b → a ≡ b
  same_moved a b p q e =
      let rest : p.0 ≡ q.0 = append_cancel_left new p.0 q.0 (sym (moved_is p.0) ∙ ap moved (sym p.1) ∙ e ∙ ap moved q.1 ∙ moved_is q.0) in
      p.1 ∙ ap (λ r. old ++ r) rest ∙ sym q.1

  pub named_moved : (names : List TypeName) (flags : List Bool) (more : List TypeName) (others : List Bool) → made_paths more others ≡ map moved (made_paths names flags) → AreNamed (paths_within old env) names flags → AreNamed (paths_within new env) more others
  named_moved names flags more others e h = record {
    described = subst (All (Contains (paths_within new env))) (sym e)
        (All-map (Contains (paths_within new env)) moved (made_paths names flags)
        (All-weaker (Contains (paths_within old env)) (λ p. Contains (paths_within new env) (moved p)) (λ p c. subst (λ ps. Contains ps (moved p)) moved_path (contains_mapped moved (paths_within old env) p c)) (made_paths names flags) h.described));
    distinct = subst AreDistinct (sym e)
        (distinct_mapped Begins moved same_moved (made_paths names flags)
        (All-weaker (Contains (paths_within old env)) Begins (λ p c. All-contains Begins (map (λ q. old ++ q) rests) p (all_begin rests) (subst (λ ps. Contains ps p) (paths_by old) c)) (made_paths names flags) h.described)
        h.distinct);
  }

-- ---- copies
module _ (tops : List (List ℕ)) (s : State) (site : Site) (sound : HasSoundNames tops s) (unit : UnitEntry) (is : IsSoundUnit s unit) where
  abbrev own : List ℕ
  own = own_names unit s

  abbrev made : List TypeName
  made = made_of (take unit.name_count (drop unit.first_name s.names)) (take unit.name_count (drop unit.first_name s.gone))

  abbrev copies : List TypeName
  copies = map (name_copied site.path (length unit.id)) (names_at s.names own)

  abbrev after : State
  after = with_copies site.path (length unit.id) own s

  abbrev unset : List Bool
  unset = map (λ n. false) own

  made_is : names_at s.names own ≡ made
  made_is = own_is s sound.counted unit.name_count unit.first_name is.later is.made

  -- a sound name that is a described one
  record IsMadeName (name : TypeName) : Type 0 where
    fit : IsSoundName tops name
    described : name.external ≡ false

  made_sound : All IsMadeName made
  made_sound =
      let names = sound.names in
      let k = drop_appended initial_names names.own unit.first_name is.later in
      let whole : drop unit.first_name s.names ≡ drop k.0 names.own = ap (drop unit.first_name) names.whole ∙ k.1 in
      filtered IsMadeName (IsSoundName tops) is_made (λ name e h. record { fit = h; described = not-true name.external e }) _
      (all_kept (IsSoundName tops) _ _ (all_taken (IsSoundName tops) unit.name_count (drop unit.first_name s.names) (subst (All (IsSoundName tops)) (sym whole) (all_dropped (IsSoundName tops) k.0 names.own names.each))))

  copies_sound : All IsMadeName copies
  copies_sound = All-map IsMadeName (name_copied site.path (length unit.id)) (names_at s.names own)
      (All-weaker IsMadeName (λ name. IsMadeName (name_copied site.path (length unit.id) name))
      (λ name h. record { fit = record { arity = (h.fit).arity; described = (h.fit).described; external = λ e. absurd (true≢false (sym e ∙ h.described)) }; described = h.described })
      (names_at s.names own) (subst (All IsMadeName) (sym made_is) made_sound))

  length_known : (ns : List ℕ) → All (λ n. n < length s.names) ns → length (names_at s.names ns) ≡ length ns
  length_known [] h = refl
  length_known (n ∷ ns) h =
      let a = drop_at s.names n (All-head (λ m. m < length s.names) n ns h) in
      ap (λ o. length (option_to_list o ++ names_at s.names ns)) a.1.0 ∙ ap (λ k. suc k) (length_known ns (All-tail (λ m. m < length s.names) n ns h))

  counted_copies : length unset ≡ length copies
  counted_copies = length-map own (λ n. false) ∙ sym (length-map (names_at s.names own) (name_copied site.path (length unit.id)) ∙ length_known own (own_within unit s))

  names_after : AreSoundNames tops after.names
  names_after =
      let names = sound.names in
      record {
        own = names.own ++ copies;
        whole = ap (λ xs. xs ++ copies) names.whole ∙ append_assoc initial_names names.own copies;
        each = All-append (IsSoundName tops) names.own copies names.each (All-weaker IsMadeName (IsSoundName tops) (λ name h. h.fit) copies copies_sound);
        apart = subst (λ xs. AreDistinct (map path_and_arity xs))
            (sym (filter-append (λ (name : TypeName). name.external) names.own copies
            ∙ ap (λ xs. filter (λ (name : TypeName). name.external) names.own ++ xs) (none_pass (λ (name : TypeName). name.external) copies (All-weaker IsMadeName (λ name. name.external ≡ false) (λ name h. h.described) copies copies_sound))
            ∙ append-nil _)) names.apart;
      }

  sound_after : HasSoundNames tops after
  sound_after = record {
    names = names_after;
    counted = length-append s.gone unset ∙ ap₂ ◌+◌ sound.counted counted_copies ∙ sym (length-append s.names copies);
    stay = λ n name at e. flag_unset s.gone own n ∙ elim (either_at s.names copies n name at) [
      | inl here ↦ sound.stay n name here e
      | inr later ↦ flag_past s.gone n (omega (arith, later.1.0, sound.counted))
    ];
  }

  known_after : (m count : ℕ) → known_by s m count ≡ true → known_by after (renumbered own (length s.names) m) count ≡ true
  known_after m count e =
      let p = and_parts (takes (slice_get s.names m) count) _ e in
      and_from _ _ (copied_arities s.names own site.path (length unit.id) (own_within unit s) m count p.0) (ap not (flag_unset s.gone own (renumbered own (length s.names) m)) ∙ by_place (place_of (λ k. k == m) own) p.1)
    where
      by_place : (o : Option ℕ) → not (slice_index_or s.gone m false) ≡ true → not (slice_index_or s.gone (new_or_old (length s.names) m o) false) ≡ true
      by_place None q = q
      by_place (Some place) q = ap not (flag_past s.gone (length s.names + place) (omega (arith, sound.counted)))

  paths_copied : (ms : List TypeName) (ns : List ℕ) → length ns ≡ length ms → All IsMadeName ms → made_paths ms (map (λ n. false) ns) ≡ map (λ (name : TypeName). name.path) ms
  paths_copied [] [] e h = refl
  paths_copied [] (n ∷ ns) e h = absurd (omega (arith, e))
  paths_copied (name ∷ ms) [] e h = absurd (omega (arith, e))
  paths_copied (name ∷ ms) (n ∷ ns) e h =
      ap (λ b. map (λ (x : TypeName). x.path) (if not b then name ∷ made_of ms (map (λ k. false) ns) else made_of ms (map (λ k. false) ns))) (All-head IsMadeName name ms h).described
      ∙ ap (λ ps. name.path ∷ ps) (paths_copied ms ns (omega (arith, e)) (All-tail IsMadeName name ms h))

  copied_body : IsSoundBody tops s site.path (environment_with (with_numbers (renumbered own (length s.names))) unit.entries) after
  copied_body =
      let f = renumbered own (length s.names) in
      let env = is.entries in
      let dots = no_dots (known_by s) unit.entries env.entries in
      let same : made_paths copies unset ≡ map (λ p. site.path ++ drop (length unit.id) p) (made_paths (take unit.name_count (drop unit.first_name s.names)) (take unit.name_count (drop unit.first_name s.gone))) =
      paths_copied copies own (sym (length-map own (λ n. false)) ∙ counted_copies) copies_sound
      ∙ map_map (λ (name : TypeName). name.path) (name_copied site.path (length unit.id)) (names_at s.names own)
      ∙ ap (map (λ (name : TypeName). site.path ++ drop (length unit.id) name.path)) made_is
      ∙ sym (map_map (λ p. site.path ++ drop (length unit.id) p) (λ (name : TypeName). name.path) made) in
      record {
        more = copies;
        flags = unset;
        extends = record { names = refl; gone = refl; counted = counted_copies };
        sound = sound_after;
        env = environment_numbered (known_by s) (known_by after) f known_after unit.entries env;
        named = subst (λ ps. AreNamed ps copies unset) (sym (paths_with true false paths_within tycon_paths (with_numbers f) site.path unit.entries dots))
            (named_moved unit.id site.path unit.entries dots (take unit.name_count (drop unit.first_name s.names)) (take unit.name_count (drop unit.first_name s.gone)) copies unset same is.named);
      }

  pub copied_sound : (token : ℕ) (r : Environment × State) → copied unit token site s ≡ Ok r → IsSoundBody tops s site.path r.0 r.1
  copied_sound token r e =
      let env = environment_with (with_numbers (renumbered own (length s.names))) unit.entries in
      let last : State → Described = λ t. Ok (env, t) in
      let a = then_parts (weighed (environment_weight site.path unit.entries) token after) last r e in
      subst (λ (q : Environment × State). IsSoundBody tops s site.path q.0 q.1) (ok_is (env, a.0) r a.2)
      (body_alike tops s site.path env after a.0 (weighed_parts (environment_weight site.path unit.entries) token after a.0 a.1) copied_body)

-- ---- the signature that is named
signature_is : (kind : UnitKind) (found unit : UnitEntry) → if_signature kind found ≡ Some unit → found ≡ unit
signature_is Sig found unit e = cc
signature_is Str found unit e = absurd (no_some unit e)

signature_so : (P : UnitEntry → Type 0) (id : List ℕ) (units : List UnitEntry) (unit : UnitEntry) → All P units → signature_in id units ≡ Some unit → P unit
signature_so P id units unit h e =
    let u = then_some (λ (found : UnitEntry). if_signature found.kind found) (unit_in id units) unit e in
    subst P (signature_is u.0.kind u.0 unit u.2) (unit_so P id units u.0 h u.1)

pub named_sound : (tops : List (List ℕ)) (s : State) (site : Site) (token : ℕ) (r : Environment × State) → IsSoundSite tops s site → HasSoundNames tops s → named_signature token site s ≡ Ok r → IsSoundBody tops s site.path r.0 r.1
named_sound tops s site token r seen sound e =
    let next : UnitEntry → Described = λ unit. copied unit token site s in
    let a = required_parts (signature_in (text_at site.texts token) site.units) UnboundSignature token next r e in
    copied_sound tops s site sound a.0 (signature_so (IsSoundUnit s) (text_at site.texts token) site.units a.0 seen.units a.1) token r a.2
