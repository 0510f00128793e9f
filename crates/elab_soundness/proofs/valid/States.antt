-- Names from elsewhere that are added to a state.
use Rattle.std.proofs.Common.{◌≡◌, ◌≢◌, inl, inr, ℕ, zero, suc, ◌+◌, ◌<◌, ◌≤◌, ◌==◌, Bool, true, false, true≢false, not, nat_le, if◌then◌else◌, List, [], ◌∷◌, ◌++◌, length, map, slice_get, slice_index_or, append_assoc, append-nil, Option, Some, None, Ok, eq-eqb, eqb-true, refl, sym, ap, ◌∙◌, subst, arith}
use Rattle.std.proofs.lemmas.Bool.{and_from, and_parts}
use Rattle.std.proofs.lemmas.List.{length-append, map-append}
use Rattle.std.proofs.lemmas.List.Elements.{All-append, All-cons, All-head, All-map, All-nil, All-push, All-tail, filter-append}
use Rattle.std.proofs.lemmas.Slice.Eq.{bytes_eq-Decides}
use Rattle.std.specs.List.{All, filter}
use Rattle.std.specs.Option.{option_map}
use Rattle.type_core.specs.declared.names.TypeName.{TypeName}
use Rattle.type_core.specs.InitialNames.{initial_names}
use Rattle.type_core.specs.Paths.{IsTypePath}
use Rattle.type_core.specs.Types.{takes}
use Rattle.type_core.specs.ValidLibrary.{AreDistinct, path_and_arity}
use Rattle.elab_env.specs.Names.{external, external_number, is_external, is_own}
use Rattle.elab_env.proofs.NameLists.{keeps_appended}
use Rattle.elab_rules.specs.Files.{first_of}
use Rattle.sig_base.specs.LongIdentifiers.{parts}
use Rattle.elab_rules.specs.LookUps.{external_named}
use Rattle.elab_soundness.specs.Soundness.{AreSoundNames, HasSoundNames, IsSoundName, known_by}
use Rattle.elab_rules.specs.States.{State, weighed}
use Rattle.elab_rules.proofs.DistinctMore.{either_at}
use Rattle.elab_types.proofs.Lists.{all_parts, distinct_more, no_some}
use Rattle.elab_types.proofs.Outcomes.{checked_parts, ok_is, then_parts}

-- ---- what stands in a list with more at its end
pub get_appended : {A : Type 0} (xs ys : List A) (n : ℕ) (x : A) → slice_get xs n ≡ Some x → slice_get (xs ++ ys) n ≡ Some x
get_appended [] ys n x e = absurd (no_some x e)
get_appended (y ∷ xs) ys zero x e = e
get_appended (y ∷ xs) ys (suc n) x e = get_appended xs ys n x e

pub get_last : {A : Type 0} (xs : List A) (x : A) → slice_get (xs ++ x ∷ []) (length xs) ≡ Some x
get_last [] x = refl
get_last (y ∷ xs) x = get_last xs x

-- ---- flags
pub flag_appended : (flags more : List Bool) (n : ℕ) → n < length flags → slice_index_or (flags ++ more) n false ≡ slice_index_or flags n false
flag_appended [] more n l = absurd (omega (arith, l))
flag_appended (flag ∷ flags) more zero l = refl
flag_appended (flag ∷ flags) more (suc n) l = flag_appended flags more n (omega (arith, l))

pub flag_past : (flags : List Bool) (n : ℕ) → length flags ≤ n → slice_index_or flags n false ≡ false
flag_past [] n l = refl
flag_past (flag ∷ flags) zero l = absurd (omega (arith, l))
flag_past (flag ∷ flags) (suc n) l = flag_past flags n (omega (arith, l))

pub no_flag : {A : Type 0} (xs : List A) (n : ℕ) → slice_index_or (map (λ x. false) xs) n false ≡ false
no_flag [] n = refl
no_flag (x ∷ xs) zero = refl
no_flag (x ∷ xs) (suc n) = no_flag xs n

-- flags that aren't set change nothing
pub flag_unset : {A : Type 0} (flags : List Bool) (xs : List A) (n : ℕ) → slice_index_or (flags ++ map (λ x. false) xs) n false ≡ slice_index_or flags n false
flag_unset [] xs n = no_flag xs n
flag_unset (flag ∷ flags) xs zero = refl
flag_unset (flag ∷ flags) xs (suc n) = flag_unset flags xs n

-- ---- weighing
pub record IsAlike (s t : State) : Type 0 where
  pub names : s.names ≡ t.names
  pub gone : s.gone ≡ t.gone

pub weighed_parts : (amount token : ℕ) (s t : State) → weighed amount token s ≡ Ok t → IsAlike s t
weighed_parts amount token s t e =
    let a = checked_parts (nat_le (s.weight + amount) 8000000) _ token _ t e in
    let b = ok_is (let after : State = record { names = s.names; gone = s.gone; weight = s.weight + amount } in after) t a.1 in
    record { names = ap (λ (x : State). x.names) b; gone = ap (λ (x : State). x.gone) b }

-- ---- filters
pub filtered : {A : Type 0} (P Q : A → Type 0) (test : A → Bool) → ((x : A) → test x ≡ true → Q x → P x) → (xs : List A) → All Q xs → All P (filter test xs)
filtered P Q test one [] h = All-nil P
filtered P Q test one (x ∷ xs) h = by_case (test x) refl (filtered P Q test one xs (All-tail Q x xs h))
  where
    by_case : (b : Bool) → test x ≡ b → All P (filter test xs) → All P (if b then x ∷ filter test xs else filter test xs)
    by_case true e k = All-cons P x (filter test xs) (one x e (All-head Q x xs h)) k
    by_case false e k = k

-- ---- the number of a name from elsewhere
-- a name from elsewhere of this arity has the number
pub record IsNumbered (count : ℕ) (names : List TypeName) (n : ℕ) : Type 0 where
  pub name : TypeName
  pub stands : slice_get names n ≡ Some name
  pub external : name.external ≡ true
  pub arity : name.arity ≡ count

numbered_later : (arity : ℕ) (first : TypeName) (names : List TypeName) (n m : ℕ) → suc n ≡ m → IsNumbered arity names n → IsNumbered arity (first ∷ names) m
numbered_later arity first names n m e h = subst (IsNumbered arity (first ∷ names)) e (record { name = h.name; stands = h.stands; external = h.external; arity = h.arity })

pub external_found : (path : List ℕ) (arity : ℕ) (names : List TypeName) (n : ℕ) → external_number path arity names ≡ Some n → IsNumbered arity names n
external_found path arity [] n e = absurd (no_some n e)
external_found path arity (name ∷ names) n e = by_case (is_external path arity name) refl (external_number path arity names) (λ m f. external_found path arity names m f) e
  where
    by_case : (b : Bool) → is_external path arity name ≡ b → (o : Option ℕ) → ((m : ℕ) → o ≡ Some m → IsNumbered arity names m) → (if b then Some 0 else option_map suc o) ≡ Some n → IsNumbered arity (name ∷ names) n
    by_case true is o rest f =
        let p = and_parts name.external _ is in
        let q = and_parts (arity == name.arity) _ p.1 in
        subst (IsNumbered arity (name ∷ names)) (let same : 0 ≡ n = cc in same) (record { name = name; stands = refl; external = p.0; arity = sym (eqb-true arity name.arity q.0) })
    by_case false is None rest f = absurd (no_some n f)
    by_case false is (Some m) rest f = numbered_later arity name names m n (let same : suc m ≡ n = cc in same) (rest m refl)

no_number : (path : List ℕ) (arity : ℕ) (names : List TypeName) → external_number path arity names ≡ None → All (λ name. is_external path arity name ≡ false) names
no_number path arity [] e = All-nil _
no_number path arity (name ∷ names) e = by_case (is_external path arity name) refl (external_number path arity names) (λ f. no_number path arity names f) e
  where
    by_case : (b : Bool) → is_external path arity name ≡ b → (o : Option ℕ) → (o ≡ None → All (λ other. is_external path arity other ≡ false) names) → (if b then Some 0 else option_map suc o) ≡ None → All (λ other. is_external path arity other ≡ false) (name ∷ names)
    by_case true is o rest f = absurd (no_some 0 (sym f))
    by_case false is None rest f = All-cons (λ other. is_external path arity other ≡ false) name names is (rest refl)
    by_case false is (Some m) rest f = absurd (no_some (suc m) (sym f))

differs : (path : List ℕ) (arity : ℕ) (name : TypeName) → name.external ≡ true → is_external path arity name ≡ false → path_and_arity name ≢ (path, arity)
differs path arity name e other same =
    let p : name.path ≡ path = ap (λ (x : List ℕ × ℕ). x.0) same in
    let q : name.arity ≡ arity = ap (λ (x : List ℕ × ℕ). x.1) same in
    true≢false (sym (and_from _ _ e (and_from _ _ (eq-eqb arity name.arity (sym q)) ((bytes_eq-Decides path name.path).1 (sym p)))) ∙ other)

-- ---- names that are added
-- names from elsewhere were added
pub record Adds (tops : List (List ℕ)) (s t : State) : Type 0 where
  pub more : List TypeName
  pub names : t.names ≡ s.names ++ more
  pub gone : t.gone ≡ s.gone ++ map (λ name. false) more
  pub external : All (λ name. name.external ≡ true) more
  pub sound : HasSoundNames tops s → HasSoundNames tops t

pub sound_alike : (tops : List (List ℕ)) (s t : State) → IsAlike s t → HasSoundNames tops s → HasSoundNames tops t
sound_alike tops s t a h = record {
  names = subst (AreSoundNames tops) a.names h.names;
  counted = sym (ap length a.gone) ∙ h.counted ∙ ap length a.names;
  stay = λ n name at e. sym (ap (λ flags. slice_index_or flags n false) a.gone) ∙ h.stay n name (ap (λ names. slice_get names n) a.names ∙ at) e;
}

pub adds_none : (tops : List (List ℕ)) (s t : State) → IsAlike s t → Adds tops s t
adds_none tops s t a = record {
  more = [];
  names = sym (append-nil s.names ∙ a.names);
  gone = sym (append-nil s.gone ∙ a.gone);
  external = All-nil _;
  sound = sound_alike tops s t a;
}

pub adds_then : (tops : List (List ℕ)) (s t u : State) → Adds tops s t → Adds tops t u → Adds tops s u
adds_then tops s t u h k = record {
  more = h.more ++ k.more;
  names = k.names ∙ ap (λ xs. xs ++ k.more) h.names ∙ append_assoc s.names h.more k.more;
  gone = k.gone ∙ ap (λ xs. xs ++ map (λ name. false) k.more) h.gone ∙ append_assoc s.gone (map (λ name. false) h.more) (map (λ name. false) k.more) ∙ ap (λ xs. s.gone ++ xs) (sym (map-append (λ name. false) h.more k.more));
  external = All-append (λ (name : TypeName). name.external ≡ true) h.more k.more h.external k.external;
  sound = λ sound. k.sound (h.sound sound);
}

pub takes_appended : (names more : List TypeName) (n count : ℕ) → takes (slice_get names n) count ≡ true → takes (slice_get (names ++ more) n) count ≡ true
takes_appended names more = (keeps_appended names more).arities

pub known_added : (tops : List (List ℕ)) (s t : State) → Adds tops s t → (n count : ℕ) → known_by s n count ≡ true → known_by t n count ≡ true
known_added tops s t a n count e =
    let p = and_parts (takes (slice_get s.names n) count) _ e in
    and_from _ _ (ap (λ names. takes (slice_get names n) count) a.names ∙ takes_appended s.names a.more n count p.0)
    (ap (λ flags. not (slice_index_or flags n false)) a.gone ∙ ap not (flag_unset s.gone a.more n) ∙ p.1)

-- what may stand in types still may, and described names stay so
pub record Keeps (s t : State) : Type 0 where
  pub known : (n count : ℕ) → known_by s n count ≡ true → known_by t n count ≡ true
  pub own : (n : ℕ) → is_own (slice_get s.names n) ≡ true → is_own (slice_get t.names n) ≡ true

pub keeps_all : (s : State) → Keeps s s
keeps_all s = record { known = λ n count e. e; own = λ n e. e }

pub keeps_then : (s t u : State) → Keeps s t → Keeps t u → Keeps s u
keeps_then s t u h k = record { known = λ n count e. k.known n count (h.known n count e); own = λ n e. k.own n (h.own n e) }

pub keeps_added : (tops : List (List ℕ)) (s t : State) → Adds tops s t → Keeps s t
keeps_added tops s t a = record { known = known_added tops s t a; own = λ n e. ap (λ names. is_own (slice_get names n)) a.names ∙ (keeps_appended s.names a.more).own n e }

-- ---- one name from elsewhere
module _ (tops : List (List ℕ)) (path : List ℕ) (arity : ℕ) (is_path : IsTypePath path) (few : arity ≤ 1999) (elsewhere : All (λ top. top ≢ first_of (parts path)) tops) where
  abbrev added_name : TypeName
  added_name = external path arity

  names_with : (names : List TypeName) → external_number path arity names ≡ None → AreSoundNames tops names → AreSoundNames tops (names ++ added_name ∷ [])
  names_with names none h =
      let new = all_parts (λ (name : TypeName). is_external path arity name ≡ false) initial_names h.own (subst (All (λ (name : TypeName). is_external path arity name ≡ false)) h.whole (no_number path arity names none)) in
      record {
        own = h.own ++ added_name ∷ [];
        whole = ap (λ xs. xs ++ added_name ∷ []) h.whole ∙ append_assoc initial_names h.own (added_name ∷ []);
        each = All-push (IsSoundName tops) h.own added_name h.each (record { arity = few; described = λ described. absurd (true≢false described); external = λ e. record { path = is_path; equality = refl; elsewhere = elsewhere } });
        apart = subst AreDistinct (sym (ap (map path_and_arity) (filter-append (λ (name : TypeName). name.external) h.own (added_name ∷ [])) ∙ map-append path_and_arity (filter (λ (name : TypeName). name.external) h.own) (added_name ∷ [])))
            (distinct_more (map path_and_arity (filter (λ (name : TypeName). name.external) h.own)) (path, arity) h.apart
            (All-map (λ (x : List ℕ × ℕ). x ≢ (path, arity)) path_and_arity (filter (λ (name : TypeName). name.external) h.own)
            (filtered (λ name. path_and_arity name ≢ (path, arity)) (λ name. is_external path arity name ≡ false) (λ (name : TypeName). name.external) (λ name. differs path arity name) h.own new.1)));
      }

  sound_with : (s : State) (weight : ℕ) → external_number path arity s.names ≡ None → HasSoundNames tops s → HasSoundNames tops (record { names = s.names ++ added_name ∷ []; gone = s.gone ++ false ∷ []; weight = weight })
  sound_with s weight none h = record {
    names = names_with s.names none h.names;
    counted = length-append s.gone (false ∷ []) ∙ ap (λ n. n + 1) h.counted ∙ sym (length-append s.names (added_name ∷ []));
    stay = λ n name at e. flag_unset s.gone (added_name ∷ []) n ∙ elim (either_at s.names (added_name ∷ []) n name at) [
      | inl here ↦ h.stay n name here e
      | inr later ↦ flag_past s.gone n (omega (arith, later.1.0, h.counted))
    ];
  }

  -- a name from elsewhere has the number, and was added where it wasn't there
  pub record IsExternal (s : State) (r : ℕ × State) : Type 0 where
    pub adds : Adds tops s r.1
    pub numbered : IsNumbered arity r.1.names r.0

  pub external_kept : (token : ℕ) (s : State) (r : ℕ × State) → external_named path arity token (external_number path arity s.names) s ≡ Ok r → IsExternal s r
  external_kept token s r e = by_case (external_number path arity s.names) refl e
    where
      by_case : (o : Option ℕ) → external_number path arity s.names ≡ o → external_named path arity token o s ≡ Ok r → IsExternal s r
      by_case (Some n) is f =
          subst (IsExternal s) (ok_is (n, s) r f) (record { adds = adds_none tops s s (record { names = refl; gone = refl }); numbered = external_found path arity s.names n is })
      by_case None is f =
          let a = then_parts (weighed (1 + length path) token s) _ r f in
          let after : State = record { names = s.names ++ added_name ∷ []; gone = s.gone ++ false ∷ []; weight = (a.0).weight } in
          subst (IsExternal s) (ok_is (length s.names, after) r a.2) (record {
            adds = record {
              more = added_name ∷ [];
              names = refl;
              gone = refl;
              external = All-cons (λ (name : TypeName). name.external ≡ true) added_name [] refl (All-nil _);
              sound = sound_with s (a.0).weight is;
            };
            numbered = record { name = added_name; stands = get_last s.names added_name; external = refl; arity = refl };
          })
