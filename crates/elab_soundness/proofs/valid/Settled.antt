-- Names of which one has another equality, and flags of which one is set.
use Rattle.std.proofs.Common.{◌≡◌, ◌≢◌, ℕ, zero, suc, ◌-◌, ◌≤◌, Bool, true, false, true≢false, not, if◌then◌else◌, List, [], ◌∷◌, ◌++◌, length, map, slice_get, slice_index_or, Some, refl, sym, ap, ◌∙◌, subst, arith}
use Rattle.std.proofs.lemmas.List.Elements.{All-cons, All-head, All-tail}
use Rattle.std.proofs.lemmas.List.Kept.{AllPairs-cons}
use Rattle.std.specs.List.{All, Contains, filter}
use Rattle.type_core.specs.declared.names.Equality.{Equality}
use Rattle.type_core.specs.declared.names.TypeName.{TypeName}
use Rattle.type_core.specs.InitialNames.{initial_names}
use Rattle.type_core.specs.ValidLibrary.{AreDistinct, path_and_arity}
use Rattle.elab_env.specs.Names.{is_own, with_equality}
use Rattle.elab_env.proofs.NameLists.{length-with_equality}
use Rattle.elab_rules.specs.Library.{kept_names}
use Rattle.elab_rules.specs.Sharing.{with_gone}
use Rattle.elab_soundness.specs.Soundness.{AreNamed, AreSoundNames, HasSoundNames, IsSoundName, made_paths}
use Rattle.elab_rules.specs.States.{State}
use Rattle.elab_soundness.proofs.valid.Body.{IsUsual}
use Rattle.elab_types.proofs.Lists.{no_some, pairs_parts}
use Rattle.elab_soundness.proofs.valid.Named.{named_same}

-- ---- another equality
abbrev others : Equality → TypeName → TypeName
others equality name = record { path = name.path; arity = name.arity; equality = equality; external = name.external }

pub settled_after : (n : ℕ) (equality : Equality) (first own : List TypeName) → length first ≤ n → with_equality n equality (first ++ own) ≡ first ++ with_equality (n - length first) equality own
settled_after n equality [] own l = ap (λ k. with_equality k equality own) (let e : n ≡ n - 0 = omega arith in e)
settled_after zero equality (name ∷ first) own l = absurd (omega (arith, l))
settled_after (suc n) equality (name ∷ first) own l =
    ap (λ names. name ∷ names) (settled_after n equality first own (omega (arith, l)))
    ∙ ap (λ k. name ∷ first ++ with_equality k equality own) (let e : n - length first ≡ suc n - suc (length first) = omega arith in e)

pub later_at : {A : Type 0} (xs ys : List A) (n : ℕ) → length xs ≤ n → slice_get (xs ++ ys) n ≡ slice_get ys (n - length xs)
later_at [] ys n l = ap (slice_get ys) (let e : n ≡ n - 0 = omega arith in e)
later_at (x ∷ xs) ys zero l = absurd (omega (arith, l))
later_at (x ∷ xs) ys (suc n) l = later_at xs ys n (omega (arith, l)) ∙ ap (slice_get ys) (let e : n - length xs ≡ suc n - suc (length xs) = omega arith in e)

-- what stands there afterwards stood there before, but for its equality
record IsSettled (names : List TypeName) (n : ℕ) (now : TypeName) : Type 0 where
  before : TypeName
  stands : slice_get names n ≡ Some before
  external : now.external ≡ before.external

settled_at : (at : ℕ) (equality : Equality) (names : List TypeName) (n : ℕ) (now : TypeName) → slice_get (with_equality at equality names) n ≡ Some now → IsSettled names n now
settled_at at equality [] n now e = absurd (no_some now e)
settled_at zero equality (name ∷ names) zero now e = record { before = name; stands = refl; external = ap (λ (x : TypeName). x.external) (let same : now ≡ others equality name = cc in same) }
settled_at zero equality (name ∷ names) (suc n) now e = record { before = now; stands = e; external = refl }
settled_at (suc at) equality (name ∷ names) zero now e = record { before = now; stands = e; external = refl }
settled_at (suc at) equality (name ∷ names) (suc n) now e = let h = settled_at at equality names n now e in record { before = h.before; stands = h.stands; external = h.external }

module _ (tops : List (List ℕ)) (equality : Equality) (usual : IsUsual equality) where
  all_settled : (at : ℕ) (own : List TypeName) → is_own (slice_get own at) ≡ true → All (IsSoundName tops) own → All (IsSoundName tops) (with_equality at equality own)
  all_settled at [] is h = h
  all_settled zero (name ∷ own) is h =
      let one = All-head (IsSoundName tops) name own h in
      All-cons (IsSoundName tops) (others equality name) own
      (record { arity = one.arity; described = λ e. usual; external = λ e. absurd (true≢false (sym is ∙ ap not e)) })
      (All-tail (IsSoundName tops) name own h)
  all_settled (suc at) (name ∷ own) is h = All-cons (IsSoundName tops) name (with_equality at equality own) (All-head (IsSoundName tops) name own h) (all_settled at own is (All-tail (IsSoundName tops) name own h))

pairs_settled : (at : ℕ) (equality : Equality) (own : List TypeName) → map path_and_arity (filter (λ (name : TypeName). name.external) (with_equality at equality own)) ≡ map path_and_arity (filter (λ (name : TypeName). name.external) own)
pairs_settled at equality [] = refl
pairs_settled zero equality (name ∷ own) = by_flag name.external
  where
    rest : List TypeName
    rest = filter (λ (x : TypeName). x.external) own

    by_flag : (b : Bool) → map path_and_arity (if b then others equality name ∷ rest else rest) ≡ map path_and_arity (if b then name ∷ rest else rest)
    by_flag true = refl
    by_flag false = refl
pairs_settled (suc at) equality (name ∷ own) = by_flag name.external _ _ (pairs_settled at equality own)
  where
    by_flag : (b : Bool) (xs ys : List TypeName) → map path_and_arity xs ≡ map path_and_arity ys → map path_and_arity (if b then name ∷ xs else xs) ≡ map path_and_arity (if b then name ∷ ys else ys)
    by_flag true xs ys e = ap (λ ps. path_and_arity name ∷ ps) e
    by_flag false xs ys e = e

pub paths_settled : (at : ℕ) (equality : Equality) (names : List TypeName) (flags : List Bool) → made_paths (with_equality at equality names) flags ≡ made_paths names flags
paths_settled at equality [] flags = refl
paths_settled zero equality (name ∷ names) flags = by_flags flags
  where
    one : (b : Bool) (rest : List TypeName) → map (λ (x : TypeName). x.path) (if b then others equality name ∷ rest else rest) ≡ map (λ (x : TypeName). x.path) (if b then name ∷ rest else rest)
    one true rest = refl
    one false rest = refl

    by_flags : (fs : List Bool) → made_paths (others equality name ∷ names) fs ≡ made_paths (name ∷ names) fs
    by_flags [] = one (not name.external) _
    by_flags (true ∷ fs) = refl
    by_flags (false ∷ fs) = one (not name.external) _
paths_settled (suc at) equality (name ∷ names) flags = by_flags (λ fs. paths_settled at equality names fs) flags
  where
    one : (b : Bool) (xs ys : List TypeName) → map (λ (x : TypeName). x.path) xs ≡ map (λ (x : TypeName). x.path) ys → map (λ (x : TypeName). x.path) (if b then name ∷ xs else xs) ≡ map (λ (x : TypeName). x.path) (if b then name ∷ ys else ys)
    one true xs ys e = ap (λ ps. name.path ∷ ps) e
    one false xs ys e = e

    by_flags : ((fs : List Bool) → made_paths (with_equality at equality names) fs ≡ made_paths names fs) → (fs : List Bool) → made_paths (name ∷ with_equality at equality names) fs ≡ made_paths (name ∷ names) fs
    by_flags rest [] = one (not name.external) _ _ (rest [])
    by_flags rest (true ∷ fs) = rest fs
    by_flags rest (false ∷ fs) = one (not name.external) _ _ (rest fs)

pub names_settled : (tops : List (List ℕ)) (at : ℕ) (equality : Equality) (names : List TypeName) → length initial_names ≤ at → IsUsual equality → is_own (slice_get names at) ≡ true → AreSoundNames tops names → AreSoundNames tops (with_equality at equality names)
names_settled tops at equality names l usual is h = record {
  own = with_equality (at - length initial_names) equality h.own;
  whole = ap (with_equality at equality) h.whole ∙ settled_after at equality initial_names h.own l;
  each = all_settled tops equality usual (at - length initial_names) h.own (sym (ap is_own (ap (λ xs. slice_get xs at) h.whole ∙ later_at initial_names h.own at l)) ∙ is) h.each;
  apart = subst AreDistinct (sym (pairs_settled (at - length initial_names) equality h.own)) h.apart;
}

-- ---- a flag that is set
pub gone_after : (n : ℕ) (first flags : List Bool) → length first ≤ n → with_gone n (first ++ flags) ≡ first ++ with_gone (n - length first) flags
gone_after n [] flags l = ap (λ k. with_gone k flags) (let e : n ≡ n - 0 = omega arith in e)
gone_after zero (flag ∷ first) flags l = absurd (omega (arith, l))
gone_after (suc n) (flag ∷ first) flags l =
    ap (λ fs. flag ∷ fs) (gone_after n first flags (omega (arith, l)))
    ∙ ap (λ k. flag ∷ first ++ with_gone k flags) (let e : n - length first ≡ suc n - suc (length first) = omega arith in e)

pub length-with_gone : (n : ℕ) (flags : List Bool) → length (with_gone n flags) ≡ length flags
length-with_gone n [] = refl
length-with_gone zero (flag ∷ flags) = refl
length-with_gone (suc n) (flag ∷ flags) = ap (λ k. suc k) (length-with_gone n flags)

pub flag_other : (n : ℕ) (flags : List Bool) (m : ℕ) → m ≢ n → slice_index_or (with_gone n flags) m false ≡ slice_index_or flags m false
flag_other n [] m apart = refl
flag_other zero (flag ∷ flags) zero apart = absurd (apart refl)
flag_other zero (flag ∷ flags) (suc m) apart = refl
flag_other (suc n) (flag ∷ flags) zero apart = refl
flag_other (suc n) (flag ∷ flags) (suc m) apart = flag_other n flags m (λ e. apart (ap (λ k. suc k) e))

-- what is so of the paths that were left is so of those that are left
all_left : (P : List ℕ → Type 0) (n : ℕ) (names : List TypeName) (flags : List Bool) → All P (made_paths names flags) → All P (made_paths names (with_gone n flags))
all_left P n [] flags h = h
all_left P n (name ∷ names) [] h = h
all_left P zero (name ∷ names) (true ∷ flags) h = h
all_left P zero (name ∷ names) (false ∷ flags) h = dropped (not name.external) h
  where
    rest : List TypeName
    rest = filter (λ (x : TypeName). not x.external) (kept_names names flags)

    dropped : (b : Bool) → All P (map (λ (x : TypeName). x.path) (if b then name ∷ rest else rest)) → All P (map (λ (x : TypeName). x.path) rest)
    dropped true k = All-tail P name.path _ k
    dropped false k = k
all_left P (suc n) (name ∷ names) (true ∷ flags) h = all_left P n names flags h
all_left P (suc n) (name ∷ names) (false ∷ flags) h = kept (not name.external) _ _ (λ k. all_left P n names flags k) h
  where
    kept : (b : Bool) (xs ys : List TypeName) → (All P (map (λ (x : TypeName). x.path) xs) → All P (map (λ (x : TypeName). x.path) ys)) → All P (map (λ (x : TypeName). x.path) (if b then name ∷ xs else xs))
        → All P (map (λ (x : TypeName). x.path) (if b then name ∷ ys else ys))
    kept true xs ys rest k = All-cons P name.path _ (All-head P name.path _ k) (rest (All-tail P name.path _ k))
    kept false xs ys rest k = rest k

distinct_left : (n : ℕ) (names : List TypeName) (flags : List Bool) → AreDistinct (made_paths names flags) → AreDistinct (made_paths names (with_gone n flags))
distinct_left n [] flags h = h
distinct_left n (name ∷ names) [] h = h
distinct_left zero (name ∷ names) (true ∷ flags) h = h
distinct_left zero (name ∷ names) (false ∷ flags) h = dropped (not name.external) h
  where
    rest : List TypeName
    rest = filter (λ (x : TypeName). not x.external) (kept_names names flags)

    dropped : (b : Bool) → AreDistinct (map (λ (x : TypeName). x.path) (if b then name ∷ rest else rest)) → AreDistinct (map (λ (x : TypeName). x.path) rest)
    dropped true k = (pairs_parts (λ a b. a ≢ b) name.path _ k).1
    dropped false k = k
distinct_left (suc n) (name ∷ names) (true ∷ flags) h = distinct_left n names flags h
distinct_left (suc n) (name ∷ names) (false ∷ flags) h = kept (not name.external) _ _ (λ P k. all_left P n names flags k) (λ k. distinct_left n names flags k) h
  where
    kept : (b : Bool) (xs ys : List TypeName) → ((P : List ℕ → Type 0) → All P (map (λ (x : TypeName). x.path) xs) → All P (map (λ (x : TypeName). x.path) ys))
        → (AreDistinct (map (λ (x : TypeName). x.path) xs) → AreDistinct (map (λ (x : TypeName). x.path) ys)) → AreDistinct (map (λ (x : TypeName). x.path) (if b then name ∷ xs else xs))
        → AreDistinct (map (λ (x : TypeName). x.path) (if b then name ∷ ys else ys))
    kept true xs ys all rest k = let p = pairs_parts (λ a b. a ≢ b) name.path _ k in AllPairs-cons (λ a b. a ≢ b) name.path _ (all (λ q. name.path ≢ q) p.0) (rest p.1)
    kept false xs ys all rest k = rest k

pub named_left : (ps : List (List ℕ)) (n : ℕ) (names : List TypeName) (flags : List Bool) → AreNamed ps names flags → AreNamed ps names (with_gone n flags)
named_left ps n names flags h = record { described = all_left (Contains ps) n names flags h.described; distinct = distinct_left n names flags h.distinct }

pub named_settled : (ps : List (List ℕ)) (at : ℕ) (equality : Equality) (names : List TypeName) (flags : List Bool) → AreNamed ps names flags → AreNamed ps (with_equality at equality names) flags
named_settled ps at equality names flags h = named_same ps names flags (with_equality at equality names) flags (sym (paths_settled at equality names flags)) h

-- ---- states
-- a described name has another equality
pub sound_settled : (tops : List (List ℕ)) (at : ℕ) (equality : Equality) (s : State) (weight : ℕ) → length initial_names ≤ at → IsUsual equality → is_own (slice_get s.names at) ≡ true → HasSoundNames tops s
    → HasSoundNames tops (record { names = with_equality at equality s.names; gone = s.gone; weight = weight })
sound_settled tops at equality s weight l usual is h = record {
  names = names_settled tops at equality s.names l usual is h.names;
  counted = h.counted ∙ sym (length-with_equality at equality s.names);
  stay = λ n name stands e. let k = settled_at at equality s.names n name stands in h.stay n k.before k.stands (sym k.external ∙ e);
}

-- a described name is gone
pub sound_left : (tops : List (List ℕ)) (at : ℕ) (s : State) (weight : ℕ) → is_own (slice_get s.names at) ≡ true → HasSoundNames tops s → HasSoundNames tops (record { names = s.names; gone = with_gone at s.gone; weight = weight })
sound_left tops at s weight is h = record {
  names = h.names;
  counted = length-with_gone at s.gone ∙ h.counted;
  stay = λ n name stands e. flag_other at s.gone n (λ same. true≢false (sym is ∙ ap is_own (ap (slice_get s.names) (sym same) ∙ stands) ∙ ap not e)) ∙ h.stay n name stands e;
}
