-- Copies of names: each has the arity of the name that it copies.
use Rattle.std.proofs.Common.{◌≡◌, ℕ, zero, suc, ◌+◌, ◌<◌, ◌==◌, Bool, true, false, if◌then◌else◌, List, [], ◌∷◌, ◌++◌, map, length, slice_get, Option, Some, None, refl, sym, ap, ◌∙◌, arith}
use Rattle.std.specs.List.{All, filter}
use Rattle.std.specs.Option.{option_map, option_to_list}
use Rattle.std.proofs.lemmas.Bool.{and_parts, eqb-true}
use Rattle.std.proofs.lemmas.Option.{slice_get-map}
use Rattle.std.proofs.lemmas.List.Elements.{All-cons, All-head, All-nil, All-tail}
use Rattle.type_core.specs.declared.names.TypeName.{TypeName}
use Rattle.type_core.specs.Types.{takes}
use Rattle.elab_env.specs.Names.{is_described}
use Rattle.elab_env.proofs.Kept.{described_within}
use Rattle.elab_env.proofs.NameLists.{keeps_appended}
use Rattle.elab_rules.specs.declared.entry.UnitEntry.{UnitEntry}
use Rattle.elab_rules.specs.Copies.{name_copied, names_at, new_or_old, numbers_from, own_names, renumbered}
use Rattle.elab_types.specs.Finding.{place_of}
use Rattle.elab_rules.specs.States.{State, is_free}
use Rattle.elab_rules.proofs.Appended.{later_at}

abbrev pub AreWithin : List TypeName → List ℕ → Type 0
AreWithin names own = All (λ n. n < length names) own

-- ---- what stands at a place
known_at : (names : List TypeName) (n : ℕ) → n < length names → (name : TypeName) × (slice_get names n ≡ Some name)
known_at [] n l = absurd (omega (arith, l))
known_at (name ∷ names) zero l = (name, refl)
known_at (name ∷ names) (suc n) l = known_at names n (omega (arith, l))

-- the name of each number
found_at : (names : List TypeName) (own : List ℕ) (place m : ℕ) → AreWithin names own → slice_get own place ≡ Some m → slice_get (names_at names own) place ≡ slice_get names m
found_at names [] place m within at = cc
found_at names (n ∷ own) zero m within at =
    let k = known_at names n (All-head (λ j. j < length names) n own within) in
    let same : n ≡ m = cc in
    ap (λ o. slice_get (option_to_list o ++ names_at names own) zero) k.1 ∙ sym k.1 ∙ ap (slice_get names) same
found_at names (n ∷ own) (suc place) m within at =
    let k = known_at names n (All-head (λ j. j < length names) n own within) in
    ap (λ o. slice_get (option_to_list o ++ names_at names own) (suc place)) k.1
    ∙ found_at names own place m (All-tail (λ j. j < length names) n own within) at

-- the number at its place
placed_at : (own : List ℕ) (m place : ℕ) → place_of (λ k. k == m) own ≡ Some place → slice_get own place ≡ Some m
placed_at [] m place e = cc
placed_at (k ∷ own) m place e = by_case (λ p. placed_at own m p) (k == m) refl e
  where
    by_place : (o : Option ℕ) → ((p : ℕ) → o ≡ Some p → slice_get own p ≡ Some m) → option_map (λ p. suc p) o ≡ Some place → slice_get (k ∷ own) place ≡ Some m
    by_place None later f = cc
    by_place (Some p) later f = let next : suc p ≡ place = cc in ap (slice_get (k ∷ own)) (sym next) ∙ later p refl

    by_case : ((p : ℕ) → place_of (λ j. j == m) own ≡ Some p → slice_get own p ≡ Some m)
        → (b : Bool) → (k == m) ≡ b → (if b then Some 0 else option_map (λ p. suc p) (place_of (λ j. j == m) own)) ≡ Some place → slice_get (k ∷ own) place ≡ Some m
    by_case later true is f = let first : 0 ≡ place = cc in ap (slice_get (k ∷ own)) (sym first) ∙ ap (λ x. Some x) (eqb-true k m is)
    by_case later false is f = by_place (place_of (λ j. j == m) own) later f

-- ---- the arities of the names, with copies at their end
copied_takes : (path : List ℕ) (bytes count : ℕ) (o : Option TypeName) → takes (option_map (name_copied path bytes) o) count ≡ takes o count
copied_takes path bytes count None = refl
copied_takes path bytes count (Some name) = refl

pub copied_arities : (names : List TypeName) (own path : List ℕ) (bytes : ℕ) → AreWithin names own → (m count : ℕ) → takes (slice_get names m) count ≡ true
    → takes (slice_get (names ++ map (name_copied path bytes) (names_at names own)) (renumbered own (length names) m)) count ≡ true
copied_arities names own path bytes within m count e = by_place (place_of (λ k. k == m) own) refl
  where
    copies : List TypeName
    copies = map (name_copied path bytes) (names_at names own)

    by_place : (o : Option ℕ) → place_of (λ k. k == m) own ≡ o → takes (slice_get (names ++ copies) (new_or_old (length names) m o)) count ≡ true
    by_place None is = (keeps_appended names copies).arities m count e
    by_place (Some place) is =
        ap (λ o. takes o count) (later_at names copies place (length names + place) refl ∙ slice_get-map (name_copied path bytes) (names_at names own) place
        ∙ ap (option_map (name_copied path bytes)) (found_at names own place m within (placed_at own m place is)))
        ∙ copied_takes path bytes count (slice_get names m) ∙ e

-- ---- a unit's own names are known
pub kept_within : (test : ℕ → Bool) (P : ℕ → Type 0) → ((n : ℕ) → test n ≡ true → P n) → (ns : List ℕ) → All P (filter test ns)
kept_within test P each [] = All-nil P
kept_within test P each (n ∷ ns) = by_case (kept_within test P each ns) (test n) refl
  where
    by_case : All P (filter test ns) → (b : Bool) → test n ≡ b → All P (if b then n ∷ filter test ns else filter test ns)
    by_case rest true is = All-cons P n (filter test ns) (each n is) rest
    by_case rest false is = rest

pub own_within : (unit : UnitEntry) (s : State) → AreWithin s.names (own_names unit s)
own_within unit s =
    kept_within (is_free s) (λ n. n < length s.names) (λ n free. described_within s.names n (and_parts (is_described s.names n) _ free).0) (numbers_from unit.first_name unit.name_count)
