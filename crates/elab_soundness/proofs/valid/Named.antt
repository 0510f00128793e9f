-- The described names that are left: more names, names that are realized or joined away, and names from elsewhere.
use Rattle.std.proofs.Common.{◌≡◌, ◌≢◌, ℕ, Bool, true, false, not, List, [], ◌∷◌, ◌++◌, length, map, append-nil, refl, sym, ap, ◌∙◌, subst, arith}
use Rattle.std.proofs.lemmas.List.{map-append}
use Rattle.std.proofs.lemmas.List.Elements.{All-append, All-cons, All-contains, All-head, All-nil, All-tail, All-weaker, Contains-append_left, Contains-append_right, filter-append}
use Rattle.std.specs.List.{All, Contains, filter}
use Rattle.type_core.specs.declared.names.TypeName.{TypeName}
use Rattle.type_core.specs.ValidLibrary.{AreDistinct}
use Rattle.elab_rules.specs.Library.{kept_names}
use Rattle.elab_soundness.specs.Soundness.{AreNamed, made_paths}
use Rattle.elab_types.proofs.Lists.{none_pass, no_pairs}
use Rattle.elab_soundness.proofs.valid.Paths.{distinct_apart, distinct_both}

-- ---- one list of names after the other
pub kept_together : (names : List TypeName) (flags : List Bool) (more : List TypeName) (others : List Bool) → length flags ≡ length names → kept_names (names ++ more) (flags ++ others) ≡ kept_names names flags ++ kept_names more others
kept_together [] [] more others e = refl
kept_together [] (flag ∷ flags) more others e = absurd (omega (arith, e))
kept_together (name ∷ names) [] more others e = absurd (omega (arith, e))
kept_together (name ∷ names) (true ∷ flags) more others e = kept_together names flags more others (omega (arith, e))
kept_together (name ∷ names) (false ∷ flags) more others e = ap (λ rest. name ∷ rest) (kept_together names flags more others (omega (arith, e)))

abbrev is_made : TypeName → Bool
is_made name = not name.external

abbrev pub path_list : List TypeName → List (List ℕ)
path_list names = map (λ (name : TypeName). name.path) names

pub made_together : (names : List TypeName) (flags : List Bool) (more : List TypeName) (others : List Bool) → length flags ≡ length names → made_paths (names ++ more) (flags ++ others) ≡ made_paths names flags ++ made_paths more others
made_together names flags more others e =
    ap path_list (ap (filter is_made) (kept_together names flags more others e) ∙ filter-append is_made (kept_names names flags) (kept_names more others))
    ∙ map-append (λ (name : TypeName). name.path) (filter is_made (kept_names names flags)) (filter is_made (kept_names more others))

pub all_kept : (P : TypeName → Type 0) (names : List TypeName) (flags : List Bool) → All P names → All P (kept_names names flags)
all_kept P [] flags h = All-nil P
all_kept P (name ∷ names) [] h = All-cons P name (kept_names names []) (All-head P name names h) (all_kept P names [] (All-tail P name names h))
all_kept P (name ∷ names) (true ∷ flags) h = all_kept P names flags (All-tail P name names h)
all_kept P (name ∷ names) (false ∷ flags) h = All-cons P name (kept_names names flags) (All-head P name names h) (all_kept P names flags (All-tail P name names h))

-- names from elsewhere are no described ones
pub made_external : (names : List TypeName) (flags : List Bool) → All (λ name. name.external ≡ true) names → made_paths names flags ≡ []
made_external names flags h =
    ap path_list (none_pass is_made (kept_names names flags) (All-weaker (λ (name : TypeName). name.external ≡ true) (λ name. is_made name ≡ false) (λ name e. ap not e) (kept_names names flags) (all_kept (λ (name : TypeName). name.external ≡ true) names flags h)))

pub named_none : (paths : List (List ℕ)) → AreNamed paths [] []
named_none paths = record { described = All-nil _; distinct = no_pairs }

-- only the paths matter
pub named_same : (ps : List (List ℕ)) (names : List TypeName) (flags : List Bool) (others : List TypeName) (gone : List Bool) → made_paths names flags ≡ made_paths others gone → AreNamed ps names flags → AreNamed ps others gone
named_same ps names flags others gone e h = record { described = subst (All (Contains ps)) e h.described; distinct = subst AreDistinct e h.distinct }

-- ---- described names with further ones, whose paths are others
pub named_together : (ps qs : List (List ℕ)) (names : List TypeName) (flags : List Bool) (more : List TypeName) (others : List Bool) → length flags ≡ length names → AreDistinct (ps ++ qs)
    → AreNamed ps names flags → AreNamed qs more others → AreNamed (ps ++ qs) (names ++ more) (flags ++ others)
named_together ps qs names flags more others e distinct h k =
    let first = made_paths names flags in
    let second = made_paths more others in
    let whole = made_together names flags more others e in
    let cross = (distinct_apart ps qs distinct).0 in
    let far : All (λ x. All (λ y. x ≢ y) second) first =
    All-weaker (Contains ps) (λ x. All (λ y. x ≢ y) second)
    (λ x c. All-weaker (Contains qs) (λ y. x ≢ y) (λ y d. All-contains (λ z. x ≢ z) qs y (All-contains (λ z. All (λ w. z ≢ w) qs) ps x cross c) d) second k.described) first h.described in
    record {
      described = subst (All (Contains (ps ++ qs))) (sym whole)
          (All-append (Contains (ps ++ qs)) first second
          (All-weaker (Contains ps) (Contains (ps ++ qs)) (Contains-append_left ps qs) first h.described)
          (All-weaker (Contains qs) (Contains (ps ++ qs)) (Contains-append_right ps qs) second k.described));
      distinct = subst AreDistinct (sym whole) (distinct_both first second h.distinct k.distinct far);
    }

-- names from elsewhere change nothing
pub named_external : (ps : List (List ℕ)) (names : List TypeName) (flags : List Bool) (more : List TypeName) (others : List Bool) → length flags ≡ length names → All (λ name. name.external ≡ true) more → AreNamed ps names flags → AreNamed ps (names ++ more) (flags ++ others)
named_external ps names flags more others e external =
    named_same ps names flags (names ++ more) (flags ++ others)
    (sym (made_together names flags more others e ∙ ap (λ xs. made_paths names flags ++ xs) (made_external more others external) ∙ append-nil (made_paths names flags)))
