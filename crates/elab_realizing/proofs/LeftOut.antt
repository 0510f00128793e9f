-- The pairs that are left out change nothing: an earlier structure has all that is in the first, and was shared with both.
use Rattle.std.proofs.Common.{◌≡◌, ℕ, ◌+◌, ◌<◌, true, List, [], ◌∷◌, ◌++◌, length, drop, get_or, Option, Some, None, Ok, refl, sym, ap, ap₂, ◌∙◌, subst}
use Rattle.std.specs.List.{All, Any}
use Rattle.std.specs.Option.{option_and_then, option_map}
use Rattle.std.proofs.lemmas.List.Elements.{All-append, All-cons, All-head, All-nil, All-tail, All-weaker}
use Rattle.type_core.proofs.Trees.{EachOf}
use Rattle.type_core.specs.declared.type_fn.TypeFn.{TypeFn}
use Rattle.type_core.specs.declared.ty.Ty.{Ty}
use Rattle.elab_env.specs.declared.realization.Realization.{Realization}
use Rattle.elab_env.specs.Realizations.{function_resolved, resolved}
use Rattle.elab_rules.specs.declared.entry.Entry.{Entry}
use Rattle.elab_rules.specs.declared.entry.TypeEntry.{TypeEntry}
use Rattle.elab_rules.specs.declared.scope.Scope.{Scope}
use Rattle.elab_rules.specs.Bodies.{Site}
use Rattle.elab_rules.specs.Environments.{Environment}
use Rattle.elab_rules.specs.Joining.{ArePlacedAt}
use Rattle.sig_base.specs.LongIdentifiers.{parts}
use Rattle.elab_rules.specs.LongIdentifiers.{Found, structure_along, type_along}
use Rattle.elab_types.specs.Outcome.{and_then}
use Rattle.elab_rules.specs.Replacing.{environment_with}
use Rattle.elab_rules.specs.Sharing.{entry_paths, first_shared, if_both, paths_from, paths_shared, same_function}
use Rattle.elab_types.specs.Sources.{text_at}
use Rattle.elab_rules.specs.States.{State}
use Rattle.elab_rules.proofs.Entries.{each_entry, induct_entry}
use Rattle.elab_rules.proofs.LookedUp.{found_with, type_along_with}
use Rattle.elab_types.proofs.Lists.{dropped}
use Rattle.elab_realizing.proofs.AlongPaths.{shared_more}
use Rattle.elab_realizing.specs.SharedStructures.{AreSame, AreShared, AreThere, IsThere}
use Rattle.elab_rules.proofs.IndexWith.{paths_structure, paths_type, paths_value}
use Rattle.elab_realizing.proofs.NamesShared.{same_shared}
use Rattle.elab_realizing.proofs.SameFunctions.{same_by_parts}
use Rattle.elab_realizing.proofs.SharedPaths.{type_along_after}
use Rattle.elab_realizing.proofs.StructuresShared.{two_shared}

-- ---- no path is empty
abbrev IsPath : List (List ℕ) → Type 0
IsPath path = (id : List ℕ) × (ids : List (List ℕ)) × (path ≡ id ∷ ids)

longer : (path : List (List ℕ)) (id : List ℕ) → IsPath (path ++ id ∷ [])
longer [] id = (id, [], refl)
longer (x ∷ xs) id = (x, xs ++ id ∷ [], refl)

abbrev HasPaths : Entry → Type 0
HasPaths e = (path : List (List ℕ)) → All IsPath (entry_paths e path)

paths_of_each : (es : List Entry) → EachOf HasPaths es → (path : List (List ℕ)) → All IsPath (paths_from path es)
paths_of_each [] hs path = All-nil IsPath
paths_of_each (e ∷ es) hs path = All-append IsPath (entry_paths e path) (paths_from path es) (hs.0 path) (paths_of_each es hs.1 path)

paths_of_entry : (e : Entry) → HasPaths e
paths_of_entry = induct_entry HasPaths
    (λ type path. subst (All IsPath) (sym (paths_type type path)) (All-cons IsPath (path ++ type.id ∷ []) [] (longer path type.id) (All-nil IsPath)))
    (λ value path. subst (All IsPath) (sym (paths_value value path)) (All-nil IsPath))
    (λ id es hs path. subst (All IsPath) (sym (paths_structure id es path)) (paths_of_each es hs (path ++ id ∷ [])))

are_paths : (path : List (List ℕ)) (es : List Entry) → All IsPath (paths_from path es)
are_paths path es = paths_of_each es (each_entry HasPaths paths_of_entry es) path

-- ---- what is the same function by now shares nothing
module _ (rs : List Realization) (token : ℕ) (site : Site) (env : Environment) (s : State) where
  abbrev by_now : Option Found → Option Found
  by_now o = option_map (found_with (resolved rs)) o

  abbrev entry_of : Option Found → Option TypeEntry
  entry_of o = option_map (λ found. found.entry) o

  one_function : (f g : TypeFn) → f ≡ g → same_function f g ≡ true
  one_function f g e = sym (same_by_parts f g true (ap (λ (h : TypeFn). h.arity) e) (λ t. ap (λ (h : TypeFn). h.body) e) (λ b. refl))

  -- the first is there in the earlier structure, where it was made the same as both
  same_at : (earlier o q : Option Found) → IsThere (entry_of o) (entry_of earlier) → AreSame rs (entry_of earlier) (entry_of o) → AreSame rs (entry_of earlier) (entry_of q)
      → if_both (by_now o) (by_now q) token site env s ≡ Ok (env, s)
  same_at earlier None q there same other = refl
  same_at earlier (Some f) None there same other = refl
  same_at None (Some f) (Some g) there same other = cc
  same_at (Some k) (Some f) (Some g) there same other =
      same_shared (function_resolved rs f.entry.fun) (function_resolved rs g.entry.fun) token site env s
      (one_function (function_resolved rs f.entry.fun) (function_resolved rs g.entry.fun) (sym same ∙ other))

  nothing_to_share : (a b : List (List ℕ)) (paths : List (List (List ℕ))) → All (λ path. if_both (type_along (a ++ path) env) (type_along (b ++ path) env) token site env s ≡ Ok (env, s)) paths
      → paths_shared a b token paths site env s ≡ Ok (env, s)
  nothing_to_share a b [] all = refl
  nothing_to_share a b (path ∷ paths) all =
      let P = λ (path : List (List ℕ)). if_both (type_along (a ++ path) env) (type_along (b ++ path) env) token site env s ≡ Ok (env, s) in
      ap (λ o. and_then o (λ r. paths_shared a b token paths site r.0 r.1)) (All-head P path paths all)
      ∙ nothing_to_share a b paths (All-tail P path paths all)

-- what stands along a path in a structure of the body, by now
along_by_now : (g : Ty → Ty) (a : List (List ℕ)) (whole first : Environment) (id : List ℕ) (ids : List (List ℕ)) → structure_along a whole ≡ Some first
    → type_along (a ++ id ∷ ids) (environment_with g whole) ≡ option_map (found_with g) (type_along (id ∷ ids) first)
along_by_now g a whole first id ids stands =
    type_along_with g (a ++ id ∷ ids) whole
    ∙ ap (option_map (found_with g)) (type_along_after a id ids whole ∙ ap (option_and_then (type_along (id ∷ ids))) stands)

module _ (rs : List Realization) (site : Site) (whole earlier first : Environment) (s : State) (there : AreThere first earlier) (same : AreShared rs earlier first) where
  abbrev env : Environment
  env = environment_with (resolved rs) whole

  -- one pair
  pair_left_out : (a b : List (List ℕ)) (token : ℕ) (other : Environment) → structure_along a whole ≡ Some first → structure_along b whole ≡ Some other → AreShared rs earlier other
      → paths_shared a b token (paths_from [] first) site env s ≡ Ok (env, s)
  pair_left_out a b token other stands at shared =
      let P = λ (path : List (List ℕ)). if_both (type_along (a ++ path) env) (type_along (b ++ path) env) token site env s ≡ Ok (env, s) in
      nothing_to_share rs token site env s a b (paths_from [] first)
      (All-weaker IsPath P
      (λ path is. subst P (sym is.2)
      (ap₂ (λ o q. if_both o q token site env s) (along_by_now (resolved rs) a whole first is.0 is.1 stands) (along_by_now (resolved rs) b whole other is.0 is.1 at)
      ∙ same_at rs token site env s (type_along (is.0 ∷ is.1) earlier) (type_along (is.0 ∷ is.1) first) (type_along (is.0 ∷ is.1) other) (there (is.0 ∷ is.1)) (same (is.0 ∷ is.1)) (shared (is.0 ∷ is.1))))
      (paths_from [] first) (are_paths [] first))

  -- the first with each of the others
  pub first_left_out : (i : ℕ) (tokens : List ℕ) (others : List Scope) → structure_along (parts (text_at site.texts i)) whole ≡ Some first → ArePlacedAt site whole tokens others
      → All (λ (scope : Scope). AreShared rs earlier scope.entries.now) others → first_shared i tokens site env s ≡ Ok (env, s)
  first_left_out i [] others stands placed shared = refl
  first_left_out i (j ∷ js) [] stands placed shared = absurd placed
  first_left_out i (j ∷ js) (other ∷ others) stands placed shared =
      let IsShared = λ (scope : Scope). AreShared rs earlier scope.entries.now in
      ap (λ o. and_then o (λ r. first_shared i js site r.0 r.1))
      (two_shared i j site (resolved rs) whole first s stands
      ∙ pair_left_out (parts (text_at site.texts i)) (parts (text_at site.texts j)) j other.entries.now stands placed.0 (All-head IsShared other others shared))
      ∙ first_left_out i js others stands placed.1 (All-tail IsShared other others shared)

-- ---- what was shared with all that are left
abbrev pub IsSharedWith : List Realization → List Scope → Scope → Type 0
IsSharedWith rs rest earlier = All (λ (scope : Scope). AreShared rs earlier.entries.now scope.entries.now) rest

-- with the next one, and with those after it
pub next_and_rest : (rs : List Realization) (scopes : List Scope) (i : ℕ) (first earlier : Scope) → i < length scopes → first ≡ get_or scopes i first → IsSharedWith rs (drop i scopes) earlier
    → AreShared rs earlier.entries.now first.entries.now × IsSharedWith rs (drop (i + 1) scopes) earlier
next_and_rest rs scopes i first earlier below is shared =
    let P = λ (scope : Scope). AreShared rs earlier.entries.now scope.entries.now in
    let all : All P (first ∷ drop (i + 1) scopes) = subst (All P) (dropped scopes i first first below is) shared in
    (All-head P first (drop (i + 1) scopes) all, All-tail P first (drop (i + 1) scopes) all)

-- still so after more realizations, with those after the next one
pub all_still_shared : (rs more later : List Realization) (scopes : List Scope) (i : ℕ) (first : Scope) (shared : List Scope) → i < length scopes → first ≡ get_or scopes i first → later ≡ rs ++ more
    → All (IsSharedWith rs (drop i scopes)) shared → All (IsSharedWith later (drop (i + 1) scopes)) shared
all_still_shared rs more later scopes i first shared below is grew all =
    All-weaker (IsSharedWith rs (drop i scopes)) (IsSharedWith later (drop (i + 1) scopes))
    (λ earlier so_far.
    All-weaker (λ (scope : Scope). AreShared rs earlier.entries.now scope.entries.now) (λ (scope : Scope). AreShared later earlier.entries.now scope.entries.now)
    (λ scope was. shared_more rs more later earlier.entries.now scope.entries.now grew was)
    (drop (i + 1) scopes) (next_and_rest rs scopes i first earlier below is so_far).1)
    shared all

-- where one of them has all that the next one has, the next one shares nothing
pub next_left_out : (rs : List Realization) (site : Site) (whole : Environment) (s : State) (scopes shared : List Scope) (i token : ℕ) (tokens : List ℕ) (first : Scope) → i < length scopes → first ≡ get_or scopes i first
    → ArePlacedAt site whole (token ∷ tokens) (first ∷ drop (i + 1) scopes) → All (IsSharedWith rs (drop i scopes)) shared → Any (λ (scope : Scope). AreThere first.entries.now scope.entries.now) shared
    → first_shared token tokens site (environment_with (resolved rs) whole) s ≡ Ok (environment_with (resolved rs) whole, s)
next_left_out rs site whole s scopes shared i token tokens first below is placed all (k, earlier, within, at, there) =
    let with_all : IsSharedWith rs (drop i scopes) earlier = subst (IsSharedWith rs (drop i scopes)) at (all k earlier within) in
    let both = next_and_rest rs scopes i first earlier below is with_all in
    first_left_out rs site whole earlier.entries.now first.entries.now s there both.0 token tokens (drop (i + 1) scopes) placed.0 placed.1 both.1
