-- Structures of a body that are shared, pair by pair.
use Rattle.std.proofs.Common.{◌≡◌, ℕ, zero, suc, ◌+◌, ◌-◌, ◌<◌, is_some, List, [], ◌∷◌, ◌++◌, length, drop, take, map, get_or, slice_get, Option, Some, None, Ok, refl, sym, ap, ap₂, ◌∙◌, subst, append-nil}
use Rattle.std.proofs.lemmas.List.{length-drop, length-map, map-append, take_more, take_rest}
use Rattle.std.proofs.lemmas.List.Elements.{All-cons, All-nil}
use Rattle.std.proofs.lemmas.Option.{slice_get_read}
use Rattle.std.specs.List.{All, AllZip}
use Rattle.std.specs.Option.{option_map}
use Rattle.type_core.specs.declared.names.TypeName.{TypeName}
use Rattle.type_core.specs.declared.ty.Ty.{Ty}
use Rattle.type_core.specs.Types.{IsOver}
use Rattle.elab_rules.specs.declared.refusal.Why.TheVariants.{Unbound}
use Rattle.elab_rules.specs.declared.scope.Scope.{Scope}
use Rattle.elab_rules.specs.Bodies.{Described, Site}
use Rattle.elab_rules.specs.Environments.{Environment}
use Rattle.elab_rules.specs.Joining.{ArePlacedAt}
use Rattle.sig_base.specs.LongIdentifiers.{parts}
use Rattle.elab_rules.specs.LongIdentifiers.{structure_along}
use Rattle.elab_rules.specs.Outcome.{Outcome}
use Rattle.elab_types.specs.Outcome.{and_then, checked, failed}
use Rattle.elab_rules.specs.Replacing.{environment_with}
use Rattle.elab_rules.specs.Sharing.{entries_of, first_shared, pairs_shared, paths_from, paths_shared, structures_found, structures_shared, type_paths}
use Rattle.elab_types.specs.Sources.{text_at}
use Rattle.elab_rules.specs.Standing.{AreOver}
use Rattle.elab_rules.specs.States.{State}
use Rattle.elab_rules.proofs.FoundOver.{structure_along_over}
use Rattle.elab_rules.proofs.IndexWith.{type_paths_with}
use Rattle.elab_rules.proofs.LookedUp.{structure_along_with}
use Rattle.elab_types.proofs.Lists.{dropped}

abbrev along : List (List ℕ) → ℕ → Environment → Option Environment
along texts token env = structure_along (parts (text_at texts token)) env

-- ---- structures that are found
module _ (tokens : List ℕ) (i token d : ℕ) (site : Site) (own : Environment) (whole : Outcome (Unit {0})) (within : i < length tokens) (is : token ≡ get_or tokens i d) (so_far : structures_found (drop i tokens) site own ≡ whole) where
  found_turn : checked (is_some (along site.texts token own)) Unbound token (structures_found (drop (i + 1) tokens) site own) ≡ whole
  found_turn = sym (ap (λ ts. structures_found ts site own) (dropped tokens i token d within is)) ∙ so_far

  pub not_found : None ≡ along site.texts token own → whole ≡ failed Unbound token
  not_found none = sym found_turn ∙ ap (λ o. checked (is_some o) Unbound token (structures_found (drop (i + 1) tokens) site own)) (sym none)

  pub found_next : (env : Environment) → Some env ≡ along site.texts token own → structures_found (drop (i + 1) tokens) site own ≡ whole
  found_next env some = ap (λ o. checked (is_some o) Unbound token (structures_found (drop (i + 1) tokens) site own)) some ∙ found_turn

-- ---- by now
pub some_with : {A B : Type 0} (f : A → B) (o : Option A) → is_some (option_map f o) ≡ is_some o
some_with f None = refl
some_with f (Some a) = refl

-- the same are found
pub found_by_now : (g : Ty → Ty) (tokens : List ℕ) (site by_now : Site) (own : Environment) → by_now.texts ≡ site.texts → structures_found tokens by_now (environment_with g own) ≡ structures_found tokens site own
found_by_now g [] site by_now own same = refl
found_by_now g (token ∷ tokens) site by_now own same =
    ap₂ (λ b rest. checked b Unbound token rest)
    (ap (λ texts. is_some (along texts token (environment_with g own))) same ∙ ap is_some (structure_along_with g (parts (text_at site.texts token)) own) ∙ some_with (environment_with g) (along site.texts token own))
    (found_by_now g tokens site by_now own same)

some_of : (o : Option Environment) (why_token : ℕ) (rest : Outcome (Unit {0})) → checked (is_some o) Unbound why_token rest ≡ Ok tt → (o ≡ Some (entries_of o)) × (rest ≡ Ok tt)
some_of None token rest e = cc
some_of (Some env) token rest e = (refl, e)

-- each scope is what the structure at its token has
pub placed : (site by_now : Site) (own : Environment) (tokens : List ℕ) (scopes : List Scope) → by_now.texts ≡ site.texts → structures_found tokens site own ≡ Ok tt
    → map (λ (scope : Scope). scope.entries.now) scopes ≡ map (λ token. entries_of (along site.texts token own)) tokens → ArePlacedAt by_now own tokens scopes
placed site by_now own [] [] same found are = tt
placed site by_now own [] (scope ∷ scopes) same found are = cc
placed site by_now own (token ∷ tokens) [] same found are = cc
placed site by_now own (token ∷ tokens) (scope ∷ scopes) same found are =
    let here = some_of (along site.texts token own) token (structures_found tokens site own) found in
    let head : scope.entries.now ≡ entries_of (along site.texts token own) = cc in
    let rest : map (λ (scope : Scope). scope.entries.now) scopes ≡ map (λ token. entries_of (along site.texts token own)) tokens = cc in
    (ap (λ texts. along texts token own) same ∙ here.0 ∙ ap Some (sym head), placed site by_now own tokens scopes same here.1 rest)

-- ---- one structure with another one
pub two_shared : (i j : ℕ) (site : Site) (g : Ty → Ty) (whole first : Environment) (s : State) → along site.texts i whole ≡ Some first
    → structures_shared i j site (environment_with g whole) s ≡ paths_shared (parts (text_at site.texts i)) (parts (text_at site.texts j)) j (paths_from [] first) site (environment_with g whole) s
two_shared i j site g whole first s stands =
    ap (λ o. paths_shared (parts (text_at site.texts i)) (parts (text_at site.texts j)) j (type_paths (entries_of o)) site (environment_with g whole) s)
    (structure_along_with g (parts (text_at site.texts i)) whole ∙ ap (option_map (environment_with g)) stands)
    ∙ ap (λ paths. paths_shared (parts (text_at site.texts i)) (parts (text_at site.texts j)) j paths site (environment_with g whole) s) (type_paths_with g first)

-- the path itself
pub at_path : (ids : List (List ℕ)) (whole : Environment) (entries : Environment) → structure_along ids whole ≡ Some entries → structure_along (ids ++ []) whole ≡ Some entries
at_path ids whole entries stands = ap (λ path. structure_along path whole) (append-nil ids) ∙ stands

-- ---- the first with each of the others
module _ (i : ℕ) (tokens : List ℕ) (k j d : ℕ) (site : Site) (g : Ty → Ty) (whole first : Environment) (s : State) (all : Described)
    (within : k < length tokens) (is : j ≡ get_or tokens k d) (stands : along site.texts i whole ≡ Some first) (so_far : first_shared i (drop k tokens) site (environment_with g whole) s ≡ all) where
  abbrev pub two : Described
  two = paths_shared (parts (text_at site.texts i)) (parts (text_at site.texts j)) j (paths_from [] first) site (environment_with g whole) s

  pub first_turn : and_then two (λ r. first_shared i (drop (k + 1) tokens) site r.0 r.1) ≡ all
  first_turn =
      ap (λ o. and_then o (λ r. first_shared i (drop (k + 1) tokens) site r.0 r.1)) (sym (two_shared i j site g whole first s stands))
      ∙ sym (ap (λ js. first_shared i js site (environment_with g whole) s) (dropped tokens k j d within is))
      ∙ so_far

  pub first_moves_on : (more : Environment) (t : State) → two ≡ Ok (more, t) → first_shared i (drop (k + 1) tokens) site more t ≡ all
  first_moves_on more t ok = sym (ap (λ o. and_then o (λ r. first_shared i (drop (k + 1) tokens) site r.0 r.1)) ok) ∙ first_turn

-- ---- each pair
module _ (tokens : List ℕ) (k i d : ℕ) (site : Site) (own : Environment) (s : State) (all : Described) (within : k < length tokens) (is : i ≡ get_or tokens k d) (so_far : pairs_shared (drop k tokens) site own s ≡ all) where
  pub pair_turn : and_then (first_shared i (drop (k + 1) tokens) site own s) (λ r. pairs_shared (drop (k + 1) tokens) site r.0 r.1) ≡ all
  pair_turn = sym (ap (λ js. pairs_shared js site own s) (dropped tokens k i d within is)) ∙ so_far

  pub pair_moves_on : (more : Environment) (t : State) → first_shared i (drop (k + 1) tokens) site own s ≡ Ok (more, t) → pairs_shared (drop (k + 1) tokens) site more t ≡ all
  pair_moves_on more t ok = sym (ap (λ o. and_then o (λ r. pairs_shared (drop (k + 1) tokens) site r.0 r.1)) ok) ∙ pair_turn

-- ---- scopes so far
pub scopes_more : (f : ℕ → Environment) (tokens : List ℕ) (i token d : ℕ) (scopes more : List Scope) (scope : Scope) → i < length tokens → token ≡ get_or tokens i d → scope.entries.now ≡ f token
    → map (λ (s : Scope). s.entries.now) scopes ≡ map f (take i tokens) → more ≡ scopes ++ scope ∷ [] → map (λ (s : Scope). s.entries.now) more ≡ map f (take (i + 1) tokens)
scopes_more f tokens i token d scopes more scope within is here so_far pushed =
    ap (map (λ (s : Scope). s.entries.now)) pushed
    ∙ map-append (λ (s : Scope). s.entries.now) scopes (scope ∷ [])
    ∙ ap₂ (λ xs y. xs ++ y ∷ []) so_far (here ∙ ap f is)
    ∙ sym (ap (map f) (take_more tokens i d within) ∙ map-append f (take i tokens) (get_or tokens i d ∷ []))

-- ---- the scope at a place
zip_at : {A B : Type 0} (R : A → B → Type 0) (xs : List A) (ys : List B) (k : ℕ) (x : A) (y : B) → AllZip R xs ys → slice_get xs k ≡ Some x → slice_get ys k ≡ Some y → R x y
zip_at R [] [] k x y zip at there = cc
zip_at R [] (z ∷ ys) k x y zip at there = absurd zip
zip_at R (z ∷ xs) [] k x y zip at there = absurd zip
zip_at R (w ∷ xs) (z ∷ ys) zero x y zip at there = subst (λ v. R v y) (let e : w ≡ x = cc in e) (subst (R w) (let e : z ≡ y = cc in e) zip.0)
zip_at R (w ∷ xs) (z ∷ ys) (suc k) x y zip at there = zip_at R xs ys k x y zip.1 at there

pub placed_there : (site : Site) (own : Environment) (tokens : List ℕ) (scopes : List Scope) (k token : ℕ) (scope : Scope) → ArePlacedAt site own tokens scopes → slice_get tokens k ≡ Some token → k < length scopes → scope ≡ get_or scopes k scope
    → along site.texts token own ≡ Some scope.entries.now
placed_there site own tokens scopes k token scope placed at within is =
    zip_at (λ t (s : Scope). along site.texts t own ≡ Some s.entries.now) tokens scopes k token scope placed at (slice_get_read scopes (length scopes) k scope refl within is)

-- ---- the scopes from a place on
zip_drop : {A B : Type 0} (R : A → B → Type 0) (xs : List A) (ys : List B) (k : ℕ) → AllZip R xs ys → AllZip R (drop k xs) (drop k ys)
zip_drop R xs ys zero zip = zip
zip_drop R [] [] (suc k) zip = zip
zip_drop R [] (y ∷ ys) (suc k) zip = absurd zip
zip_drop R (x ∷ xs) [] (suc k) zip = absurd zip
zip_drop R (x ∷ xs) (y ∷ ys) (suc k) zip = zip_drop R xs ys k zip.1

pub placed_from : (site : Site) (own : Environment) (tokens rest : List ℕ) (scopes others : List Scope) (k token : ℕ) (scope : Scope) → ArePlacedAt site own tokens scopes → k < length tokens → k < length scopes
    → token ≡ get_or tokens k 0 → scope ≡ get_or scopes k scope → rest ≡ drop (k + 1) tokens → others ≡ drop (k + 1) scopes → ArePlacedAt site own (token ∷ rest) (scope ∷ others)
placed_from site own tokens rest scopes others k token scope placed within below here there rest_is others_is =
    subst (λ ts. ArePlacedAt site own ts (scope ∷ others)) (dropped tokens k token 0 within here ∙ ap (λ ts. token ∷ ts) (sym rest_is))
    (subst (ArePlacedAt site own (drop k tokens)) (dropped scopes k scope scope below there ∙ ap (λ ss. scope ∷ ss) (sym others_is))
    (zip_drop (λ t (s : Scope). along site.texts t own ≡ Some s.entries.now) tokens scopes k placed))

-- ---- what the scopes are over, and how many there are
pub scopes_over : (names : List TypeName) (site : Site) (own : Environment) (tokens : List ℕ) (scopes : List Scope) → AreOver names own → ArePlacedAt site own tokens scopes → All (λ (scope : Scope). AreOver names scope.entries.now) scopes
scopes_over names site own tokens [] over placed = All-nil (λ (scope : Scope). AreOver names scope.entries.now)
scopes_over names site own [] (scope ∷ scopes) over placed = absurd placed
scopes_over names site own (token ∷ tokens) (scope ∷ scopes) over placed =
    All-cons (λ (s : Scope). AreOver names s.entries.now) scope scopes
    (structure_along_over (IsOver names) (parts (text_at site.texts token)) scope.entries.now own over placed.0) (scopes_over names site own tokens scopes over placed.1)

pub scopes_long : (f : ℕ → Environment) (tokens : List ℕ) (scopes seen : List Scope) → seen ≡ scopes → map (λ (scope : Scope). scope.entries.now) scopes ≡ map f tokens → length seen ≡ length tokens
scopes_long f tokens scopes seen same are =
    ap length same ∙ sym (length-map scopes (λ (scope : Scope). scope.entries.now)) ∙ ap length are ∙ length-map tokens f

-- as many are left of both
pub rest_long : {A B : Type 0} (xs : List A) (ys : List B) (k : ℕ) → length xs ≡ length ys → length (take (length xs - k) (drop k xs)) ≡ length (take (length ys - k) (drop k ys))
rest_long xs ys k long =
    ap length (take_rest xs k) ∙ length-drop k xs ∙ ap (λ n. n - k) long ∙ sym (ap length (take_rest ys k) ∙ length-drop k ys)
