-- Looking through bodies from within outwards, and then further.
use Rattle.std.proofs.Common.{◌≡◌, ℕ, zero, suc, ◌+◌, ◌<◌, ◌≤◌, ◌==◌, ◌&&◌, ◌||◌, Bool, true, false, not, if◌then◌else◌, bytes_eq, List, [], ◌∷◌, ◌++◌, map, length, take, get_or, Option, Some, None, refl, sym, ap, ap₂, ◌∙◌, subst, arith}
use Rattle.std.specs.List.{All}
use Rattle.std.specs.Option.{option_and_then, option_or}
use Rattle.std.proofs.lemmas.List.{take_more}
use Rattle.std.proofs.lemmas.List.Elements.{All-head, All-tail}
use Rattle.type_core.specs.declared.library.UnitKind.{UnitKind}
use Rattle.type_core.specs.declared.library.UnitKind.TheVariants.{Sig, Str}
use Rattle.type_core.specs.declared.ty.Ty.{Ty}
use Rattle.elab_rules.specs.declared.entry.TypeEntry.{TypeEntry}
use Rattle.elab_rules.specs.declared.entry.UnitEntry.{UnitEntry}
use Rattle.elab_rules.specs.declared.scope.Scope.{Scope}
use Rattle.elab_rules.specs.Bodies.{Site}
use Rattle.elab_rules.specs.Environments.{Environment, structure_in, type_in}
use Rattle.elab_types.specs.Finding.{first_given, none_of}
use Rattle.sig_base.specs.LongIdentifiers.{parts, with_first}
use Rattle.elab_rules.specs.LongIdentifiers.{found_in, type_along}
use Rattle.elab_rules.specs.LookUps.{Elsewhere, Missing, along_sought, known, is_top, sought, structure_entries, structure_sought, top_structure, unit_in}
use Rattle.elab_rules.specs.Views.{around_of}
use Rattle.elab_rules.specs.Wheres.{types_of}
use Rattle.elab_rules.proofs.Entries.{all_appended}
use Rattle.elab_rules.proofs.FoundOver.{structure_in_over}

-- ---- bodies around, the innermost of which is the last
around_last : (scopes : List Scope) (scope : Scope) → around_of (scopes ++ scope ∷ []) ≡ scope.entries.now ∷ around_of scopes
around_last [] scope = refl
around_last (first ∷ scopes) scope = ap (λ envs. envs ++ first.entries.now ∷ []) (around_last scopes scope)

-- the bodies around, down to a level
around_level : (scopes : List Scope) (level n : ℕ) (scope : Scope) → level ≤ length scopes → level ≡ n + 1 → scope ≡ get_or scopes n scope → around_of (take level scopes) ≡ scope.entries.now ∷ around_of (take n scopes)
around_level scopes level n scope within next is =
    ap (λ k. around_of (take k scopes)) next
    ∙ ap around_of (take_more scopes n scope (omega (arith, within, next)))
    ∙ ap (λ s. around_of (take n scopes ++ s ∷ [])) (sym is)
    ∙ around_last (take n scopes) scope

module _ {A : Type 0} (given : Environment → Option A) (own : Environment) (scopes : List Scope) (last : Option A) where
  -- what is sought isn't in the body itself, nor in the bodies from a level on
  given_later : (level : ℕ) → given own ≡ None → first_given given (around_of scopes) ≡ first_given given (around_of (take level scopes))
      → option_or (first_given given (own ∷ around_of scopes)) last ≡ option_or (first_given given (around_of (take level scopes))) last
  given_later level none so_far = ap₂ (λ o p. option_or (option_or o p) last) none so_far

  given_next : (level n : ℕ) (scope : Scope) → level ≤ length scopes → level ≡ n + 1 → scope ≡ get_or scopes n scope
      → first_given given (around_of (take level scopes)) ≡ option_or (given scope.entries.now) (first_given given (around_of (take n scopes)))
  given_next level n scope within next is = ap (first_given given) (around_level scopes level n scope within next is)

  pub given_at_level : (level n : ℕ) (scope : Scope) (a : A) → given own ≡ None → first_given given (around_of scopes) ≡ first_given given (around_of (take level scopes)) → level ≤ length scopes → level ≡ n + 1
      → scope ≡ get_or scopes n scope → given scope.entries.now ≡ Some a → option_or (first_given given (own ∷ around_of scopes)) last ≡ Some a
  given_at_level level n scope a none so_far within next is found =
      given_later level none so_far
      ∙ ap (λ o. option_or o last) (given_next level n scope within next is)
      ∙ ap (λ o. option_or (option_or o (first_given given (around_of (take n scopes)))) last) found

  pub given_below : (level n : ℕ) (scope : Scope) → first_given given (around_of scopes) ≡ first_given given (around_of (take level scopes)) → level ≤ length scopes → level ≡ n + 1
      → scope ≡ get_or scopes n scope → given scope.entries.now ≡ None → first_given given (around_of scopes) ≡ first_given given (around_of (take n scopes))
  given_below level n scope so_far within next is none =
      so_far ∙ given_next level n scope within next is ∙ ap (λ o. option_or o (first_given given (around_of (take n scopes)))) none

-- ---- what holds of the bodies around holds of each
pub around_each : (P : Environment → Type 0) (scopes : List Scope) (n : ℕ) (scope : Scope) → n < length scopes → scope ≡ get_or scopes n scope → All P (around_of scopes) → P scope.entries.now
around_each P [] n scope within is all = absurd (omega (arith, within))
around_each P (first ∷ scopes) zero scope within is all =
    subst (λ (s : Scope). P s.entries.now) (sym is) (All-head P first.entries.now [] (all_appended P (around_of scopes) (first.entries.now ∷ []) all).1)
around_each P (first ∷ scopes) (suc n) scope within is all =
    around_each P scopes n scope (omega (arith, within)) is (all_appended P (around_of scopes) (first.entries.now ∷ []) all).0

-- ---- what was found in an environment
pub found_there : (id : List ℕ) (env : Environment) (o : Option TypeEntry) → o ≡ type_in id env → found_in env (type_in id env) ≡ found_in env o
found_there id env o is = ap (found_in env) (sym is)

-- ---- long identifiers
-- a text has a first part
with_first_has : (b : ℕ) (ids : List (List ℕ)) → (first : List ℕ) × ((rest : List (List ℕ)) × (with_first b ids ≡ first ∷ rest))
with_first_has b [] = (b ∷ [], ([], refl))
with_first_has b (part ∷ ids) = (b ∷ part, (ids, refl))

parts_have : (text : List ℕ) → (first : List ℕ) × ((rest : List (List ℕ)) × (parts text ≡ first ∷ rest))
parts_have [] = ([], ([], refl))
parts_have (b ∷ text) = by_case (b == 46)
  where
    by_case : (dot : Bool) → (first : List ℕ) × ((rest : List (List ℕ)) × ((if dot then [] ∷ parts text else with_first b (parts text)) ≡ first ∷ rest))
    by_case true = ([], (parts text, refl))
    by_case false = with_first_has b (parts text)

-- a long identifier of two parts and more
pub sought_along : (path id rest : List ℕ) (site : Site) (bodies : List Environment) → parts path ≡ id ∷ parts rest
    → sought (parts path) site bodies ≡ along_sought (parts rest) (structure_sought id site bodies) (is_top id site)
sought_along path id rest site bodies is =
    let p = parts_have rest in
    ap (λ ids. sought ids site bodies) (is ∙ ap (λ ids. id ∷ ids) p.1.1)
    ∙ ap (λ ids. along_sought ids (structure_sought id site bodies) (is_top id site)) (sym p.1.1)

module _ (path id text rest tail : List ℕ) (site : Site) (bodies : List Environment) (is : parts path ≡ id ∷ parts rest) (first : text ≡ id) (behind : tail ≡ rest) where
  along : sought (parts path) site bodies ≡ along_sought (parts tail) (structure_sought text site bodies) (is_top text site)
  along = sought_along path id rest site bodies is ∙ ap₂ (λ r i. along_sought (parts r) (structure_sought i site bodies) (is_top i site)) (sym behind) (sym first)

  -- in a structure that is found there is no such type constructor
  pub sought_nothing : (entries : Environment) → Some entries ≡ structure_sought text site bodies → None ≡ type_along (parts tail) entries → Missing ≡ sought (parts path) site bodies
  sought_nothing entries found none =
      sym (along ∙ ap (λ o. along_sought (parts tail) o (is_top text site)) (sym found) ∙ ap known (sym none))

  -- no structure is found, and the first part is declared, or it isn't
  pub sought_declared : (top : Bool) → None ≡ structure_sought text site bodies → top ≡ is_top text site → top ≡ true → Missing ≡ sought (parts path) site bodies
  sought_declared top none is_it declared = sym (along ∙ ap₂ (λ o b. along_sought (parts tail) o b) (sym none) (sym is_it ∙ declared))

  pub sought_elsewhere : (top : Bool) → None ≡ structure_sought text site bodies → top ≡ is_top text site → top ≡ false → Elsewhere ≡ sought (parts path) site bodies
  sought_elsewhere top none is_it undeclared = sym (along ∙ ap₂ (λ o b. along_sought (parts tail) o b) (sym none) (sym is_it ∙ undeclared))

-- ---- identifiers that are declared
pub none_mapped : {A B : Type 0} (test : B → Bool) (f : A → B) (xs : List A) → none_of test (map f xs) ≡ none_of (λ x. test (f x)) xs
none_mapped test f [] = refl
none_mapped test f (x ∷ xs) = ap (λ b. not (test (f x)) && b) (none_mapped test f xs)

pub being_declared : {A : Type 0} (id : List ℕ) (f : A → List ℕ) (xs : List A) (units : List UnitEntry) (has here there : Bool) → has ≡ not (none_of (λ (unit : UnitEntry). bytes_eq id unit.id) units) → has ≡ false → here ≡ there
    → there ≡ not (none_of (λ x. bytes_eq id (f x)) xs) → here ≡ (not (none_of (λ (unit : UnitEntry). bytes_eq id unit.id) units) || not (none_of (bytes_eq id) (map f xs)))
being_declared id f xs units has here there is absent by declared =
    by ∙ declared ∙ ap not (sym (none_mapped (bytes_eq id) f xs)) ∙ ap (λ b. b || not (none_of (bytes_eq id) (map f xs))) (sym absent ∙ is)

-- sites of the same units, where the same is declared, are alike to a look-up
pub sought_at : (ids : List (List ℕ)) (a b : Site) (bodies : List Environment) → a.units ≡ b.units → a.declaring ≡ b.declaring → sought ids a bodies ≡ sought ids b bodies
sought_at [] a b bodies units declaring = refl
sought_at (id ∷ []) a b bodies units declaring = refl
sought_at (id ∷ next ∷ rest) a b bodies units declaring =
    ap₂ (λ us ds. along_sought (next ∷ rest) (option_or (first_given (structure_in id) bodies) (top_structure id us)) (not (none_of (λ (unit : UnitEntry). bytes_eq id unit.id) us) || not (none_of (bytes_eq id) ds))) units declaring

-- ---- what holds of all types holds of those of a structure that is found
module _ (P : Ty → Type 0) where
  bodies_over : (id : List ℕ) (entries : Environment) (bodies : List Environment) → All (λ env. All P (types_of env)) bodies → first_given (structure_in id) bodies ≡ Some entries → All P (types_of entries)
  bodies_over id entries [] all is = cc
  bodies_over id entries (env ∷ bodies) all is = by_case (λ e. bodies_over id entries bodies (All-tail (λ es. All P (types_of es)) env bodies all) e) (structure_in id env) refl is
    where
      by_case : (first_given (structure_in id) bodies ≡ Some entries → All P (types_of entries)) → (o : Option Environment) → structure_in id env ≡ o → option_or o (first_given (structure_in id) bodies) ≡ Some entries → All P (types_of entries)
      by_case later (Some es) at e = structure_in_over P id entries env (All-head (λ xs. All P (types_of xs)) env bodies all) (at ∙ e)
      by_case later None at e = later e

  unit_over : (entries : Environment) (kind : UnitKind) (unit : UnitEntry) → All P (types_of unit.entries) → structure_entries kind unit ≡ Some entries → All P (types_of entries)
  unit_over entries Sig unit all is = cc
  unit_over entries Str unit all is = subst (λ xs. All P (types_of xs)) (let same : unit.entries ≡ entries = cc in same) all

  units_over : (id : List ℕ) (entries : Environment) (units : List UnitEntry) → All (λ (unit : UnitEntry). All P (types_of unit.entries)) units → top_structure id units ≡ Some entries → All P (types_of entries)
  units_over id entries [] all is = cc
  units_over id entries (unit ∷ units) all is = by_case (λ e. units_over id entries units (All-tail (λ (u : UnitEntry). All P (types_of u.entries)) unit units all) e) (bytes_eq id unit.id) is
    where
      by_case : (top_structure id units ≡ Some entries → All P (types_of entries)) → (b : Bool) → option_and_then (λ (u : UnitEntry). structure_entries u.kind u) (option_or (if b then Some unit else None) (unit_in id units)) ≡ Some entries
          → All P (types_of entries)
      by_case later true e = unit_over entries unit.kind unit (All-head (λ (u : UnitEntry). All P (types_of u.entries)) unit units all) e
      by_case later false e = later e

  pub structure_sought_over : (id : List ℕ) (entries : Environment) (site : Site) (bodies : List Environment) → All (λ env. All P (types_of env)) bodies → All (λ (unit : UnitEntry). All P (types_of unit.entries)) site.units
      → structure_sought id site bodies ≡ Some entries → All P (types_of entries)
  structure_sought_over id entries site bodies all units is = by_case (first_given (structure_in id) bodies) refl is
    where
      by_case : (o : Option Environment) → first_given (structure_in id) bodies ≡ o → option_or o (top_structure id site.units) ≡ Some entries → All P (types_of entries)
      by_case (Some es) at e = bodies_over id entries bodies all (at ∙ e)
      by_case None at e = units_over id entries site.units units e
