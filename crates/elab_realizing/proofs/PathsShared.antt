-- Sharing along paths, one after the other, and what a path finds.
use Rattle.std.proofs.Common.{◌≡◌, ℕ, Bool, true, false, bytes_eq, if◌then◌else◌, List, [], ◌∷◌, ◌++◌, slice_get, Option, Some, None, Ok, Err, refl, ap, ◌∙◌, subst}
use Rattle.std.specs.Option.{option_and_then}
use Rattle.elab_rules.specs.declared.entry.Entry.{Entry, out-Entry}
use Rattle.elab_rules.specs.declared.entry.Entry.TheOpen.{Entry-F, Tycon, Value, Structure}
use Rattle.elab_rules.specs.declared.entry.TypeEntry.{TypeEntry}
use Rattle.elab_rules.specs.Bodies.{Described, Site}
use Rattle.elab_rules.specs.Distinct.{AreDistinct, IsFirst}
use Rattle.elab_rules.specs.Environments.{Environment, structure_at, structure_in, structure_of, the_structure, the_type, type_in, type_step}
use Rattle.elab_rules.specs.LongIdentifiers.{Found, found_in, structure_along, type_along}
use Rattle.elab_types.specs.Outcome.{and_then}
use Rattle.elab_rules.specs.Sharing.{if_both, paths_shared}
use Rattle.elab_rules.specs.States.{State}
use Rattle.elab_rules.proofs.Bodies.{type_by_place}
use Rattle.elab_rules.proofs.Entries.{out_structure, out_type}
use Rattle.elab_types.proofs.FirstPlaces.{given_at, given_by_place}

-- ---- sharing along paths
pub shared_appended : (a b : List (List ℕ)) (token : ℕ) (xs ys : List (List (List ℕ))) (site : Site) (own : Environment) (s : State)
    → paths_shared a b token (xs ++ ys) site own s ≡ and_then (paths_shared a b token xs site own s) (λ r. paths_shared a b token ys site r.0 r.1)
shared_appended a b token [] ys site own s = refl
shared_appended a b token (x ∷ xs) ys site own s =
    by_case (λ env t. shared_appended a b token xs ys site env t) (if_both (type_along (a ++ x) own) (type_along (b ++ x) own) token site own s)
  where
    by_case : ((env : Environment) (t : State) → paths_shared a b token (xs ++ ys) site env t ≡ and_then (paths_shared a b token xs site env t) (λ r. paths_shared a b token ys site r.0 r.1))
        → (o : Described) → and_then o (λ r. paths_shared a b token (xs ++ ys) site r.0 r.1) ≡ and_then (and_then o (λ r. paths_shared a b token xs site r.0 r.1)) (λ r. paths_shared a b token ys site r.0 r.1)
    by_case rest (Ok r) = rest r.0 r.1
    by_case rest (Err failure) = refl

-- ---- at the end of a path
abbrev type_within : List ℕ → Environment → Option Found
type_within id env = found_in env (type_in id env)

pub type_at_end : (ids : List (List ℕ)) (id : List ℕ) (env : Environment) → type_along (ids ++ id ∷ []) env ≡ option_and_then (type_within id) (structure_along ids env)
type_at_end [] id env = refl
type_at_end (x ∷ []) id env = by_case (structure_in x env)
  where
    by_case : (o : Option Environment) → option_and_then (type_along (id ∷ [])) o ≡ option_and_then (type_within id) (option_and_then (structure_along []) o)
    by_case None = refl
    by_case (Some es) = refl
type_at_end (x ∷ y ∷ ids) id env = by_case (λ es. type_at_end (y ∷ ids) id es) (structure_in x env)
  where
    by_case : ((es : Environment) → type_along (y ∷ (ids ++ id ∷ [])) es ≡ option_and_then (type_within id) (structure_along (y ∷ ids) es))
        → (o : Option Environment) → option_and_then (type_along (y ∷ (ids ++ id ∷ []))) o ≡ option_and_then (type_within id) (option_and_then (structure_along (y ∷ ids)) o)
    by_case rest None = refl
    by_case rest (Some es) = rest es

pub structure_at_end : (ids : List (List ℕ)) (id : List ℕ) (env : Environment) → structure_along (ids ++ id ∷ []) env ≡ option_and_then (structure_in id) (structure_along ids env)
structure_at_end [] id env = by_case (structure_in id env)
  where
    by_case : (o : Option Environment) → option_and_then (structure_along []) o ≡ o
    by_case None = refl
    by_case (Some es) = refl
structure_at_end (x ∷ ids) id env = by_case (λ es. structure_at_end ids id es) (structure_in x env)
  where
    by_case : ((es : Environment) → structure_along (ids ++ id ∷ []) es ≡ option_and_then (structure_in id) (structure_along ids es))
        → (o : Option Environment) → option_and_then (structure_along (ids ++ id ∷ [])) o ≡ option_and_then (structure_in id) (option_and_then (structure_along ids) o)
    by_case rest None = refl
    by_case rest (Some es) = rest es

-- ---- where no identifier stands twice, a path finds the entry itself
pub type_is_found : (whole es : Environment) (ids : List (List ℕ)) (k : ℕ) (type : TypeEntry) → AreDistinct whole → structure_along ids whole ≡ Some es → slice_get es k ≡ Some (the_type type)
    → type_along (ids ++ type.id ∷ []) whole ≡ found_in es (Some type)
type_is_found whole es ids k type distinct along at =
    let first : IsFirst k es (Tycon type) = subst (IsFirst k es) (out_type type) (distinct ids es k (the_type type) along at) in
    let found : type_in type.id es ≡ Some type =
    type_by_place type.id es ∙ ap (given_at (λ e. type_step (out-Entry e)) es) first ∙ ap (option_and_then (λ e. type_step (out-Entry e))) at ∙ ap type_step (out_type type) in
    type_at_end ids type.id whole ∙ ap (option_and_then (type_within type.id)) along ∙ ap (found_in es) found

abbrev structure_step : Entry-F Entry → Option Environment
structure_step (Structure id entries) = Some entries
structure_step _ = None

some_if : {A : Type 0} (b : Bool) (x y : A) → (if b then Some x else None) ≡ Some y → Some x ≡ Some y
some_if true x y e = e
some_if false x y e = cc

structure_plain : (id : List ℕ) (e : Entry-F Entry) (entries : Environment) → structure_at id e ≡ Some entries → structure_step e ≡ Some entries
structure_plain id (Tycon type) entries is = cc
structure_plain id (Value value) entries is = cc
structure_plain id (Structure name inner) entries is = some_if (bytes_eq id name) inner entries is

pub structure_is_found : (whole es inner : Environment) (ids : List (List ℕ)) (k : ℕ) (id : List ℕ) → AreDistinct whole → structure_along ids whole ≡ Some es → slice_get es k ≡ Some (the_structure id inner)
    → structure_along (ids ++ id ∷ []) whole ≡ Some inner
structure_is_found whole es inner ids k id distinct along at =
    let first : IsFirst k es (Structure id inner) = subst (IsFirst k es) (out_structure id inner) (distinct ids es k (the_structure id inner) along at) in
    structure_at_end ids id whole ∙ ap (option_and_then (structure_in id)) along
    ∙ given_by_place (structure_of id) (λ e. structure_step (out-Entry e)) (λ e. structure_plain id (out-Entry e)) es
    ∙ ap (given_at (λ e. structure_step (out-Entry e)) es) first
    ∙ ap (option_and_then (λ e. structure_step (out-Entry e))) at ∙ ap structure_step (out_structure id inner)
