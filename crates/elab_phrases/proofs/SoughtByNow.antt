-- What a look-up finds where types were changed is what it found, with its types changed.
use Rattle.std.proofs.Common.{◌≡◌, ℕ, Bool, true, false, if◌then◌else◌, bytes_eq, List, [], ◌∷◌, map, Option, Some, None, refl, sym, ap, ap₂, ◌∙◌}
use Rattle.std.specs.List.{All}
use Rattle.std.specs.Option.{option_and_then, option_map, option_or}
use Rattle.std.proofs.lemmas.List.Elements.{All-head, All-tail}
use Rattle.type_core.specs.declared.library.UnitKind.{UnitKind}
use Rattle.type_core.specs.declared.library.UnitKind.TheVariants.{Sig, Str}
use Rattle.type_core.specs.declared.ty.Ty.{Ty}
use Rattle.elab_rules.specs.declared.entry.UnitEntry.{UnitEntry}
use Rattle.elab_rules.specs.Bodies.{Site}
use Rattle.elab_rules.specs.Environments.{Environment, structure_in, type_in}
use Rattle.elab_types.specs.Finding.{first_given}
use Rattle.elab_rules.specs.InitialEnvironment.{initial_environment}
use Rattle.elab_rules.specs.LongIdentifiers.{Found, found_in, type_along}
use Rattle.elab_rules.specs.LookUps.{Sought, Known, Missing, Elsewhere, along_sought, datatype_sought, is_top, known, simple_sought, sought, structure_entries, structure_sought, top_structure, unit_in}
use Rattle.elab_rules.specs.Replacing.{environment_with}
use Rattle.elab_rules.proofs.LookedUp.{found_in_with, found_with, structure_in_with, type_along_with, type_in_with}

-- the first that is given, where each of the givers was changed
first_with : {A B : Type 0} (h : A → A) (f : B → B) (given : A → Option B) → ((x : A) → given (h x) ≡ option_map f (given x)) → (xs : List A) → first_given given (map h xs) ≡ option_map f (first_given given xs)
first_with h f given one [] = refl
first_with h f given one (x ∷ xs) = ap₂ option_or (one x) (first_with h f given one xs) ∙ or_with f (given x) (first_given given xs)
  where
    or_with : {B : Type 0} (f : B → B) (o p : Option B) → option_or (option_map f o) (option_map f p) ≡ option_map f (option_or o p)
    or_with f None p = refl
    or_with f (Some b) p = refl

either_with : {B : Type 0} (f : B → B) (o p : Option B) → option_or (option_map f o) (option_map f p) ≡ option_map f (option_or o p)
either_with f None p = refl
either_with f (Some b) p = refl

module _ (g : Ty → Ty) (initial_stays : environment_with g initial_environment ≡ initial_environment) where
  abbrev pub sought_with : Sought → Sought
  sought_with (Known found) = Known (found_with g found)
  sought_with Missing = Missing
  sought_with Elsewhere = Elsewhere

  known_with : (o : Option Found) → known (option_map (found_with g) o) ≡ sought_with (known o)
  known_with None = refl
  known_with (Some found) = refl

  -- what the initial types have is what it was
  initial_with : (id : List ℕ) → found_in initial_environment (type_in id initial_environment) ≡ option_map (found_with g) (found_in initial_environment (type_in id initial_environment))
  initial_with id =
      sym (ap (λ env. found_in env (type_in id env)) initial_stays)
      ∙ ap (found_in (environment_with g initial_environment)) (type_in_with g id initial_environment)
      ∙ found_in_with g initial_environment (type_in id initial_environment)

  body_with : (id : List ℕ) (env : Environment) → found_in (environment_with g env) (type_in id (environment_with g env)) ≡ option_map (found_with g) (found_in env (type_in id env))
  body_with id env = ap (found_in (environment_with g env)) (type_in_with g id env) ∙ found_in_with g env (type_in id env)

  pub simple_with : (id : List ℕ) (bodies : List Environment) → simple_sought id (map (environment_with g) bodies) ≡ sought_with (simple_sought id bodies)
  simple_with id bodies =
      ap known (ap₂ option_or (first_with (environment_with g) (found_with g) (λ env. found_in env (type_in id env)) (body_with id) bodies) (initial_with id)
      ∙ either_with (found_with g) (first_given (λ env. found_in env (type_in id env)) bodies) (found_in initial_environment (type_in id initial_environment)))
      ∙ known_with (option_or (first_given (λ env. found_in env (type_in id env)) bodies) (found_in initial_environment (type_in id initial_environment)))

  -- ---- top structures, whose types stay
  abbrev pub UnitStays : UnitEntry → Type 0
  UnitStays unit = environment_with g unit.entries ≡ unit.entries

  unit_with : (kind : UnitKind) (unit : UnitEntry) → UnitStays unit → structure_entries kind unit ≡ option_map (environment_with g) (structure_entries kind unit)
  unit_with Sig unit stays = refl
  unit_with Str unit stays = ap (λ env. Some env) (sym stays)

  top_with : (id : List ℕ) (units : List UnitEntry) → All UnitStays units → top_structure id units ≡ option_map (environment_with g) (top_structure id units)
  top_with id [] stay = refl
  top_with id (unit ∷ units) stay = by_case (bytes_eq id unit.id) (top_with id units (All-tail UnitStays unit units stay))
    where
      by_case : (b : Bool) → top_structure id units ≡ option_map (environment_with g) (top_structure id units)
          → option_and_then (λ (u : UnitEntry). structure_entries u.kind u) (option_or (if b then Some unit else None) (unit_in id units))
          ≡ option_map (environment_with g) (option_and_then (λ (u : UnitEntry). structure_entries u.kind u) (option_or (if b then Some unit else None) (unit_in id units)))
      by_case true rest = unit_with unit.kind unit (All-head UnitStays unit units stay)
      by_case false rest = rest

  structure_with : (id : List ℕ) (site : Site) (bodies : List Environment) → All UnitStays site.units
      → structure_sought id site (map (environment_with g) bodies) ≡ option_map (environment_with g) (structure_sought id site bodies)
  structure_with id site bodies stay =
      ap₂ option_or (first_with (environment_with g) (environment_with g) (structure_in id) (structure_in_with g id) bodies) (top_with id site.units stay)
      ∙ either_with (environment_with g) (first_given (structure_in id) bodies) (top_structure id site.units)

  along_with : (rest : List (List ℕ)) (o : Option Environment) (b : Bool) → along_sought rest (option_map (environment_with g) o) b ≡ sought_with (along_sought rest o b)
  along_with rest (Some env) b = ap known (type_along_with g rest env) ∙ known_with (type_along rest env)
  along_with rest None true = refl
  along_with rest None false = refl

  -- ---- a long identifier, by its parts
  pub sought_by_now : (ids : List (List ℕ)) (site : Site) (bodies : List Environment) → All UnitStays site.units → sought ids site (map (environment_with g) bodies) ≡ sought_with (sought ids site bodies)
  sought_by_now [] site bodies stay = refl
  sought_by_now (id ∷ []) site bodies stay = simple_with id bodies
  sought_by_now (id ∷ next ∷ rest) site bodies stay =
      ap (λ o. along_sought (next ∷ rest) o (is_top id site)) (structure_with id site bodies stay)
      ∙ along_with (next ∷ rest) (structure_sought id site bodies) (is_top id site)

  pub datatype_with : (s : Sought) → datatype_sought (sought_with s) ≡ option_map (found_with g) (datatype_sought s)
  datatype_with (Known found) = refl
  datatype_with Missing = refl
  datatype_with Elsewhere = refl
