-- What is sound where some names may stand is sound where more may.
use Rattle.std.proofs.Common.{◌≡◌, ℕ, true, List}
use Rattle.type_core.specs.declared.ty.Scheme.{Scheme}
use Rattle.type_core.specs.declared.ty.Ty.{Ty}
use Rattle.type_core.specs.declared.type_fn.TypeFn.{TypeFn}
use Rattle.elab_rules.specs.declared.entry.TypeEntry.{TypeEntry}
use Rattle.elab_rules.specs.declared.entry.ValueEntry.{ValueEntry}
use Rattle.elab_rules.specs.Environments.{Environment}
use Rattle.elab_soundness.specs.Soundness.{AreAll, IsSoundEnvironment, IsSoundFunction, IsSoundScheme, IsSoundTycon, IsSoundType, IsSoundValue, IsUnitId, Known}
use Rattle.elab_soundness.proofs.valid.Everywhere.{all_weaker}
use Rattle.elab_soundness.proofs.valid.KnownNames.{names_weaker}

-- an environment whose type constructors and values can be used; nothing is said of identifiers
abbrev pub HasFunction : Known → TypeEntry → Type 0
HasFunction known type = IsSoundFunction known type.fun

abbrev pub IsAnything : List ℕ → Type 0
IsAnything id = Unit {0}

abbrev pub AreUsable : Known → Environment → Type 0
AreUsable known env = AreAll (HasFunction known) (IsSoundValue known) IsAnything env

-- an environment whose entries are sound
abbrev pub AreSound : Known → Environment → Type 0
AreSound known env = AreAll (IsSoundTycon known) (IsSoundValue known) IsUnitId env

module _ (known after : Known) (more : (n count : ℕ) → known n count ≡ true → after n count ≡ true) where
  pub type_still : (t : Ty) → IsSoundType known t → IsSoundType after t
  type_still t h = record { is_type = h.is_type; names = names_weaker known after more t h.names; labels = h.labels }

  pub function_still : (f : TypeFn) → IsSoundFunction known f → IsSoundFunction after f
  function_still f h = record { formed = record { arity = (h.formed).arity; function = (h.formed).function; body = type_still f.body (h.formed).body }; limits = h.limits }

  scheme_still : (s : Scheme) → IsSoundScheme known s → IsSoundScheme after s
  scheme_still s h = record { formed = record { scheme = (h.formed).scheme; body = type_still s.body (h.formed).body }; limits = h.limits; normal = h.normal }

  tycon_still : (type : TypeEntry) → IsSoundTycon known type → IsSoundTycon after type
  tycon_still type h = record { id = h.id; fun = function_still type.fun h.fun }

  pub value_still : (value : ValueEntry) → IsSoundValue known value → IsSoundValue after value
  value_still value h = record { id = h.id; scheme = scheme_still value.scheme h.scheme }

  pub entries_still : (env : Environment) → AreSound known env → AreSound after env
  entries_still = all_weaker (IsSoundTycon known) (IsSoundTycon after) (IsSoundValue known) (IsSoundValue after) IsUnitId IsUnitId tycon_still value_still (λ id h. h)

  pub usable_still : (env : Environment) → AreUsable known env → AreUsable after env
  usable_still = all_weaker (HasFunction known) (HasFunction after) (IsSoundValue known) (IsSoundValue after) IsAnything IsAnything (λ type. function_still type.fun) value_still (λ id h. h)

  pub environment_still : (env : Environment) → IsSoundEnvironment known env → IsSoundEnvironment after env
  environment_still env h = record { entries = entries_still env h.entries; distinct = h.distinct }

  -- what is sound where some names may stand can be used where more may
  pub sound_usable : (env : Environment) → AreSound known env → AreUsable after env
  sound_usable = all_weaker (IsSoundTycon known) (HasFunction after) (IsSoundValue known) (IsSoundValue after) IsUnitId IsAnything (λ type h. function_still type.fun h.fun) value_still (λ id h. tt)
