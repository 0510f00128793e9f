-- What is sound stays so where its names are numbered anew.
use Rattle.std.proofs.Common.{◌≡◌, ℕ, ◌≤◌, Bool, true, false, refl, sym, ◌∙◌, subst}
use Rattle.std.specs.List.{All}
use Rattle.type_core.specs.declared.ty.Ty.{Ty}
use Rattle.type_core.specs.declared.ty.VarId.{VarId}
use Rattle.type_core.specs.Substitution.{allows, each_field_step, each_step, each_variable}
use Rattle.type_core.specs.Types.{is_type, type_field_step, type_step}
use Rattle.type_core.specs.ValidLibrary.{IsLabel, IsWithinLimits}
use Rattle.elab_rules.specs.declared.entry.TypeEntry.{TypeEntry}
use Rattle.elab_rules.specs.declared.entry.ValueEntry.{ValueEntry}
use Rattle.elab_rules.specs.Copies.{with_numbers}
use Rattle.elab_rules.specs.Environments.{Environment}
use Rattle.elab_rules.specs.Replacing.{environment_with, type_with, value_with}
use Rattle.elab_soundness.specs.Soundness.{IsSoundEnvironment, IsSoundTycon, IsSoundType, IsSoundValue, IsUnitId, Known}
use Rattle.elab_rules.proofs.IndexWith.{distinct_with}
use Rattle.elab_rules.proofs.Renumbered.{folded_numbered, height_numbered, labels_numbered, normal_size_numbered, size_numbered}
use Rattle.elab_soundness.proofs.valid.Everywhere.{all_with}
use Rattle.elab_soundness.proofs.valid.KnownNames.{names_numbered}
use Rattle.elab_soundness.proofs.valid.Renamed.{closed_sound}

module _ (f : ℕ → ℕ) where
  type_numbered : (t : Ty) → is_type (with_numbers f t) ≡ is_type t
  unfolding is_type
  type_numbered = folded_numbered type_step type_field_step f (λ name xs. refl)

  variables_numbered : (is : VarId → Bool) (t : Ty) → each_variable is (with_numbers f t) ≡ each_variable is t
  variables_numbered is = folded_numbered (each_step is) each_field_step f (λ name xs. refl)

  limits_numbered : (t : Ty) → IsWithinLimits t → IsWithinLimits (with_numbers f t)
  limits_numbered t h = record { nodes = subst (λ n. n ≤ 2000) (sym (size_numbered f t)) h.nodes; height = subst (λ n. n ≤ 200) (sym (height_numbered f t)) h.height }

module _ (known after : Known) (f : ℕ → ℕ) (more : (n count : ℕ) → known n count ≡ true → after (f n) count ≡ true) where
  pub sound_numbered : (t : Ty) → IsSoundType known t → IsSoundType after (with_numbers f t)
  sound_numbered t h = record {
    is_type = type_numbered f t ∙ h.is_type;
    names = names_numbered known after f more t h.names;
    labels = subst (All IsLabel) (sym (labels_numbered f t)) h.labels;
  }

  tycon_numbered : (type : TypeEntry) → IsSoundTycon known type → IsSoundTycon after (type_with (with_numbers f) type)
  tycon_numbered type h =
      let fun = h.fun in
      let formed = fun.formed in
      record {
        id = h.id;
        fun = record {
          formed = record { arity = formed.arity; function = variables_numbered f (allows type.fun.arity false) type.fun.body ∙ formed.function; body = sound_numbered type.fun.body formed.body };
          limits = limits_numbered f type.fun.body fun.limits;
        };
      }

  value_numbered : (value : ValueEntry) → IsSoundValue known value → IsSoundValue after (value_with (with_numbers f) value)
  value_numbered value h =
      let scheme = h.scheme in
      let body = value.scheme.body in
      record {
        id = h.id;
        scheme = closed_sound after (with_numbers f body) (sound_numbered body (scheme.formed).body) (limits_numbered f body scheme.limits) (subst (λ n. n ≤ 8000) (sym (normal_size_numbered f body)) scheme.normal);
      }

  pub environment_numbered : (env : Environment) → IsSoundEnvironment known env → IsSoundEnvironment after (environment_with (with_numbers f) env)
  environment_numbered env h = record {
    entries = all_with (IsSoundTycon known) (IsSoundTycon after) (IsSoundValue known) (IsSoundValue after) IsUnitId (with_numbers f) tycon_numbered value_numbered env h.entries;
    distinct = distinct_with (with_numbers f) env h.distinct;
  }
