-- A type that is sound is so when it is closed.
use Rattle.std.proofs.Common.{◌≤◌, sym, ◌∙◌, subst}
use Rattle.std.specs.List.{All}
use Rattle.type_core.specs.declared.ty.Ty.{Ty}
use Rattle.type_core.specs.NormalSize.{normal_size_of}
use Rattle.type_core.specs.Renaming.{Renaming}
use Rattle.type_core.specs.Schemes.{closed, numbered_among}
use Rattle.type_core.specs.ValidLibrary.{IsLabel, IsWithinLimits}
use Rattle.type_core.specs.Variables.{by_first_occurrence}
use Rattle.type_core.proofs.Closed.{closed_is_scheme}
use Rattle.elab_soundness.specs.Soundness.{IsFormedScheme, IsSoundScheme, IsSoundType, Known}
use Rattle.elab_types.proofs.Renamed.{as_normal, height_renamed, labels_renamed, size_renamed, type_renamed}
use Rattle.elab_soundness.proofs.valid.KnownNames.{names_renamed}

module _ (known : Known) (t : Ty) (sound : IsSoundType known t) where
  abbrev numbering : Renaming
  numbering = numbered_among (by_first_occurrence t)

  pub closed_formed : IsFormedScheme known (closed t)
  closed_formed = record {
    scheme = closed_is_scheme t;
    body = record {
      is_type = type_renamed numbering t ∙ sound.is_type;
      names = names_renamed known numbering t sound.names;
      labels = subst (All IsLabel) (sym (labels_renamed numbering t)) sound.labels;
    };
  }

  pub closed_sound : IsWithinLimits t → normal_size_of t ≤ 8000 → IsSoundScheme known (closed t)
  closed_sound limits fits = record {
    formed = closed_formed;
    limits = record { nodes = subst (λ n. n ≤ 2000) (sym (size_renamed numbering t)) limits.nodes; height = subst (λ n. n ≤ 200) (sym (height_renamed numbering t)) limits.height };
    normal = subst (λ n. n ≤ 8000) (sym ((as_normal numbering t).normal)) fits;
  }
