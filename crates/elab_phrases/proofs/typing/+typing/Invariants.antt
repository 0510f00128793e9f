use Rattle.std.proofs.Common.{◌≡◌, ◌++◌, [], ℕ, List, map, drop, bytes_eq, Ok}
use Rattle.std.specs.List.{All}
use Rattle.type_core.specs.declared.ty.Field.{Field}
use Rattle.elab_types.specs.Finding.{place_of as first_place}
use Rattle.elab_types.specs.Outcome.{and_then}
use Rattle.elab_types.specs.Places.{place_at}
use Rattle.elab_rules.specs.Standing.{IsSettledType, Mentions, Sees}
use Rattle.elab_rules.specs.Types.{all_typed, field_typed, fields_typed, typed}
use Rattle.elab_rules.specs.Views.{place_by_now, state_of}
use Rattle.elab_phrases.proofs.typing.+typing.Given as goal

abbrev pub invariant-all_types-loop-part : goal.invariant-all_types-loop-part
invariant-all_types-loop-part l = record {
  typed : and_then (all_typed (map typed (drop l.part-index l.parts)) (place_by_now l.fn.progress l.place) (state_of l.progress)) (λ q. Ok (l.types ++ q.0, q.1))
      ≡ all_typed (map typed l.parts) (place_by_now l.fn.progress l.place) (state_of l.fn.progress);
  settled : All (IsSettledType l.progress.table) l.types;
  sees : Sees l.progress l.place.site l.place.own.entries.now;
  mentions : Mentions l.fn.progress l.progress;
}

abbrev pub invariant-all_fields-loop-part : goal.invariant-all_fields-loop-part
invariant-all_fields-loop-part l = record {
  typed : fields_typed (place_by_now l.fn.progress l.place) l.fields (map field_typed (drop l.part-index l.parts)) (state_of l.progress)
      ≡ fields_typed (place_by_now l.fn.progress l.place) [] (map field_typed l.parts) (state_of l.fn.progress);
  labels : (label : List ℕ) → place_at l.labels label ≡ first_place (λ (field : Field). bytes_eq label field.label) l.fields;
  settled : All (λ (field : Field). IsSettledType l.progress.table field.ty) l.fields;
  sees : Sees l.progress l.place.site l.place.own.entries.now;
  mentions : Mentions l.fn.progress l.progress;
}
