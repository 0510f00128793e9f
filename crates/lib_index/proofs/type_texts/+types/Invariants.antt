use Rattle.std.proofs.Common.{◌≡◌, ◌++◌, map, drop}
use Rattle.lib_index.specs.IndexText.{field_text, type_text}
use Rattle.type_core.specs.Lists.{concatenated}
use Rattle.lib_index.proofs.type_texts.+types.Given as goal

abbrev pub invariant-push_types-loop-part : goal.invariant-push_types-loop-part
invariant-push_types-loop-part l = l.out ++ concatenated (map type_text (drop l.part-index l.parts)) ≡ l.fn.out
    ++ concatenated (map type_text l.parts)

abbrev pub invariant-push_fields-loop-field : goal.invariant-push_fields-loop-field
invariant-push_fields-loop-field l = l.out ++ concatenated (map field_text (drop l.field-index l.fields)) ≡ l.fn.out
    ++ concatenated (map field_text l.fields)
