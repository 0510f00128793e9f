use Rattle.std.proofs.Common.{◌≡◌, ◌++◌, map, drop, take}
use Rattle.elab_env.specs.Realizations.{field_resolved, resolved}
use Rattle.elab_env.proofs.staying.+stays.Given as goal

abbrev pub invariant-all_stay-loop-part : goal.invariant-all_stay-loop-part
invariant-all_stay-loop-part l =
    let f = resolved l.table.realizations in
    take l.part-index l.parts ++ map f (drop l.part-index l.parts) ≡ map f l.parts

abbrev pub invariant-fields_stay-loop-field : goal.invariant-fields_stay-loop-field
invariant-fields_stay-loop-field l =
    let f = field_resolved l.table.realizations in
    take l.field-index l.fields ++ map f (drop l.field-index l.fields) ≡ map f l.fields
