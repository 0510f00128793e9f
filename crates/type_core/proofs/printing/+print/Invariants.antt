use Rattle.std.proofs.Common.{◌≡◌, ◌++◌, map, drop, codes}
use Rattle.type_core.specs.Printing.{separated, text_at, field_text_at}
use Rattle.type_core.specs.declared.printing.Place.TheVariants.{Free}
use Rattle.type_core.proofs.Continued.{continued}
use Rattle.type_core.proofs.printing.+print.Given as goal

abbrev pub invariant-print_all-loop-part : goal.invariant-print_all-loop-part
invariant-print_all-loop-part l = l.out ++ continued l.is_first l.between l.place (map (text_at l.names) (drop l.part-index l.parts)) ≡ l.fn.out ++ separated l.between l.place (map (text_at l.names) l.parts)

abbrev pub invariant-print_fields-loop-field : goal.invariant-print_fields-loop-field
invariant-print_fields-loop-field l = l.out ++ continued l.is_first (codes ", ") Free (map (field_text_at l.names) (drop l.field-index l.fields)) ≡ l.fn.out ++ separated (codes ", ") Free (map (field_text_at l.names) l.fields)
