use Rattle.std.proofs.Common.{◌≡◌, ◌++◌, true, map, drop, codes}
use Rattle.conv_print.specs.Printing.{text_at}
use Rattle.conv_print.proofs.Continued.{continued}
use Rattle.conv_print.proofs.printing.+print.Given as goal

abbrev pub invariant-print_tuple-loop-component : goal.invariant-print_tuple-loop-component
invariant-print_tuple-loop-component l =
    l.out ++ continued l.is_first l.depth (map (text_at l.names) (drop l.component-index l.components))
    ≡ (l.fn.out ++ codes "(") ++ continued true l.depth (map (text_at l.names) l.components)
