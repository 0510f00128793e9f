use Rattle.std.proofs.Common.{◌≡◌, take}
use Rattle.std.specs.List.{flat_map}
use Rattle.search_core.specs.Printing.{ArePrinted}
use Rattle.search_core.specs.Report.{entry_text}
use Rattle.search_core.proofs.reports.report.Given as goal

abbrev pub invariant-loop-hit : goal.invariant-loop-hit
invariant-loop-hit l =
    (l.text ≡ flat_map (entry_text l.lib l.names_only) (take l.hit-index l.answer.hits))
    × ArePrinted l.lib.names l.printed.entries
