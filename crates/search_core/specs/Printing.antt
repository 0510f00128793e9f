-- Lines that were printed.
use Rattle.std.specs.Prelude.{◌≡◌, ◌++◌, List}
use Rattle.std.specs.List.{All}
use Rattle.type_core.specs.declared.names.TypeName.{TypeName}
use Rattle.search_core.specs.declared.printed.Lines.{Lines}
use Rattle.search_core.specs.Report.{converter_lines, instance_line}

-- each has the lines of its instance and its converters
abbrev pub ArePrinted : List TypeName → List Lines → Type 0
ArePrinted names entries =
    All (λ lines. lines.text ≡ instance_line names lines.instance ++ converter_lines names lines.conv) entries
