-- Which lists of sorts are signature files.
use Rattle.std.specs.Prelude.{List, []}
use Rattle.std.specs.List.{enumerate_from}
use Rattle.ty_parser.specs.declared.sort.Sort.{Sort}
use Rattle.sig_parser.specs.declared.tree.SourceFile.{SourceFile}
use Rattle.sig_parser.specs.Grammar.{TopDeclarations}

-- the sorts are the file, all of them
abbrev pub File : List Sort → SourceFile → Type 0
File ss f = TopDeclarations (enumerate_from 0 ss) [] f.decs
