-- The machine of files reads their grammar.
use Rattle.std.specs.List.{enumerate_from}
use Rattle.ty_parser.proofs.Viable.{Reading}
use Rattle.sig_parser.specs.declared.tree.SourceFile.{SourceFile}
use Rattle.sig_parser.specs.Files.{File}
use Rattle.sig_parser.specs.machine.Machine.{State, start, step, finish, depth}
use Rattle.sig_parser.proofs.Complete.{parse_complete}
use Rattle.sig_parser.proofs.Sound.{parse_sound}
use Rattle.sig_parser.proofs.Closing.{completes}
use Rattle.sig_parser.proofs.Depth.{start_depth, step_depth}

abbrev pub files : Reading
files = record {
  State = State;
  Tree = SourceFile;
  first = 0;
  phrase = File;
  step = step;
  start = start;
  finish = finish;
  depth = depth;
  complete = λ ss f d. parse_complete d;
  sound = λ ss. parse_sound (enumerate_from 0 ss);
  completes = λ n st. let h = completes n st in (h.more, h.tree, h.ends);
  start_depth = start_depth;
  step_depth = step_depth;
}
