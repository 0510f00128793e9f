use Rattle.std.proofs.Common.{◌≡◌, ◌+◌, ◌-◌, ◌<◌, length, vec_len}
use Rattle.sig_base.specs.Faults.{NoneFell}
use Rattle.sig_base.specs.Reading.{Gave, GaveMore}
use Rattle.sig_base.proofs.read.read_whole.Given as goal

abbrev pub invariant-pieces : goal.invariant-pieces
invariant-pieces g l = record {
  gave : Gave g.F.Files.gives l.path l.initial.files l.bytes.items l.files;
  more : l.limit < length l.bytes.items → GaveMore g.F.Files.gives l.path l.initial.files l.limit l.files;
  kept : g.F.Files.files l.files ≡ g.F.Files.files l.initial.files;
  counts : NoneFell (g.F.Files.read_faults l.initial.files) (g.F.Files.read_faults l.files);
  no_write : g.F.Files.write_faults l.files ≡ g.F.Files.write_faults l.initial.files;
}

abbrev pub decreases-pieces : goal.decreases-pieces
decreases-pieces g l = l.limit + 1 - vec_len l.bytes
