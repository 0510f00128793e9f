use Rattle.std.proofs.Common.{◌≡◌, take, Ok}
use Rattle.sig_base.specs.Faults.{NoneFell}
use Rattle.elab_rules.specs.Library.{empty_basis}
use Rattle.lib_load.specs.Given.{FromGiven, file_limit}
use Rattle.lib_load.specs.Loading.{TakesFiles}
use Rattle.lib_load.proofs.loading.take_all.Given as goal

abbrev pub invariant-loop-i : goal.invariant-loop-i
invariant-loop-i g l = record {
  accepted : FromGiven file_limit g.F.Files.gives g.F.Files.read_faults (take l.i l.paths) l.initial.files l.files (TakesFiles 0 empty_basis l.i (Ok l.elab));
  writes : g.F.Files.write_faults l.files ≡ g.F.Files.write_faults l.initial.files;
  kept : g.F.Files.files l.files ≡ g.F.Files.files l.initial.files;
  counts : NoneFell (g.F.Files.read_faults l.initial.files) (g.F.Files.read_faults l.files);
}
