use Rattle.std.proofs.Common.{inr}
use Rattle.sig_base.proofs.FileCounts.{raised, same_counts}
use Rattle.sig_base.proofs.mem_files.count_failure.Goals as goal

pub returns-in-Ok-clause-raised : goal.returns-in-Ok-clause-raised
returns-in-Ok-clause-raised c failed = raised _ _ _ _ _ c.place_of.ensures.place c.in-Ok.ensures.raised

pub returns-in-Err-clause-quiet : goal.returns-in-Err-clause-quiet
returns-in-Err-clause-quiet c = inr (same_counts c.args.files.now c.args.counts.now c.raise.new.self c.in-Err.ensures.kept)
