use Rattle.sig_base.proofs.Counts.{cause-same}
use Rattle.sig_base.specs.MemFiles.{write_counts_of}
use Rattle.sig_base.proofs.mem_files.MemFilesFiles.append.Goals as goal

pub returns-in-Ok-clause-cause : goal.returns-in-Ok-clause-cause
returns-in-Ok-clause-cause c = cause-same (write_counts_of c.args.self.now) (write_counts_of c.put.new.self) (λ same. cc) c.put.ensures.no_write

pub returns-in-Err-clause-cause : goal.returns-in-Err-clause-cause
returns-in-Err-clause-cause c = cause-same (write_counts_of c.args.self.now) (write_counts_of c.put.new.self) (λ same. cc) c.put.ensures.no_write
