use Rattle.sig_base.proofs.Places.{set-with_bytes}
use Rattle.sig_base.proofs.mem_files.set_bytes.Goals as goal

pub returns : goal.returns
returns c = record { value = set-with_bytes _ _ c.index_mut.result.now _ c.requires c.index_mut.ensures.value }
