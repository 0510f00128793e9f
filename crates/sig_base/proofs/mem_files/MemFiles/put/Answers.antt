use Rattle.std.proofs.Common.{◌∙◌, ap, sym}
use Rattle.sig_base.proofs.FileCounts.{counts_behind, counts-pushed, counts-with_bytes, same_counts}
use Rattle.sig_base.proofs.Places.{map-pushed, map-with_bytes}
use Rattle.sig_base.specs.MemFiles.{place_in}
use Rattle.sig_base.proofs.mem_files.MemFiles.put.Goals as goal

pub returns-in-Some-clause-put : goal.returns-in-Some-clause-put
returns-in-Some-clause-put c =
    rw c.set_bytes.ensures.value (map-with_bytes _ _ _ _ (sym (c.in-Some.ensures.place ∙ ap (λ files. place_in files c.args.path.now) c.deref.ensures.value)))

pub returns-in-Some-clause-no_read : goal.returns-in-Some-clause-no_read
returns-in-Some-clause-no_read c = rw c.set_bytes.ensures.value (counts-with_bytes c.args.self.now.files.items c.in-Some.place c.args.bytes c.args.self.now.read_faults)

pub returns-in-Some-clause-no_write : goal.returns-in-Some-clause-no_write
returns-in-Some-clause-no_write c = rw c.set_bytes.ensures.value (counts-with_bytes c.args.self.now.files.items c.in-Some.place c.args.bytes c.args.self.now.write_faults)

pub returns-in_err-copy_outside-clause-no_read : goal.returns-in_err-copy_outside-clause-no_read
returns-in_err-copy_outside-clause-no_read c = same_counts c.args.self.now.files.items c.args.self.now.read_faults c.copy_outside.new.self c.in_err-copy_outside.ensures.kept

pub returns-in_err-copy_outside-2-clause-no_read :
    goal.returns-in_err-copy_outside-2-clause-no_read
returns-in_err-copy_outside-2-clause-no_read c = counts_behind _ _ _ _ _ (c.len-place.ensures ∙ c.args.self.now.files.ok.0) c.in_ok-copy_outside.ensures.copied

pub returns-in_err-copy_outside-2-clause-no_write :
    goal.returns-in_err-copy_outside-2-clause-no_write
returns-in_err-copy_outside-2-clause-no_write c = same_counts c.args.self.now.files.items c.args.self.now.write_faults c.copy_outside-2.new.self c.in_err-copy_outside-2.ensures.kept

pub returns-in_err-push-clause-no_read : goal.returns-in_err-push-clause-no_read
returns-in_err-push-clause-no_read c =
    rw c.in_err-push.ensures.items (counts_behind _ _ _ _ _ (c.len-place.ensures ∙ c.args.self.now.files.ok.0) c.in_ok-copy_outside.ensures.copied)

pub returns-in_err-push-clause-no_write : goal.returns-in_err-push-clause-no_write
returns-in_err-push-clause-no_write c =
    rw c.in_err-push.ensures.items (counts_behind _ _ _ _ _ (c.len-place.ensures ∙ c.args.self.now.files.ok.0) c.in_ok-copy_outside-2.ensures.copied)

pub returns-clause-put : goal.returns-clause-put
returns-clause-put c =
    rw c.in_ok-push.ensures.items
    (map-pushed _ _ _ (sym (c.in_default.ensures.place ∙ ap (λ files. place_in files c.args.path.now) c.deref.ensures.value)) (c.in_ok-path.ensures.value ∙ c.as_bytes.ensures.value))

pub returns-clause-no_read : goal.returns-clause-no_read
returns-clause-no_read c = rw c.in_ok-push.ensures.items (counts-pushed _ _ _ _ _ (c.len-place.ensures ∙ c.args.self.now.files.ok.0) c.in_ok-copy_outside.ensures.copied)

pub returns-clause-no_write : goal.returns-clause-no_write
returns-clause-no_write c = rw c.in_ok-push.ensures.items (counts-pushed _ _ _ _ _ (c.len-place.ensures ∙ c.args.self.now.files.ok.0) c.in_ok-copy_outside-2.ensures.copied)
