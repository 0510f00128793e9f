use Rattle.std.proofs.Common.{refl}
use Rattle.std.specs.Prelude.{map, string_bytes}
use Rattle.isosearch.specs.Outside.{outside}
use Rattle.isosearch.proofs.Asking.{can_be_asked}
use Rattle.isosearch.proofs.PrintedEnds.{printed_ends}
use Rattle.isosearch.proofs.RefusedEnds.{refused_ends}
use Rattle.isosearch.proofs.WrittenEnds.{indexed_ends}
use Rattle.isosearch.proofs.run.run.Goals as goal

pub answer_to-requires : goal.answer_to-requires
answer_to-requires g c = record { asked = can_be_asked (map string_bytes c.args.words.now) _ c.in-Ok.ensures.command }

pub returns-in-Ok-Report-clause-ends : goal.returns-in-Ok-Report-clause-ends
returns-in-Ok-Report-clause-ends g c =
    rw c.in-Ok.ensures.command
    (printed_ends _ g.F.Files c.in-Ok.command _ (outside g.F.Files g.O.Sink g.E.Sink c.args.files.now c.args.out.now c.args.err.now) (outside g.F.Files g.O.Sink g.E.Sink c.answer_to.new.files c.print.new.out c.print.new.err)
    c.one_outcome.ensures.law c.indexes_change_no_byte.ensures.law _ c.in-Ok-Report.found_none c.print.ensures.statuses (rw c.as_slice.ensures.value at c.print.ensures.whole) (rw c.as_slice.ensures.value at c.print.ensures.part)
    c.print.ensures.fault c.print.ensures.line c.in-Ok-Report.ensures.kept c.in-Ok-Report.ensures.no_write refl
    (rw c.in-Ok-Report.field-0-is at c.in-Ok-Report.ensures.given) (rw c.in-Ok-Report.field-0-is at c.in-Ok-Report.ensures.told) c.in-Ok-Report.ensures.unread)

pub returns-in-Ok-Index-clause-ends : goal.returns-in-Ok-Index-clause-ends
returns-in-Ok-Index-clause-ends g c =
    rw c.in-Ok.ensures.command
    (indexed_ends _ g.F.Files c.in-Ok.command _ (outside g.F.Files g.O.Sink g.E.Sink c.args.files.now c.args.out.now c.args.err.now) (outside g.F.Files g.O.Sink g.E.Sink c.write_file.new.files c.args.out.now c.write_file.new.err)
    c.answer_to.new.files c.one_outcome.ensures.law c.indexes_change_no_byte.ensures.law _ (rw c.in-Ok-Index.field-0-is at c.in-Ok-Index.ensures.fits) c.write_file.ensures.statuses
    (rw (c.out_of.ensures, c.as_slice-in-Ok-Index.ensures.value, c.in-Ok-Index.ensures.kept) at c.write_file.ensures.whole) (rw (c.out_of.ensures, c.as_slice-in-Ok-Index.ensures.value, c.in-Ok-Index.ensures.kept) at c.write_file.ensures.part)
    (rw (c.out_of.ensures, c.in-Ok-Index.ensures.no_write) at c.write_file.ensures.fault) (rw c.out_of.ensures at c.write_file.ensures.line) refl c.write_file.ensures.no_read
    (rw c.in-Ok-Index.field-0-is at c.in-Ok-Index.ensures.given) (rw c.in-Ok-Index.field-0-is at c.in-Ok-Index.ensures.told) c.in-Ok-Index.ensures.few)

pub returns-clause-ends : goal.returns-clause-ends
returns-clause-ends g c =
    rw c.in-Ok.ensures.command
    (refused_ends _ g.F.Files c.in-Ok.command _ (outside g.F.Files g.O.Sink g.E.Sink c.args.files.now c.args.out.now c.args.err.now) (outside g.F.Files g.O.Sink g.E.Sink c.answer_to.new.files c.args.out.now c.refuse.new.err)
    c.one_outcome.ensures.law c.indexes_change_no_byte.ensures.law c.in-Err.refusal c.paths_of.result.now c.paths_of.ensures c.refuse.ensures.status c.refuse.ensures.line refl c.in-Err.ensures.kept c.in-Err.ensures.no_write refl
    c.in-Err.ensures.given c.in-Err.ensures.told c.in-Err.ensures.fault c.in-Err.ensures.stopped c.in-Err.ensures.unread)
