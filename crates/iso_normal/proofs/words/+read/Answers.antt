use Rattle.std.proofs.Common.{rules, refl}
use Rattle.type_core.specs.declared.coordinate.Coordinate.TheViews.{the_lemmas}
use Rattle.type_core.specs.Coordinates.{arguments_of}
use Rattle.iso_normal.proofs.ReadWords.{one_letter, read_none, read_step, room}
use Rattle.iso_normal.proofs.words.+read.Goals as goal

pub loop-c-init : goal.loop-c-init
loop-c-init t c = read_none c.args.word.now c.args.at.now c.new-done.result c.new-done.ensures.empty

pub offset_bounds-word-at : goal.offset_bounds-word-at
offset_bounds-word-at t c =
    let enough = room c.args.all.now c.args.word.now c.args.at.now c.loop-c.at c.loop-c.c-index c.loop-c.done c.c-item.result (arguments_of c.c-item.result) c.loop-c.invariant c.requires.enough c.loop-c-test.true c.c-item.is refl in
    search (rules, enough)

pub bounds-word-at : goal.bounds-word-at
bounds-word-at t c = one_letter c.loop-c.at _ _ (room c.args.all.now c.args.word.now c.args.at.now c.loop-c.at c.loop-c.c-index c.loop-c.done c.c-item.result (arguments_of c.c-item.result) c.loop-c.invariant c.requires.enough c.loop-c-test.true c.c-item.is refl)

pub overflow_add-at : goal.overflow_add-at
overflow_add-at t c =
    let enough = room c.args.all.now c.args.word.now c.args.at.now c.loop-c.at c.loop-c.c-index c.loop-c.done c.c-item.result (arguments_of c.c-item.result) c.loop-c.invariant c.requires.enough c.loop-c-test.true c.c-item.is refl in
    search (rules, enough)

pub read_entries-requires : goal.read_entries-requires
read_entries-requires t c =
    (search (rules, the_lemmas), room c.args.all.now c.args.word.now c.args.at.now c.loop-c.at c.loop-c.c-index c.loop-c.done c.c-item.result c.as_slice.result.now c.loop-c.invariant c.requires.enough c.loop-c-test.true c.c-item.is c.as_slice.ensures.value)

pub loop-c-preserved : goal.loop-c-preserved
loop-c-preserved t c = read_step c.args.all.now c.args.word.now c.args.at.now c.loop-c.at c.read_entries.new.at c.loop-c.c-index _ c.c-item.result c.as_slice.result.now c.loop-c.done c.in_ok-entries.entries c.push.new.self
    c.loop-c.invariant c.requires.enough c.loop-c-test.true c.c-item.is c.as_slice.ensures.value c.in_ok-entries.ensures.passed c.in_ok-entries.ensures.shapes c.in_ok-entries.ensures.word c.in_ok-push.ensures.pushed
