use Rattle.std.proofs.Common.{◌+◌, sym, subst, ◌∙◌}
use Rattle.std.specs.List.{All}
use Rattle.lib_gen.specs.Counts.{IsCounted}
use Rattle.lib_gen.specs.Summary.{AreTotals}
use Rattle.lib_gen.proofs.MoreTotals.{no_totals, none_searched, one_searched, passed_over, with_counted}
use Rattle.lib_gen.proofs.totals.totals_of.Goals as goal
use Rattle.lib_gen.proofs.totals.totals_of.Goals.{then-i-eq13+in-Some+in_ok-searched+in_ok-totals+in_ok-push, else-i-eq13}

pub loop-i-init : goal.loop-i-init
loop-i-init c = (no_totals c.args.lib.now, none_searched c.args.lib.now c.in_ok-classes.classes c.new-before.result c.new-before.ensures.empty)

pub counted-requires-clause-before : goal.counted-requires-clause-before
counted-requires-clause-before c =
    subst (All (IsCounted c.args.lib.now c.in_ok-classes.classes)) (sym c.as_slice.ensures.value) c.loop-i.invariant.1

pub loop-i-preserved : goal.loop-i-preserved
loop-i-preserved c =
    let lib = c.args.lib.now in
    let classes = c.in_ok-classes.classes in
    elim c.if-i-eq13.branch [
      | then-i-eq13+in-Some+in_ok-searched+in_ok-totals+in_ok-push w ↦ (
        subst (AreTotals lib (c.loop-i.i + 1)) (sym w.totals-is)
            (with_counted lib classes c.in_ok-classes.ensures.classes c.loop-i.i w.in-Some.class.now c.loop-i.totals
            w.in_ok-totals.totals w.in_ok-searched.searched w.if-i-eq13.true (sym w.in-Some.ensures.value)
            c.loop-i.invariant.0 w.in_ok-searched.ensures.counted w.in_ok-searched.ensures.class
            w.in_ok-totals.ensures.queries w.in_ok-totals.ensures.iso w.in_ok-totals.ensures.general),
        one_searched lib classes c.loop-i.before c.if-i-eq13.before w.in_ok-searched.searched
            (w.before-is ∙ w.in_ok-push.ensures.pushed) c.loop-i.invariant.1 w.in_ok-searched.ensures.counted,
      )
      | else-i-eq13 w ↦ (
        subst (AreTotals lib (c.loop-i.i + 1)) (sym w.totals-is)
            (passed_over lib c.loop-i.i c.loop-i.totals w.if-i-eq13.false c.loop-i.invariant.0),
        subst (All (IsCounted lib classes)) (sym w.before-is) c.loop-i.invariant.1,
      )
    ]
