use Rattle.std.proofs.Common.{◌+◌, drop, take}
use Rattle.lib_valid.proofs.Distinct.{one_more, parted, taken_more, twice}
use Rattle.lib_valid.proofs.tycons.distinct_paths.Goals as goal

pub returns-then-not-branch : goal.returns-then-not-branch
returns-then-not-branch c =
    let tycons = c.args.tycons.now in
    let i = c.loop-tycon.tycon-index in
    let tycon = c.tycon-item.result in
    record {
      exact = twice (λ t. t.path) (take i tycons) tycon c.loop-tycon.paths c.as_slice.result.now c.in_ok-add.field-0
          c.loop-tycon.invariant c.as_slice.ensures.value c.in_ok-add.ensures.new
          (drop (i + 1) tycons) tycons (parted tycons i tycon c.loop-tycon-test.true c.tycon-item.is)
          c.if-not-branch.true;
    }

pub loop-tycon-preserved : goal.loop-tycon-preserved
loop-tycon-preserved c =
    let tycons = c.args.tycons.now in
    let i = c.loop-tycon.tycon-index in
    let tycon = c.tycon-item.result in
    one_more (λ t. t.path) (take i tycons) tycon c.loop-tycon.paths c.as_slice.result.now c.in_ok-add.field-0
    c.loop-tycon.invariant c.as_slice.ensures.value c.in_ok-add.ensures.new
    (take (i + 1) tycons) c.add.new.self (taken_more tycons i tycon c.loop-tycon-test.true c.tycon-item.is)
    c.if-not-branch.false c.in_ok-add.ensures.added
