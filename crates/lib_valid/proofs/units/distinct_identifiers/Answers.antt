use Rattle.std.proofs.Common.{◌+◌, drop, take}
use Rattle.lib_valid.proofs.Distinct.{one_more, parted, taken_more, twice}
use Rattle.lib_valid.proofs.units.distinct_identifiers.Goals as goal

pub returns-then-not-branch : goal.returns-then-not-branch
returns-then-not-branch c =
    let units = c.args.units.now in
    let i = c.loop-unit.unit-index in
    let unit = c.unit-item.result in
    record {
      exact = twice (λ u. u.id) (take i units) unit c.loop-unit.identifiers c.as_slice.result.now c.in_ok-add.field-0
          c.loop-unit.invariant c.as_slice.ensures.value c.in_ok-add.ensures.new
          (drop (i + 1) units) units (parted units i unit c.loop-unit-test.true c.unit-item.is) c.if-not-branch.true;
    }

pub loop-unit-preserved : goal.loop-unit-preserved
loop-unit-preserved c =
    let units = c.args.units.now in
    let i = c.loop-unit.unit-index in
    let unit = c.unit-item.result in
    one_more (λ u. u.id) (take i units) unit c.loop-unit.identifiers c.as_slice.result.now c.in_ok-add.field-0
    c.loop-unit.invariant c.as_slice.ensures.value c.in_ok-add.ensures.new
    (take (i + 1) units) c.add.new.self (taken_more units i unit c.loop-unit-test.true c.unit-item.is)
    c.if-not-branch.false c.in_ok-add.ensures.added
