use Rattle.std.proofs.Common.{rules, refl, ap, ◌∙◌, length}
use Rattle.iso_normal.specs.declared.pair_tree.Entry.TheViews.{the_lemmas}
use Rattle.iso_normal.specs.PairTrees.{pair_tree}
use Rattle.iso_normal.proofs.Numbers.{all_entries, entries_next, standing_number, tree_made}
use Rattle.iso_normal.proofs.inverting.+inverse.Goals as goal

pub inverse-returns : goal.inverse-returns
inverse-returns t c = record { value = tree_made c.args.p.now c.as_slice.result.now c.in_ok-entries.entries c.as_slice.ensures.value c.in_ok-entries.ensures.value }

pub inverse_entries-offset_bounds-entries-number : goal.inverse_entries-offset_bounds-entries-number
inverse_entries-offset_bounds-entries-number t c =
    let small = (standing_number c.args.entries.now c.in_ok-numbers.numbers c.as_slice-number-items.result.now c.loop-number.number-index _ 0 c.requires.permutation c.requires.permuted
    c.in_ok-numbers.ensures.length c.in_ok-numbers.ensures.numbers c.in_ok-numbers.ensures.few c.as_slice-number-items.ensures.value c.loop-number-test.true refl).small in
    search (rules, small)

pub inverse_entries-bounds-entries-number : goal.inverse_entries-bounds-entries-number
inverse_entries-bounds-entries-number t c = (standing_number c.args.entries.now c.in_ok-numbers.numbers c.as_slice-number-items.result.now c.loop-number.number-index _ 0 c.requires.permutation c.requires.permuted
    c.in_ok-numbers.ensures.length c.in_ok-numbers.ensures.numbers c.in_ok-numbers.ensures.few c.as_slice-number-items.ensures.value c.loop-number-test.true refl).below

pub inverse_entries-inverse-requires : goal.inverse_entries-inverse-requires
inverse_entries-inverse-requires t c =
    let standing = standing_number c.args.entries.now c.in_ok-numbers.numbers c.as_slice-number-items.result.now c.loop-number.number-index _ 0 c.requires.permutation c.requires.permuted
    c.in_ok-numbers.ensures.length c.in_ok-numbers.ensures.numbers c.in_ok-numbers.ensures.few c.as_slice-number-items.ensures.value c.loop-number-test.true refl in
    let below = standing.below in
    let permuted = standing.permuted c.index-entries-number.result in
    (search (rules, the_lemmas, below), permuted)

pub inverse_entries-overflow_cast-number : goal.inverse_entries-overflow_cast-number
inverse_entries-overflow_cast-number t c =
    let small = (standing_number c.args.entries.now c.in_ok-numbers.numbers c.as_slice-number-items.result.now c.loop-number.number-index _ 0 c.requires.permutation c.requires.permuted
    c.in_ok-numbers.ensures.length c.in_ok-numbers.ensures.numbers c.in_ok-numbers.ensures.few c.as_slice-number-items.ensures.value c.loop-number-test.true refl).small in
    search (rules, small)

pub inverse_entries-loop-number-preserved : goal.inverse_entries-loop-number-preserved
inverse_entries-loop-number-preserved t c = entries_next (pair_tree c.args.entries.now) c.args.entries.now c.loop-number.number-index _ c.loop-number.done c.push.new.self _ c.in_ok-args.args
    (standing_number c.args.entries.now c.in_ok-numbers.numbers c.as_slice-number-items.result.now c.loop-number.number-index _ 0 c.requires.permutation c.requires.permuted
    c.in_ok-numbers.ensures.length c.in_ok-numbers.ensures.numbers c.in_ok-numbers.ensures.few c.as_slice-number-items.ensures.value c.loop-number-test.true refl) c.loop-number.invariant c.in_ok-args.ensures.value c.in_ok-push.ensures.pushed

pub inverse_entries-returns : goal.inverse_entries-returns
inverse_entries-returns t c = record {
  value = all_entries c.args.entries.now c.as_slice-number-items.result.now c.loop-number.number-index c.loop-number.done
      (ap length c.as_slice-number-items.ensures.value ∙ c.in_ok-numbers.ensures.length) c.loop-number-test.false c.loop-number.invariant;
}
