use Rattle.std.proofs.Common.{◌≡◌, Some, rules, slice_get, subst, sym}
use Rattle.std.proofs.lemmas.Option.{slice_get_within}
use Rattle.iso_normal.specs.PairTrees.{place_of}
use Rattle.iso_normal.proofs.Numbers.{all_numbered, few_entries, numbered_next, place_within}
use Rattle.iso_normal.proofs.inverting.numbers_by_place.Goals as goal

pub index_mut-requires : goal.index_mut-requires
index_mut-requires c =
    let within = place_within c.args.entries.now c.loop-i.numbers.items c.loop-i.i c.place_at-place.result c.requires.permutation c.loop-i-test.true c.loop-i.invariant.0 c.place_at-place.ensures.value in
    search (rules, within)

pub loop-i-preserved : goal.loop-i-preserved
loop-i-preserved c = numbered_next c.args.entries.now c.loop-i.numbers.items c.loop-i.i c.place_at-place.result c.requires.permutation c.loop-i-test.true c.loop-i.invariant.0 c.loop-i.invariant.1 c.place_at-place.ensures.value c.place_at-place.type_inv

pub returns-clause-numbers : goal.returns-clause-numbers
returns-clause-numbers c = λ j e at. subst (λ numbers. slice_get numbers (place_of e) ≡ Some j) (sym c.from_vec.ensures.value)
    (all_numbered c.args.entries.now c.loop-i.numbers.items c.loop-i.i c.loop-i-test.false c.loop-i.invariant.1 j e (slice_get_within c.args.entries.now j e at) at).0

pub returns-clause-few : goal.returns-clause-few
returns-clause-few c = few_entries c.args.entries.now c.loop-i.numbers.items c.requires.permutation (all_numbered c.args.entries.now c.loop-i.numbers.items c.loop-i.i c.loop-i-test.false c.loop-i.invariant.1)
