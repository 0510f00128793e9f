use Rattle.std.proofs.Common.{sym, ap, ◌∙◌, subst, min}
use Rattle.iso_normal.specs.Consistency.{variables_among}
use Rattle.coord_match.specs.Names.{HaveOneMark}
use Rattle.search_core.proofs.FewNodes.{few_nodes}
use Rattle.search_core.proofs.LeastPairings.{has_length, is_consistent, is_least}
use Rattle.search_core.proofs.OneMark.{one_mark}
use Rattle.search_core.proofs.OneMeasure.{equal_sizes}
use Rattle.search_core.proofs.comparing.least_pairing.Goals as goal

pub returns-then-normal_size-size-clause-none : goal.returns-then-normal_size-size-clause-none
returns-then-normal_size-size-clause-none c = λ e equal.
    c.if-normal_size-size.true
    (c.normal_size.ensures.value ∙ ap (λ n. min n 0xffff_ffff_ffff_ffff)
    (equal_sizes c.args.scheme.now c.args.query.now equal) ∙ sym c.requires.size)

pub first-requires-clause-one_mark : goal.first-requires-clause-one_mark
first-requires-clause-one_mark c =
    subst (λ cs. HaveOneMark (variables_among cs)) (sym c.in_ok-own.ensures.value)
    (one_mark c.args.scheme.now c.requires.scheme)

pub first-requires-clause-few : goal.first-requires-clause-few
first-requires-clause-few c =
    few_nodes c.args.query.now.body c.args.wanted.now c.requires.wanted c.requires.query.normal_limit

pub returns-in-Some-2-clause-equal : goal.returns-in-Some-2-clause-equal
returns-in-Some-2-clause-equal c =
    (c.isomorphic_schemes_have_pairings.ensures.law c.args.scheme.now c.args.query.now c.requires.type_
    c.requires.query.type).1
    (is_consistent (rw c.in-Some.is at c.in_ok-pairs.ensures.found) c.as_slice.ensures.value c.args.scheme.now
    c.args.query.now c.in_ok-own.ensures.value c.requires.wanted)

pub returns-in-Some-2-clause-found : goal.returns-in-Some-2-clause-found
returns-in-Some-2-clause-found c =
    is_least (rw c.in-Some.is at c.in_ok-pairs.ensures.found) c.as_slice.ensures.value c.args.scheme.now
    c.args.query.now c.in_ok-own.ensures.value c.requires.wanted
    c.in-Some-2.tree (rw c.in-Some-2.is at c.in_ok-tree.ensures.shape) (rw c.in-Some-2.is at c.in_ok-tree.ensures.word)

pub returns-clause-none : goal.returns-clause-none
returns-clause-none c =
    λ e equal. c.in_ok-tree.ensures.none.0 c.in-None.is
    (has_length (rw c.in-Some.is at c.in_ok-pairs.ensures.found) c.as_slice.ensures.value)
