use Rattle.iso_axioms.specs.Theory.{IsIsomorphic}
use Rattle.search_core.proofs.Matched.{is_read, least_read}
use Rattle.search_core.proofs.matching.identical_pairing.Goals as goal

pub returns-clause-found : goal.returns-clause-found
returns-clause-found c =
    least_read c.args.a.now c.args.b.now c.in_ok-own.ensures.value c.requires.wanted
    (rw c.in-Some.is at c.in_ok-word.ensures.found) c.as_slice.ensures.value c.pairing.result c.pairing.ensures.shape
    c.pairing.ensures.word

pub returns-clause-none : goal.returns-clause-none
returns-clause-none c =
    is_read c.args.a.now c.args.b.now c.in_ok-own.ensures.value c.requires.wanted
    (rw c.in-Some.is at c.in_ok-word.ensures.found) c.as_slice.ensures.value
    (¬ (IsIsomorphic c.args.a.now c.args.b.now)) c.pairing.result c.pairing.ensures.none
