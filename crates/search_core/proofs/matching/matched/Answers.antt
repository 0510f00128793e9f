use Rattle.std.proofs.Common.{subst, sym}
use Rattle.type_core.specs.Types.{IsType}
use Rattle.search_core.proofs.FewNodes.{few_nodes}
use Rattle.search_core.proofs.matching.matched.Goals as goal

pub identical_pairing-requires-clause-few : goal.identical_pairing-requires-clause-few
identical_pairing-requires-clause-few c =
    few_nodes c.args.query.now.body c.args.wanted.now c.requires.wanted c.requires.query.normal_limit

pub returns : goal.returns
returns c =
    let match = rw c.in-Some.is at c.in_ok-instance.ensures.matches in
    let first = rw c.in-Some.is at c.in_ok-instance.ensures.found in (
      (c.in-Some.instance.subst, match),
      record {
        type = subst IsType (sym first.filled)
            (c.theories_relate_types.ensures.linear _ c.args.query.now.body match.isomorphic).0;
        first = first;
        least = rw c.in-Some-2.is at c.in_ok-pairing.ensures.found;
      },
    )
