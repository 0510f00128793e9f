use Rattle.std.proofs.Common.{◌≡◌, sym, subst}
use Rattle.type_core.specs.Coordinates.{coordinates}
use Rattle.type_core.specs.Types.{IsType}
use Rattle.iso_normal.specs.Pairings.{Pairs}
use Rattle.search_core.proofs.Beside.{are_paired, own_is, paired_beside, type_beside_is_type}
use Rattle.search_core.proofs.converting.converters.Goals as goal

pub build-requires-clause-from : goal.build-requires-clause-from
build-requires-clause-from c =
    let (r, least, tells) = c.requires.least in
    let own = own_is c.args.scheme.now c.args.query.now c.args.pairing.now.partners c.as_slice.result.now
    c.in_ok-own.own
    c.as_slice.ensures.value c.in_ok-own.ensures.value r tells in
    subst IsType (sym own) (type_beside_is_type r c.args.scheme.now c.args.query.now c.requires.type_)

pub build-requires-clause-paired : goal.build-requires-clause-paired
build-requires-clause-paired c =
    let (r, least, tells) = c.requires.least in
    let own = own_is c.args.scheme.now c.args.query.now c.args.pairing.now.partners c.as_slice.result.now
    c.in_ok-own.own
    c.as_slice.ensures.value c.in_ok-own.ensures.value r tells in
    subst (λ a. Pairs ◌≡◌ (coordinates a) (coordinates c.args.query.now.body) c.args.pairing.now.tree) (sym own)
    (paired_beside r c.args.scheme.now c.args.query.now _ _ least.consistent)

pub returns : goal.returns
returns c =
    let (r, least, tells) = c.requires.least in
    let own = own_is c.args.scheme.now c.args.query.now c.args.pairing.now.partners c.as_slice.result.now
    c.in_ok-own.own
    c.as_slice.ensures.value c.in_ok-own.ensures.value r tells in
    record {
      paired = are_paired c.args.scheme.now c.args.query.now c.args.pairing.now.tree r least c.in_ok-own.own own
          c.build.result c.build.ensures.to c.build.ensures.from c.build.ensures.inverse_pair;
    }
