use Rattle.search_core.proofs.LeastPairings.{equal_in_iso, in_iso}
use Rattle.search_core.proofs.comparing.compared.Goals as goal

pub returns-in-Some : goal.returns-in-Some
returns-in-Some c =
    in_iso c.args.names.now c.args.mode c.args.scheme.now c.args.query.now c.in-Some.pairing c.in-Iso.is
    (rw c.in-Some.is at c.in_ok-pairing-in-Iso.ensures.equal) (rw c.in-Some.is at c.in_ok-pairing-in-Iso.ensures.found)

pub returns-in-None : goal.returns-in-None
returns-in-None c =
    λ equal. c.in_ok-pairing-in-Iso.ensures.none c.in-None.is
    (equal_in_iso c.args.names.now c.args.mode c.args.scheme.now c.args.query.now c.in-Iso.is equal)
