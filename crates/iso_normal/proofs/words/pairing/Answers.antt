use Rattle.iso_normal.proofs.ReadWords.{made_shape}
use Rattle.iso_normal.proofs.words.pairing.Goals as goal

pub returns-in_ok-entries-in-Some-eq0-clause-shape : goal.returns-in_ok-entries-in-Some-eq0-clause-shape
returns-in_ok-entries-in-Some-eq0-clause-shape c = made_shape c.as_slice-in-Some-eq0.result.now c.args.a.now c.in_ok-entries-in-Some-eq0.entries c.as_slice-in-Some-eq0.ensures.value c.in_ok-entries-in-Some-eq0.ensures.shapes
