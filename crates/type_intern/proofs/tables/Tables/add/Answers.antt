use Rattle.type_intern.specs.declared.node.Numbers.{Numbers}
use Rattle.type_intern.proofs.Growing.{fits_on}
use Rattle.type_intern.proofs.Reducing.{canon_before, erased_before, key_before, value_beside}
use Rattle.type_intern.proofs.tables.Tables.add.Goals as goal

pub canonical-requires-clause-fits : goal.canonical-requires-clause-fits
canonical-requires-clause-fits c = fits_on c.args.self.now.types c.erasure.new.self.types c.args.self.now.nodes.entries
    c.erasure.new.self.nodes.entries c.args.self.now.keys.keys c.erasure.new.self.keys.keys c.in_ok-erased.ensures.grows
    c.args.node c.requires.fits

pub canonical-requires-clause-key : goal.canonical-requires-clause-key
canonical-requires-clause-key c = value_beside (λ (v : Numbers). v.key.0) c.erasure.new.self.nodes.entries
    c.in_ok-erased.erased.0 c.index.result.now c.index.ensures

pub put-requires-clause-fits : goal.put-requires-clause-fits
put-requires-clause-fits c = fits_on c.erasure.new.self.types c.canonical.new.self.types
    c.erasure.new.self.nodes.entries c.canonical.new.self.nodes.entries c.erasure.new.self.keys.keys
    c.canonical.new.self.keys.keys c.in_ok-canon.ensures.grows c.args.node
    (fits_on c.args.self.now.types c.erasure.new.self.types c.args.self.now.nodes.entries
    c.erasure.new.self.nodes.entries c.args.self.now.keys.keys c.erasure.new.self.keys.keys
    c.in_ok-erased.ensures.grows c.args.node c.requires.fits)

pub put-requires-clause-canon : goal.put-requires-clause-canon
put-requires-clause-canon c = canon_before c.erasure.new.self.types c.canonical.new.self.types
    c.erasure.new.self.nodes.entries c.canonical.new.self.nodes.entries c.erasure.new.self.keys.keys
    c.canonical.new.self.keys.keys c.in_ok-canon.ensures.grows c.args.node
    (fits_on c.args.self.now.types c.erasure.new.self.types c.args.self.now.nodes.entries
    c.erasure.new.self.nodes.entries c.args.self.now.keys.keys c.erasure.new.self.keys.keys
    c.in_ok-erased.ensures.grows c.args.node c.requires.fits) c.in_ok-canon.canon.0 c.in_ok-canon.ensures.value

pub put-requires-clause-erased : goal.put-requires-clause-erased
put-requires-clause-erased c = erased_before c.erasure.new.self.types c.canonical.new.self.types
    c.erasure.new.self.nodes.entries c.canonical.new.self.nodes.entries c.erasure.new.self.keys.keys
    c.canonical.new.self.keys.keys c.in_ok-canon.ensures.grows c.args.node
    (fits_on c.args.self.now.types c.erasure.new.self.types c.args.self.now.nodes.entries
    c.erasure.new.self.nodes.entries c.args.self.now.keys.keys c.erasure.new.self.keys.keys
    c.in_ok-erased.ensures.grows c.args.node c.requires.fits) c.in_ok-erased.erased.0 c.in_ok-erased.ensures.value

pub put-requires-clause-key : goal.put-requires-clause-key
put-requires-clause-key c = key_before c.erasure.new.self.types c.canonical.new.self.types
    c.erasure.new.self.nodes.entries c.canonical.new.self.nodes.entries c.erasure.new.self.keys.keys
    c.canonical.new.self.keys.keys c.in_ok-canon.ensures.grows c.args.node
    (fits_on c.args.self.now.types c.erasure.new.self.types c.args.self.now.nodes.entries
    c.erasure.new.self.nodes.entries c.args.self.now.keys.keys c.erasure.new.self.keys.keys
    c.in_ok-erased.ensures.grows c.args.node c.requires.fits)
    c.in_ok-erased.erased.0 c.index.result.now.key.0 (value_beside (λ (v : Numbers). v.key.0)
    c.erasure.new.self.nodes.entries c.in_ok-erased.erased.0 c.index.result.now c.index.ensures)
