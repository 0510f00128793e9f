use Rattle.std.proofs.Common.{◌≡◌, Some, slice_get, refl}
use Rattle.std.specs.Map.{keys_of}
use Rattle.std.proofs.lemmas.Result.{IfOk-weaker}
use Rattle.type_intern.specs.CoordTables.{canons_in}
use Rattle.type_intern.proofs.Reducing.{args_read, canon_at, canon_erased, canon_fits, canon_own}
use Rattle.type_intern.proofs.tables.Tables.canonical.Goals as goal

pub put-requires-clause-fits : goal.put-requires-clause-fits
put-requires-clause-fits c = canon_fits c.args.self.now.types c.args.self.now.nodes.entries c.args.self.now.keys.keys
    c.requires.arena c.args.node.now c.requires.fits (record { args = c.in_ok-args.args; head = c.args.node.now.head })
    (args_read (canons_in c.args.self.now.nodes.entries) c.in_ok-args.args c.as_slice.result.now c.args.node.now.args
    c.in_ok-args.ensures.value c.as_slice.ensures.value) refl

pub put-requires-clause-canon : goal.put-requires-clause-canon
put-requires-clause-canon c = canon_own c.args.self.now.types c.args.self.now.nodes.entries c.args.self.now.keys.keys
    c.requires.arena c.args.node.now c.requires.fits (record { args = c.in_ok-args.args; head = c.args.node.now.head })
    (args_read (canons_in c.args.self.now.nodes.entries) c.in_ok-args.args c.as_slice.result.now c.args.node.now.args
    c.in_ok-args.ensures.value c.as_slice.ensures.value) refl c.len.result c.len.ensures.len

pub put-requires-clause-erased : goal.put-requires-clause-erased
put-requires-clause-erased c = canon_erased c.args.self.now.types c.args.self.now.nodes.entries
    c.args.self.now.keys.keys c.requires.arena c.args.node.now c.requires.fits
    (record { args = c.in_ok-args.args; head = c.args.node.now.head })
    (args_read (canons_in c.args.self.now.nodes.entries) c.in_ok-args.args c.as_slice.result.now c.args.node.now.args
    c.in_ok-args.ensures.value c.as_slice.ensures.value) refl c.args.erased.0 c.requires.erased

pub returns-clause-value : goal.returns-clause-value
returns-clause-value c = IfOk-weaker c.put.result (λ id. slice_get (keys_of c.put.new.self.nodes.entries) id.0 ≡ Some
    (record { args = c.in_ok-args.args; head = c.args.node.now.head })) _
    (λ id stands. canon_at c.args.self.now.types c.args.self.now.nodes.entries c.args.self.now.keys.keys
    c.requires.arena c.args.node.now c.requires.fits (record {
      args = c.in_ok-args.args;
      head = c.args.node.now.head;
    }) (args_read (canons_in
    c.args.self.now.nodes.entries) c.in_ok-args.args c.as_slice.result.now c.args.node.now.args c.in_ok-args.ensures.value c.as_slice.ensures.value) refl
    c.put.new.self.types c.put.new.self.nodes.entries c.put.new.self.keys.keys c.put.ensures.grows id.0
    stands) c.put.ensures.value
