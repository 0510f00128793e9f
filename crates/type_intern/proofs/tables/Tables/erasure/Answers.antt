use Rattle.std.proofs.Common.{◌≡◌, Some, slice_get}
use Rattle.std.specs.Map.{keys_of}
use Rattle.std.proofs.lemmas.Result.{IfOk-weaker}
use Rattle.type_intern.specs.CoordTables.{erased_in}
use Rattle.type_intern.proofs.Reducing.{args_read, erased_at, erased_canonical, erased_fits, erased_itself}
use Rattle.type_intern.proofs.tables.Tables.erasure.Goals as goal

pub put_erasure-requires-clause-fits : goal.put_erasure-requires-clause-fits
put_erasure-requires-clause-fits c = erased_fits c.args.self.now.types c.args.self.now.nodes.entries
    c.args.self.now.keys.keys c.requires.arena c.args.node.now c.requires.fits
    (record { args = c.in_ok-args.args; head = c.erased-head.result })
    (args_read (erased_in c.args.self.now.nodes.entries) c.in_ok-args.args c.as_slice.result.now c.args.node.now.args
    c.in_ok-args.ensures.value c.as_slice.ensures.value) c.erased-head.ensures.value

pub put_erasure-requires-clause-erased : goal.put_erasure-requires-clause-erased
put_erasure-requires-clause-erased c = erased_itself c.args.self.now.types c.args.self.now.nodes.entries
    c.args.self.now.keys.keys c.requires.arena c.args.node.now c.requires.fits
    (record { args = c.in_ok-args.args; head = c.erased-head.result })
    (args_read (erased_in c.args.self.now.nodes.entries) c.in_ok-args.args c.as_slice.result.now c.args.node.now.args
    c.in_ok-args.ensures.value c.as_slice.ensures.value) c.erased-head.ensures.value

pub put_erasure-requires-clause-canonical : goal.put_erasure-requires-clause-canonical
put_erasure-requires-clause-canonical c = erased_canonical c.args.self.now.types c.args.self.now.nodes.entries
    c.args.self.now.keys.keys c.requires.arena c.args.node.now c.requires.fits
    (record { args = c.in_ok-args.args; head = c.erased-head.result })
    (args_read (erased_in c.args.self.now.nodes.entries) c.in_ok-args.args c.as_slice.result.now c.args.node.now.args
    c.in_ok-args.ensures.value c.as_slice.ensures.value) c.erased-head.ensures.value

pub returns-clause-value : goal.returns-clause-value
returns-clause-value c = IfOk-weaker c.put_erasure.result (λ id. slice_get
    (keys_of c.put_erasure.new.self.nodes.entries) id.0 ≡ Some (record
    { args = c.in_ok-args.args; head = c.erased-head.result })) _
    (λ id stands. erased_at c.args.self.now.types c.args.self.now.nodes.entries c.args.self.now.keys.keys
    c.requires.arena c.args.node.now c.requires.fits (record {
      args = c.in_ok-args.args;
      head = c.erased-head.result;
    }) (args_read (erased_in
    c.args.self.now.nodes.entries) c.in_ok-args.args c.as_slice.result.now c.args.node.now.args c.in_ok-args.ensures.value c.as_slice.ensures.value) c.erased-head.ensures.value
    c.put_erasure.new.self.types c.put_erasure.new.self.nodes.entries c.put_erasure.new.self.keys.keys
    c.put_erasure.ensures.grows id.0 stands) c.put_erasure.ensures.value
