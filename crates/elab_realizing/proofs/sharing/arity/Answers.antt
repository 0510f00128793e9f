use Rattle.std.proofs.Common.{◌≤◌, length, sym, ap, arith}
use Rattle.std.proofs.lemmas.Option.{slice_get_past}
use Rattle.elab_env.specs.Names.{arity_of}
use Rattle.elab_realizing.proofs.sharing.arity.Goals as goal

pub returns-else-name-len : goal.returns-else-name-len
returns-else-name-len c =
    let names = c.args.table.now.names in
    let past : length names ≤ c.args.name.0 = omega arith in
    record { value = sym (ap arity_of (slice_get_past names c.args.name.0 past)) }
