use Rattle.std.proofs.Common.{◌≡◌, true, false, rules}
use Rattle.elab_env.specs.Table.{is_free}
use Rattle.elab_realizing.proofs.JoinTurns.{both_ok, free_joined, gone_joined, itself_joined}
use Rattle.elab_realizing.proofs.sharing.join_one.Goals as goal

pub returns-then-n-kept : goal.returns-then-n-kept
returns-then-n-kept c = record { joined = itself_joined c.args.kept.0 c.args.n.0 c.args.table.now c.if-n-kept.true }

pub returns-then-not-is_free : goal.returns-then-not-is_free
returns-then-not-is_free c =
    let gone : is_free c.args.table.now c.args.n.0 ≡ false = search rules in
    record { joined = gone_joined c.args.kept.0 c.args.n.0 c.args.table.now gone }

pub returns : goal.returns
returns c =
    let free : is_free c.args.table.now c.args.n.0 ≡ true = search rules in
    record { joined = both_ok c.join.result (λ e f. free_joined c.args.kept.0 c.args.n.0 c.args.table.now c.join.new.self free e f) c.join.ensures.names c.join.ensures.realizations }
