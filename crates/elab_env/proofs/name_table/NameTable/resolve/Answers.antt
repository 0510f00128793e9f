use Rattle.std.proofs.Common.{◌≡◌, sym, subst}
use Rattle.std.proofs.lemmas.Result.{IfOk-weaker}
use Rattle.elab_env.specs.Realizations.{resolved}
use Rattle.elab_env.specs.Sound.{IsResolved}
use Rattle.elab_env.proofs.Resolved.{resolved_is_resolved}
use Rattle.elab_env.proofs.name_table.NameTable.resolve.Goals as goal

pub returns : goal.returns
returns c =
    let rs = c.args.self.now.realizations in
    record {
      value = c.resolve.ensures.value;
      resolved = IfOk-weaker c.resolve.result (λ r. r ≡ resolved rs c.args.t.now) (IsResolved rs)
          (λ r e. subst (IsResolved rs) (sym e) (resolved_is_resolved rs c.args.t.now c.is_sound.ensures.sound.settled)) c.resolve.ensures.value;
    }
