use Rattle.std.proofs.Common.{◌≡◌, ◌+◌, ◌-◌, ◌≤◌, min, length, suc, sym, ◌∙◌, arith}
use Rattle.elab_rules.specs.States.{is_free}
use Rattle.elab_rules.specs.Views.{state_of}
use Rattle.elab_rules.proofs.FreeNames.{ended, found, passed}
use Rattle.elab_rules.proofs.Gone.{free_is}
use Rattle.elab_rules.proofs.own_names.OwnNames.among.Goals as goal

pub loop-n-preserved-then-not-is_free : goal.loop-n-preserved-then-not-is_free
loop-n-preserved-then-not-is_free c =
    let p = c.args.progress.now in
    let n = c.loop-n.n in
    let end = c.args.first + c.args.count in
    let more : end - n ≡ suc (end - (n + 1)) = omega (arith, c.loop-n-test.true, c.saturating_add-n-end.ensures) in
    passed (is_free (state_of p)) _ _ n _ _ more (free_is p n ∙ sym c.is_free.ensures.value ∙ c.if-not-is_free.true) c.loop-n.invariant

pub loop-n-preserved : goal.loop-n-preserved
loop-n-preserved c =
    let p = c.args.progress.now in
    let n = c.loop-n.n in
    let end = c.args.first + c.args.count in
    let more : end - n ≡ suc (end - (n + 1)) = omega (arith, c.loop-n-test.true, c.saturating_add-n-end.ensures) in
    found (is_free (state_of p)) _ _ _ n _ _ more (free_is p n ∙ sym c.is_free.ensures.value ∙ c.if-not-is_free.false) c.in_ok-own.ensures.pushed c.loop-n.invariant

pub returns : goal.returns
returns c =
    let p = c.args.progress.now in
    let n = c.loop-n.n in
    let end = c.args.first + c.args.count in
    let numbered : length p.table.names ≤ 4294967295 = omega (arith, c.is_sound.ensures.sound.numbered) in
    let past : min end 4294967295 ≤ n = omega (arith, c.loop-n-test.false, c.saturating_add-n-end.ensures) in
    record { value = ended (state_of p) _ _ n end 4294967295 numbered past c.loop-n.invariant }
