use Rattle.std.proofs.Common.{true≢false, sym, ◌∙◌, arith}
use Rattle.std.proofs.lemmas.Bool.{lt-ltb}
use Rattle.sig_elab.proofs.KeptNumbers.{external_undescribed, initial_undescribed, kept_described, kept_undescribed, own_is_described}
use Rattle.sig_elab.proofs.keeping.is_kept.Goals as goal
use Rattle.sig_elab.proofs.keeping.is_kept.Goals.{then-n-lt-INITIAL, else-n-lt-INITIAL}

pub returns-then-name : goal.returns-then-name
returns-then-name c =
    let table = c.args.table.now in
    let left = kept_undescribed table c.args.n c.is_sound.ensures.sound.realizations c.requires.within in
    record {
      value = c.if-name.true ∙ elim c.if-n-lt-INITIAL.branch [
        | then-n-lt-INITIAL w ↦ left (initial_undescribed table.names c.args.n (omega (arith, w.if-n-lt-INITIAL.true)))
        | else-n-lt-INITIAL w ↦ left (external_undescribed table.names c.args.n w.name.result.now w.name.ensures.value (sym w.value-is ∙ c.if-name.true))
      ];
    }

pub returns-else-name : goal.returns-else-name
returns-else-name c =
    let table = c.args.table.now in
    record {
      value = c.is_free.ensures.value ∙ kept_described table c.args.n c.requires.within (elim c.if-n-lt-INITIAL.branch [
        | then-n-lt-INITIAL w ↦ absurd (true≢false (sym (lt-ltb c.args.n _ w.if-n-lt-INITIAL.true) ∙ sym w.value-is ∙ c.if-name.false))
        | else-n-lt-INITIAL w ↦ own_is_described table.names c.args.n w.name.result.now w.if-n-lt-INITIAL.false w.name.ensures.value (sym w.value-is ∙ c.if-name.false)
      ]);
    }
