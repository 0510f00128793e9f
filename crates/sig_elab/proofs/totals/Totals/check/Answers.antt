use Rattle.sig_elab.proofs.UnitTotals.{too_heavy, within_limits}
use Rattle.sig_elab.proofs.totals.Totals.check.Goals as goal

pub returns-then-saturating_add-gt-MAX_WEIGHT : goal.returns-then-saturating_add-gt-MAX_WEIGHT
returns-then-saturating_add-gt-MAX_WEIGHT c = record {
  outcome = λ basis same are.
      too_heavy c.args.self c.args.progress.now basis c.args.token c.saturating_add.result c.is_sound.ensures.sound c.requires.tracked same are
      c.if-self-gt-MAX_MEMBERS.false c.saturating_add.ensures c.if-saturating_add-gt-MAX_WEIGHT.true;
}

pub returns : goal.returns
returns c = record {
  outcome = λ basis same are.
      within_limits c.args.self c.args.progress.now basis c.args.token c.saturating_add.result c.is_sound.ensures.sound c.requires.tracked same are
      c.if-self-gt-MAX_MEMBERS.false c.saturating_add.ensures c.if-saturating_add-gt-MAX_WEIGHT.false c.if-self-gt-MAX_NORMAL_SUM.false;
}
