use Rattle.std.proofs.Common.{is_some, refl, ap, ◌∙◌}
use Rattle.sig_elab.specs.Elaborators.{basis_of}
use Rattle.sig_elab.proofs.BasisTurns.{all_seen, declared_again, declared_before, declared_late, declared_newly, none_is, seen_more}
use Rattle.sig_elab.proofs.declarations.check_identifiers.Goals as goal
use Rattle.sig_elab.proofs.declarations.check_identifiers.Goals.{then-is_declared-via-then-is_declared, then-is_declared-via-else-is_declared+then-has}

pub loop-bind-init : goal.loop-bind-init
loop-bind-init c = record { checked = refl; seen = λ text. ap is_some (c.new-seen.ensures.empty text) }

pub returns-then-is_declared-clause-outcome : goal.returns-then-is_declared-clause-outcome
returns-then-is_declared-clause-outcome c = elim c.then-is_declared.branch [
  | then-is_declared-via-then-is_declared w ↦ declared_before _ (basis_of c.args.draft.now) _ _ _ _ c.text-id.result.now _ c.loop-bind-test.true c.bind-item.is c.text-id.ensures.value c.loop-bind.invariant.checked
      (none_is _ _ _ c.is_declared.ensures.value w.if-is_declared.true)
  | then-is_declared-via-else-is_declared+then-has w ↦ declared_again _ (basis_of c.args.draft.now) _ _ _ _ c.text-id.result.now _ c.loop-bind-test.true c.bind-item.is c.text-id.ensures.value c.loop-bind.invariant.checked
      (none_is _ _ _ (w.has.ensures.value ∙ c.loop-bind.invariant.seen c.text-id.result.now) w.if-has.true)
]

pub returns-then-has-2-clause-outcome : goal.returns-then-has-2-clause-outcome
returns-then-has-2-clause-outcome c =
    declared_late _ (basis_of c.args.draft.now) _ _ _ _ c.text-id.result.now _ c.loop-bind-test.true c.bind-item.is c.text-id.ensures.value c.loop-bind.invariant.checked
    (none_is _ _ _ c.is_declared.ensures.value c.if-is_declared.false) (none_is _ _ _ (c.has.ensures.value ∙ c.loop-bind.invariant.seen c.text-id.result.now) c.if-has.false)
    (none_is _ _ _ (c.has-in-loop-bind.ensures.value ∙ (c.args.draft.now.tracked).first_parts c.text-id.result.now) c.if-has-2.true)

pub loop-bind-preserved : goal.loop-bind-preserved
loop-bind-preserved c = record {
  checked =
      declared_newly _ (basis_of c.args.draft.now) _ _ _ _ c.text-id.result.now _ c.loop-bind-test.true c.bind-item.is c.text-id.ensures.value c.loop-bind.invariant.checked
      (none_is _ _ _ c.is_declared.ensures.value c.if-is_declared.false) (none_is _ _ _ (c.has.ensures.value ∙ c.loop-bind.invariant.seen c.text-id.result.now) c.if-has.false)
      (none_is _ _ _ (c.has-in-loop-bind.ensures.value ∙ (c.args.draft.now.tracked).first_parts c.text-id.result.now) c.if-has-2.false);
  seen = λ other. seen_more _ _ _ _ _ c.text-id.result.now other _ _ c.loop-bind-test.true c.bind-item.is c.text-id.ensures.value (c.loop-bind.invariant.seen other) (c.in_ok-insert.ensures.inserted other);
}

pub returns-clause-identifiers : goal.returns-clause-identifiers
returns-clause-identifiers c = λ id. all_seen _ _ _ id _ c.loop-bind-test.false (c.loop-bind.invariant.seen id)
