use Rattle.std.proofs.Common.{sym, subst}
use Rattle.conv_terms.specs.declared.term.Term.TheVariants as term
use Rattle.conv_terms.specs.Contraction.{AreContractions, IsContraction}
use Rattle.conv_terms.proofs.Contractions.{added, app_contracts, proj_contracts}
use Rattle.conv_terms.proofs.contraction.+contract.Goals as goal

pub contract_all-loop-t-init : goal.contract_all-loop-t-init
contract_all-loop-t-init t c = subst (AreContractions c.args.n _) (sym c.new-done.ensures.empty) AreContractions.none

pub contract_all-loop-t-preserved : goal.contract_all-loop-t-preserved
contract_all-loop-t-preserved t c = added c.args.n _ _ _ _ _ c.loop-t.invariant c.in_ok-contract_below.ensures.value c.in_ok-push.ensures.pushed

pub contract_below-returns-in-Var : goal.contract_below-returns-in-Var
contract_below-returns-in-Var t c = record { value = subst (λ u. IsContraction c.args.n u (term.Var c.in-Var.i)) (sym c.in-Var.is) (IsContraction.var c.in-Var.i) }

pub contract_below-returns-in_ok-argument-in-App-2 : goal.contract_below-returns-in_ok-argument-in-App-2
contract_below-returns-in_ok-argument-in-App-2 t c = record {
  value = app_contracts _ _ _ _ _ _ _ _ _ _ c.in-App.is c.into_inner-in-App.ensures.value c.into_inner-in-App-2.ensures.value c.in_ok-function-in-App.ensures.value c.in_ok-argument-in-App.ensures.value
      c.in_ok-function-in-App-2.ensures.value c.in_ok-argument-in-App-2.ensures.value;
}

pub contract_below-returns-in_ok-e-in-Proj-2 : goal.contract_below-returns-in_ok-e-in-Proj-2
contract_below-returns-in_ok-e-in-Proj-2 t c = record { value = proj_contracts _ _ _ _ _ _ _ _ c.in-Proj.is c.into_inner-in-Proj.ensures.value c.in_ok-e-in-Proj.ensures.value c.in_ok-e-in-Proj-2.ensures.value }
