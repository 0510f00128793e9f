use Rattle.conv_terms.specs.Contraction.{AreContractions}
use Rattle.conv_terms.proofs.contraction.+contract.Given as goal

abbrev pub invariant-contract_all-loop-t : goal.invariant-contract_all-loop-t
invariant-contract_all-loop-t l = AreContractions l.n l.yielded l.done
