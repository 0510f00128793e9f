use Rattle.std.proofs.Common.{subst, sym, ◌∙◌, true≢false}
use Rattle.conv_terms.specs.Contraction.{AreAllProjections, AreContractions, IsContraction}
use Rattle.conv_terms.proofs.contraction.tuple.Goals as goal

pub returns-then-are_all_projections : goal.returns-then-are_all_projections
returns-then-are_all_projections c = record { value = λ n ts ks. let (m, two, are) = c.whole.ensures.value in IsContraction.surjective_pairing ts c.whole.result m two (subst (AreContractions n ts) are ks) }

pub returns : goal.returns
returns c = record { value = λ n ts ks. IsContraction.tup ts c.args.components ks (λ all. true≢false (sym (c.are_all_projections.ensures.value.1 (subst AreAllProjections (sym c.as_slice.ensures.value) all)) ∙ c.if-are_all_projections.false)) }
