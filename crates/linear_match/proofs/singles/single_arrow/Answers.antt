use Rattle.std.proofs.Common.{sym, ap₂, ◌∙◌}
use Rattle.iso_normal.specs.declared.factor.Factor.TheVariants as factor
use Rattle.iso_normal.specs.declared.factor.Factor.TheVariants.{outs-Arr}
use Rattle.iso_normal.specs.declared.factor.Factor.TheOpen.{Arr}
use Rattle.linear_match.proofs.OneFactor.{atom_alone, many_factors, single}
use Rattle.linear_match.proofs.singles.single_arrow.Goals as goal

pub returns-then-factors-ne1-clause-none : goal.returns-then-factors-ne1-clause-none
returns-then-factors-ne1-clause-none c = λ e. many_factors c.args.factors.now c.if-factors-ne1.true

pub returns-in-Atom-clause-none : goal.returns-in-Atom-clause-none
returns-in-Atom-clause-none c = λ e. atom_alone c.args.factors.now c.in-Atom.field-0
    (single c.args.factors.now (factor.Atom c.in-Atom.field-0) c.index-factors-0.result c.if-factors-ne1.false
    (sym c.index-factors-0.is ∙ c.in-Atom.is))

pub returns-in-Arr-clause-found : goal.returns-in-Arr-clause-found
returns-in-Arr-clause-found c = (
  factor.Arr c.in-Arr.arguments c.in-Arr.results,
  single c.args.factors.now (factor.Arr c.in-Arr.arguments c.in-Arr.results) c.index-factors-0.result
      c.if-factors-ne1.false (sym c.index-factors-0.is ∙ c.in-Arr.is),
  outs-Arr c.in-Arr.arguments c.in-Arr.results
      ∙ ap₂ Arr (sym c.as_slice.ensures.value) (sym c.as_slice-in-Arr.ensures.value),
)
