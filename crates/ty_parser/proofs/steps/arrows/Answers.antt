use Rattle.std.proofs.Common.{sym, ap, ◌∙◌}
use Rattle.std.proofs.lemmas.Bool.{false≢true}
use Rattle.ty_parser.specs.declared.tree.TyExp.TheVariants as ty
use Rattle.sig_base.proofs.Stacks.{before_last-all}
use Rattle.ty_parser.proofs.Pieces.{of_one, of_more}
use Rattle.ty_parser.proofs.steps.arrows.Goals as goal

pub returns-then-has_none-clause-ty : goal.returns-then-has_none-clause-ty
returns-then-has_none-clause-ty c = of_one ty.Arrows _ _ (c.has_none.ensures.value.0 c.if-has_none.true)

pub returns-then-has_none-clause-rest : goal.returns-then-has_none-clause-rest
returns-then-has_none-clause-rest c = sym (before_last-all _ _ (c.has_none.ensures.value.0 c.if-has_none.true))

pub returns-clause-ty : goal.returns-clause-ty
returns-clause-ty c = ap ty.Arrows (c.in_ok-sides.ensures.taken ∙ c.in_ok-all.ensures.last) ∙ sym (of_more ty.Arrows _ _ (λ none. false≢true (sym c.if-has_none.false ∙ c.has_none.ensures.value.1 none)))
