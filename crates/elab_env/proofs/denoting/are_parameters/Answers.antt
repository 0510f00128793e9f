use Rattle.std.proofs.Common.{◌≡◌, refl, sym, ap, ap₂, ◌∙◌, ◌++◌, ◌∷◌, [], arith}
use Rattle.std.proofs.lemmas.Bool.{false≢true}
use Rattle.std.proofs.lemmas.List.{take_all, take_more}
use Rattle.elab_env.specs.Parameters.{parameter, parameters}
use Rattle.elab_env.proofs.ParameterLists.{length-parameters, parameters-at, parameters-more}
use Rattle.elab_env.proofs.denoting.are_parameters.Goals as goal

pub returns-then-arguments-arity : goal.returns-then-arguments-arity
returns-then-arguments-arity c = record { value = (λ e. absurd (false≢true e), λ e. absurd (c.if-arguments-arity.true (length-parameters c.args.arity c.args.arguments.now e))) }

pub returns-then-not-is_parameter : goal.returns-then-not-is_parameter
returns-then-not-is_parameter c = record { value = (λ e. absurd (false≢true e), λ e. sym c.if-not-is_parameter.true ∙ c.is_parameter.ensures.value.1 (c.index-arguments-i.is ∙ parameters-at c.args.arity c.args.arguments.now c.loop-i.i c.index-arguments-i.result c.loop-i-test.true e)) }

pub loop-i-preserved : goal.loop-i-preserved
loop-i-preserved c =
    let here : c.index-arguments-i.result ≡ parameter c.loop-i.i = c.is_parameter.ensures.value.0 c.if-not-is_parameter.false in
    take_more c.args.arguments.now c.loop-i.i c.index-arguments-i.result c.loop-i-test.true
    ∙ ap₂ (λ ts t. ts ++ t ∷ []) c.loop-i.invariant (sym c.index-arguments-i.is ∙ here)
    ∙ sym (parameters-more c.loop-i.i)

pub returns : goal.returns
returns c =
    let n : c.loop-i.i ≡ c.args.arity = omega (arith, c.loop-i.auto.i-end, c.loop-i-test.false, c.if-arguments-arity.false) in
    record { value = (λ e. sym (take_all c.loop-i.i c.args.arguments.now c.loop-i-test.false) ∙ c.loop-i.invariant ∙ ap parameters n, λ e. refl) }
