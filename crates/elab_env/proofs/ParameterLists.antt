-- Lists of parameters: their length, and how they grow.
use Rattle.std.proofs.Common.{◌≡◌, ℕ, zero, suc, ◌+◌, ◌<◌, get_or, List, [], ◌∷◌, ◌++◌, length, refl, ap, ◌∙◌, arith}
use Rattle.type_core.specs.declared.ty.Ty.{Ty}
use Rattle.elab_env.specs.Parameters.{parameter, parameters, parameters_from}

pub length-parameters_from : (first count : ℕ) → length (parameters_from first count) ≡ count
length-parameters_from first zero = refl
length-parameters_from first (suc count) = ap suc (length-parameters_from (first + 1) count)

pub length-parameters : (arity : ℕ) (ts : List Ty) → ts ≡ parameters arity → length ts ≡ arity
length-parameters arity ts e = ap length e ∙ length-parameters_from 0 arity

parameters_from-more : (first count : ℕ) → parameters_from first (suc count) ≡ parameters_from first count ++ parameter (first + count) ∷ []
parameters_from-more first zero = ap (λ n. parameter n ∷ []) (let e : first ≡ first + 0 = omega arith in e)
parameters_from-more first (suc count) = ap (λ rest. parameter first ∷ rest) (parameters_from-more (first + 1) count ∙ ap (λ n. parameters_from (first + 1) count ++ parameter n ∷ []) (let e : first + 1 + count ≡ first + suc count = omega arith in e))

pub parameters-more : (n : ℕ) → parameters (n + 1) ≡ parameters n ++ parameter n ∷ []
parameters-more n = ap parameters (let e : n + 1 ≡ suc n = omega arith in e) ∙ parameters_from-more 0 n ∙ ap (λ k. parameters n ++ parameter k ∷ []) (let e : 0 + n ≡ n = omega arith in e)

parameters_from-at : (first count n : ℕ) (d : Ty) → n < count → get_or (parameters_from first count) n d ≡ parameter (first + n)
parameters_from-at first zero n d l = absurd (omega (arith, l))
parameters_from-at first (suc count) zero d l = ap parameter (let e : first ≡ first + 0 = omega arith in e)
parameters_from-at first (suc count) (suc n) d l = parameters_from-at (first + 1) count n d (omega (arith, l)) ∙ ap parameter (let e : first + 1 + n ≡ first + suc n = omega arith in e)

-- each of the parameters is one
pub parameters-at : (arity : ℕ) (ts : List Ty) (n : ℕ) (d : Ty) → n < length ts → ts ≡ parameters arity → get_or ts n d ≡ parameter n
parameters-at arity ts n d l e = ap (λ us. get_or us n d) e ∙ parameters_from-at 0 arity n d (omega (arith, l, length-parameters arity ts e)) ∙ ap parameter (let e : 0 + n ≡ n = omega arith in e)
