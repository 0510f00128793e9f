-- There is one least word that succeeds, and one instance of it.
use Rattle.std.proofs.Common.{◌≡◌, ℕ, List, sym, ap, ◌∙◌}
use Rattle.type_core.specs.declared.names.TypeName.{TypeName}
use Rattle.type_core.specs.declared.ty.Scheme.{Scheme}
use Rattle.type_core.specs.declared.ty.Ty.{Ty}
use Rattle.type_core.specs.Schemes.{IsScheme}
use Rattle.type_core.specs.Substitution.{substituted}
use Rattle.type_core.specs.Types.{IsType}
use Rattle.iso_normal.proofs.WordsTell.{either_not_after}
use Rattle.linear_match.specs.Instances.{IsMatch}
use Rattle.linear_match.specs.LeastWord.{IsFirst}
use Rattle.linear_match.specs.Meetings.{bindings}
use Rattle.linear_match.proofs.Matches.{success_matches}
use Rattle.linear_match.proofs.Prefixes.{told_once}
use Rattle.std.proofs.Common.{subst}

pub first_matches : {names : List TypeName} {pattern : Scheme} {subject : Ty} {word : List ℕ} {by : List Ty} {body : Ty}
    → IsScheme pattern → IsType pattern.body → IsType subject → IsFirst names pattern subject word by body
    → IsMatch names pattern subject by
first_matches {names} {pattern} {subject} is p q f =
    subst (IsMatch names pattern subject) (sym f.bound) (success_matches is p q f.succeeds)

module _ {names : List TypeName} {pattern : Scheme} {subject : Ty} {v w : List ℕ} {by to : List Ty}
    {a b : Ty} (f : IsFirst names pattern subject v by a) (g : IsFirst names pattern subject w to b) where
  one_word : v ≡ w
  one_word = either_not_after (f.least w g.meetings g.succeeds) (g.least v f.meetings f.succeeds)

  one_list : by ≡ to
  one_list = f.bound ∙ ap (bindings pattern.vars) (told_once f.succeeds.splits g.succeeds.splits one_word) ∙ sym g.bound

  pub one_first : (v ≡ w) × (by ≡ to) × (a ≡ b)
  one_first = (one_word, one_list, f.filled ∙ ap (λ ts. substituted ts pattern.body) one_list ∙ sym g.filled)
