use Rattle.conv_terms.proofs.ShortNormals.{expanded_answer, expanded_refused}
use Rattle.conv_terms.proofs.short_normal.is_expanded_body.Goals as goal

pub returns-then-is_variable : goal.returns-then-is_variable
returns-then-is_variable c = record { value = λ n d. expanded_answer n c.args.depth _ _ _ _ _ c.is_variable.result _ d c.in-App.is c.get.ensures.value c.get-then-is_variable.ensures.value c.if-is_variable.true (c.is_variable.ensures.value n d) c.is_variable.ensures.is_level c.is_absent.ensures.value }

pub returns-else-is_variable : goal.returns-else-is_variable
returns-else-is_variable c = record { value = λ n d. expanded_refused n _ _ _ _ _ c.in-App.is c.get.ensures.value c.if-is_variable.false (c.is_variable.ensures.value n d) }
