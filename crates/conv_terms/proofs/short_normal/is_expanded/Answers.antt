use Rattle.std.proofs.Common.{inl, refl}
use Rattle.conv_terms.proofs.ShortNormals.{expanded_answer, expanded_refused}
use Rattle.conv_terms.proofs.short_normal.is_expanded.Goals as goal

pub returns-then-is_variable : goal.returns-then-is_variable
returns-then-is_variable c = record { value = expanded_answer c.args.n _ c.args.function.now c.args.argument.now _ _ _ _ _ (inl c.from-level.ensures) refl refl refl c.if-is_variable.true (c.is_variable.ensures.value c.args.n (inl c.from-level.ensures)) c.is_variable.ensures.is_level c.is_absent.ensures.value }

pub returns-else-is_variable : goal.returns-else-is_variable
returns-else-is_variable c = record { value = expanded_refused c.args.n c.args.function.now c.args.argument.now _ _ _ refl refl c.if-is_variable.false (c.is_variable.ensures.value c.args.n (inl c.from-level.ensures)) }
