-- One thing comes of a query.
use Rattle.std.proofs.Common.{◌≡◌, ℕ, ◌<◌, ◌≤◌, List, length, refl, arith}
use Rattle.std.specs.Prelude.{Result}
use Rattle.ty_parser.specs.Phrases.{Phrase}
use Rattle.type_core.specs.declared.library.Library.{Library}
use Rattle.type_core.specs.declared.ty.Scheme.{Scheme}
use Rattle.elab_types.specs.Stages.{Flaw}
use Rattle.elab_types.proofs.OneReading.{Lexing, OneTree, one_reading}
use Rattle.query_parser.specs.declared.refusal.QueryWhy.{QueryWhy}
use Rattle.query_parser.specs.Queries.{Asks, long, queries, short}

module _ (lexing : Lexing) (one_tree : OneTree Phrase) (library : Library) (query : List ℕ) where
  too_long_not : 4194304 < length query → length query ≤ 4194304 → ⊥
  too_long_not more less = omega (arith, more, less)

  pub one_answer : (a b : Result Scheme (Flaw QueryWhy)) → Asks library query a → Asks library query b → a ≡ b
  one_answer a b (long more) (long again) = refl
  one_answer a b (long more) (short less reads) = absurd (too_long_not more less)
  one_answer a b (short less reads) (long more) = absurd (too_long_not more less)
  one_answer a b (short less reads) (short again other) = one_reading (queries library) lexing one_tree query a b reads other
