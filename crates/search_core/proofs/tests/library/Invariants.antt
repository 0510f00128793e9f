use Rattle.std.proofs.Common.{◌<◌, ◌≤◌, ◌^◌, length}
use Rattle.std.specs.List.{All}
use Rattle.type_core.specs.Schemes.{IsScheme}
use Rattle.type_core.specs.Size.{size_of}
use Rattle.type_core.specs.Types.{IsType}
use Rattle.search_core.proofs.tests.library.Given as goal

abbrev pub invariant-loop-one : goal.invariant-loop-one
invariant-loop-one l = All (λ member. IsScheme member.scheme) l.members × All (λ member. IsType member.scheme.body) l.members × All (λ member. size_of member.scheme.body < 2 ^ 32) l.members × (length l.members ≤ 1000)
