use Rattle.std.proofs.Common.{◌≡◌, ◌++◌, ◌+◌, ◌-◌}
use Rattle.std.specs.List.{filter}
use Rattle.elab_rules.specs.Copies.{free_among, numbers_from}
use Rattle.elab_rules.specs.States.{is_free}
use Rattle.elab_rules.specs.Views.{state_of}
use Rattle.elab_rules.proofs.own_names.OwnNames.among.Given as goal

abbrev pub invariant-loop-n : goal.invariant-loop-n
invariant-loop-n l = l.own.numbers.items ++ filter (is_free (state_of l.progress)) (numbers_from l.n ((l.first + l.count) - l.n)) ≡ free_among l.first l.count (state_of l.progress)
