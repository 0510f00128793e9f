use Rattle.std.proofs.Common.{◌+◌, ◌≤◌, map, drop}
use Rattle.type_core.specs.Lists.{sum_of}
use Rattle.linear_match.specs.search.Needs.{needed}
use Rattle.linear_match.proofs.needs.+count_needed.Given as goal

abbrev pub invariant-count_all_needed-loop-part : goal.invariant-count_all_needed-loop-part
invariant-count_all_needed-loop-part l = l.count + sum_of (map (needed l.head) (drop l.part-index l.parts)) ≤ sum_of (map (needed l.head) l.parts)
