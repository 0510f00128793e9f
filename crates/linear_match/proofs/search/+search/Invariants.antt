use Rattle.std.proofs.Common.{◌≡◌, ◌+◌, ◌-◌, ◌*◌, length}
use Rattle.linear_match.specs.search.Bindings.{meetings_of}
use Rattle.linear_match.specs.search.Cutting.{NoneBefore}
use Rattle.linear_match.specs.search.Tasks.{DealingFrom, IsSameDealing}
use Rattle.linear_match.proofs.Weights.{weigh_dealing, weigh_sorting, weigh_task, weigh_tasks}
use Rattle.linear_match.proofs.search.+search.Given as goal

abbrev pub decreases-search : goal.decreases-search
decreases-search l = 8 * weigh_tasks l.tasks.now + 3

abbrev pub decreases-match_task : goal.decreases-match_task
decreases-match_task l = 8 * (weigh_task l.top.now + weigh_tasks l.tasks.now) + 2

abbrev pub decreases-match_variable : goal.decreases-match_variable
decreases-match_variable l = 8 * (weigh_task l.top.now + weigh_tasks l.tasks.now) + 1

abbrev pub decreases-match_arrow : goal.decreases-match_arrow
decreases-match_arrow l = 8 * (weigh_task l.top.now + weigh_tasks l.tasks.now) + 1

abbrev pub decreases-match_atom : goal.decreases-match_atom
decreases-match_atom l = 8 * (weigh_task l.top.now + weigh_tasks l.tasks.now) + 1

abbrev pub decreases-match_both : goal.decreases-match_both
decreases-match_both l = 8 * (weigh_task l.left + (weigh_task l.right + weigh_tasks l.tasks.now)) + 4

abbrev pub decreases-deal : goal.decreases-deal
decreases-deal l = 8 * (weigh_dealing l.dealing.now + weigh_tasks l.tasks.now) + 4 *
    (length l.dealing.now.factors.now - l.at) + 6

abbrev pub decreases-deal_next : goal.decreases-deal_next
decreases-deal_next l = 8 * (weigh_dealing l.dealing.now + weigh_tasks l.tasks.now) + 4 *
    (length l.dealing.now.factors.now - l.at) + 5

abbrev pub decreases-match_pieces : goal.decreases-match_pieces
decreases-match_pieces l = 8 * (weigh_dealing l.dealing.now + weigh_tasks l.tasks.now) + 5

abbrev pub decreases-sort : goal.decreases-sort
decreases-sort l = 8 * (weigh_sorting l.sorting.now + weigh_tasks l.tasks.now) + 4 *
    (length l.sorting.now.arguments.now - l.at) + 6

abbrev pub decreases-send_next : goal.decreases-send_next
decreases-send_next l = 8 * (weigh_sorting l.sorting.now + weigh_tasks l.tasks.now) + 4 *
    (length l.sorting.now.arguments.now - l.at) + 5

abbrev pub decreases-keep_next : goal.decreases-keep_next
decreases-keep_next l = 8 * (weigh_sorting l.sorting.now + weigh_tasks l.tasks.now) + 4 *
    (length l.sorting.now.arguments.now - l.at) + 5

abbrev pub invariant-deal-letters : goal.invariant-deal-letters
invariant-deal-letters l = record {
  tasks : l.tasks ≡ l.fn.tasks;
  met : l.met ≡ l.fn.met;
  word : l.word ≡ l.fn.word;
  dealing : IsSameDealing l.dealing l.fn.dealing;
  none : NoneBefore l.fn.names (meetings_of l.fn.met) (DealingFrom l.fn.dealing l.fn.at l.fn.tasks) l.letter;
}
