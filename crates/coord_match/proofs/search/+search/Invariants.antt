use Rattle.std.proofs.Common.{◌≡◌, ◌+◌, ◌*◌, ◌∷◌}
use Rattle.coord_match.specs.search.Tasks.{goal_of, goals_of}
use Rattle.coord_match.proofs.Searched.{NoneBefore}
use Rattle.coord_match.proofs.Weights.{weight}
use Rattle.coord_match.proofs.search.+search.Given as goal

abbrev pub decreases-search : goal.decreases-search
decreases-search l = 2 * weight (goals_of l.tasks.now) + 1

abbrev pub decreases-try_place : goal.decreases-try_place
decreases-try_place l = 2 * weight (goal_of l.top.now ∷ goals_of l.tasks.now)

abbrev pub invariant-search-places : goal.invariant-search-places
invariant-search-places l =
    (l.tasks ≡ l.initial.tasks) × (l.bound ≡ l.fn.bound) × (l.word ≡ l.fn.word) × NoneBefore l.fn.bound (goal_of l.top) (goals_of l.initial.tasks) l.place
