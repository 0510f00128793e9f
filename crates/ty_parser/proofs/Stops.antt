-- A list of sorts is a phrase, stops at one place, or is too deep at one place, and no two of these.
use Rattle.std.proofs.Common.{◌≡◌, ℕ, ◌+◌, ◌<◌, ◌≤◌, List, ◌++◌, length, take, drop, ap, sym, ◌∙◌, subst, arith}
use Rattle.std.proofs.lemmas.List.{take-append-drop, take-take, append_assoc}
use Rattle.std.proofs.lemmas.Option.{slice_get_within}
use Rattle.ty_parser.specs.declared.sort.Sort.{Sort}
use Rattle.ty_parser.specs.Phrases.{Begins, Reaches, StopsAt, TooDeepAt, IsShallow}

module _ {Tree : Type 0} (phrase : List Sort → Tree → Type 0) where
  -- what begins a phrase, its fronts begin too
  front_begins : (ss us : List Sort) → Begins phrase (ss ++ us) → Begins phrase ss
  front_begins ss us (more, e, d) = (us ++ more, e, subst (λ (xs : List Sort). phrase xs e) (append_assoc ss us more) d)

  shorter_begins : (ss : List Sort) (j k : ℕ) → j ≤ k → Begins phrase (take k ss) → Begins phrase (take j ss)
  shorter_begins ss j k le front =
      let rest = drop j (take k ss) in
      let split : take k ss ≡ take j ss ++ rest = sym (take-append-drop j (take k ss)) ∙ ap (λ xs. xs ++ rest) (take-take j k ss le) in
      front_begins (take j ss) rest (subst (λ (xs : List Sort). Begins phrase xs) split front)

module _ {Tree : Type 0} (phrase : List Sort → Tree → Type 0) (ss : List Sort) where
  -- no further front begins a phrase
  reaches_most : (j k : ℕ) → Reaches phrase ss j → k ≤ length ss → Begins phrase (take k ss) → j < k → ⊥
  reaches_most j k at_j le front lt = at_j.next (omega (arith, lt, le)) (shorter_begins phrase ss (j + 1) k (omega (arith, lt)) front)

  pub one_reach : (j k : ℕ) → Reaches phrase ss j → Reaches phrase ss k → j ≡ k
  one_reach j k at_j at_k =
      let before : j < k → ⊥ = reaches_most j k at_j at_k.within at_k.front in
      let after : k < j → ⊥ = reaches_most k j at_k at_j.within at_j.front in
      omega (arith, before, after)

  pub one_stop : (j k : ℕ) → StopsAt phrase ss j → StopsAt phrase ss k → j ≡ k
  one_stop j k at_j at_k = one_reach j k at_j.reaches at_k.reaches

  pub deep_within : (outside k : ℕ) → TooDeepAt phrase outside ss k → k < length ss
  deep_within outside k deep = slice_get_within ss k deep.sort deep.there

  -- a token that is too deep stands among those that begin a phrase
  pub deep_reached : (outside j k : ℕ) → Reaches phrase ss j → TooDeepAt phrase outside ss k → k < j
  deep_reached outside j k at_j deep =
      let within = deep_within outside k deep in
      let past : j < k + 1 → ⊥ = reaches_most j (k + 1) at_j (omega (arith, within)) deep.allowed in
      omega (arith, past)

  -- the first token that is too deep
  pub one_depth : (outside j k : ℕ) → TooDeepAt phrase outside ss j → IsShallow phrase outside ss j → TooDeepAt phrase outside ss k → IsShallow phrase outside ss k → j ≡ k
  one_depth outside j k at_j before_j at_k before_k =
      let before : j < k → ⊥ = λ lt. before_k j lt at_j in
      let after : k < j → ⊥ = λ lt. before_j k lt at_k in
      omega (arith, before, after)

  -- where it is reached, no token is too deep before
  pub no_depth : (outside j k : ℕ) → Reaches phrase ss j → IsShallow phrase outside ss j → TooDeepAt phrase outside ss k → ⊥
  no_depth outside j k at_j shallow deep = shallow k (deep_reached outside j k at_j deep) deep
