-- What is done with tasks, as goals.
use Rattle.std.proofs.Common.{◌≡◌, ℕ, zero, suc, ◌+◌, ◌*◌, ◌<◌, ◌≤◌, ◌^◌, Bool, true, false, List, [], ◌∷◌, ◌++◌, drop, drop_of_length-le, get_or, length, map, replicate, Some, None, slice_get, slice_set, sym, ap, ap₂, ◌∙◌, subst, arith}
use Rattle.std.specs.List.{All}
use Rattle.std.proofs.Math.ListN.{get_or-append}
use Rattle.std.proofs.Math.Seq.{get_or-append_seam}
use Rattle.std.proofs.lemmas.List.{drop_more, length-append, length-replicate, length-set, reverse-append}
use Rattle.std.proofs.lemmas.List.Elements.{All-append}
use Rattle.std.proofs.lemmas.Option.{slice_get-get_or}
use Rattle.type_core.specs.declared.coordinate.Coordinate.{Coordinate}
use Rattle.type_core.specs.Coordinates.{arguments_of, head_of}
use Rattle.coord_match.specs.declared.search.Task.{Task}
use Rattle.coord_match.specs.search.Bindings.{AreMatching, Bindings, met}
use Rattle.iso_normal.specs.Shapes.{nodes_of}
use Rattle.iso_normal.proofs.ReadWords.{nodes_more}
use Rattle.coord_match.specs.search.Tasks.{Filling, FillingAt, Goal, HasNone, IsBest, IsFree, IsSound, goal_of, goals_of}
use Rattle.coord_match.specs.search.Fingerprints.{fingerprint_of}
use Rattle.coord_match.proofs.Filling.{none_is_taken}
use Rattle.coord_match.proofs.Searched.{NoneBefore, best_at, best_past_end, best_then, mid_matching, none_at_all, none_at_next, none_past_end, none_then, none_where_apart, none_where_more, none_where_taken, none_where_unlike, nothing, then_goals}
use Rattle.coord_match.proofs.Swapped.{none_at_same}
use Rattle.coord_match.proofs.Weights.{weight}

-- the last task is the first goal
pub goals_pushed : (ts : List Task) (t : Task) → goals_of (ts ++ t ∷ []) ≡ goal_of t ∷ goals_of ts
goals_pushed ts t = ap (map goal_of) (reverse-append ts (t ∷ []))

pub goals_split : {ts : List Task} (rest : List Task) (t : Task) → ts ≡ rest ++ t ∷ [] → goals_of ts ≡ goal_of t ∷ goals_of rest
goals_split rest t e = ap goals_of e ∙ goals_pushed rest t

-- sound tasks
pub all_front : {A : Type 0} (P : A → Type 0) (xs : List A) (x : A) → All P (xs ++ x ∷ []) → All P xs
all_front P xs x h k d l = subst P (get_or-append xs (x ∷ []) d k l) (h k d (omega (arith, l, length-append xs (x ∷ []))))

pub all_last : {A : Type 0} (P : A → Type 0) (xs : List A) (x : A) → All P (xs ++ x ∷ []) → P x
all_last P xs x h = subst P (get_or-append_seam xs x [] x) (h (length xs) x (omega (arith, length-append xs (x ∷ []))))

one_of : {A : Type 0} (P : A → Type 0) (x : A) → P x → All P (x ∷ [])
one_of P x p zero d l = p
one_of P x p (suc k) d l = absurd (omega (arith, l))

pub all_more : {A : Type 0} (P : A → Type 0) (xs : List A) {ys : List A} (x : A) → ys ≡ xs ++ x ∷ [] → All P xs → P x → All P ys
all_more P xs x e h p = subst (All P) (sym e) (All-append P xs (x ∷ []) h (one_of P x p))

pub rest_sound : {ts : List Task} (rest : List Task) (t : Task) → ts ≡ rest ++ t ∷ [] → All IsSound ts → All IsSound rest
rest_sound rest t e h = all_front IsSound rest t (subst (All IsSound) e h)

pub top_sound : {ts : List Task} (rest : List Task) (t : Task) → ts ≡ rest ++ t ∷ [] → All IsSound ts → IsSound t
top_sound rest t e h = all_last IsSound rest t (subst (All IsSound) e h)

-- places can be written
pub some_nodes : (cs : List Coordinate) → length cs ≤ nodes_of cs
some_nodes [] = omega arith
some_nodes (c ∷ cs) = omega (arith, nodes_more c cs, some_nodes cs)

pub fewer_nodes : (cs : List Coordinate) (k : ℕ) (c : Coordinate) → slice_get cs k ≡ Some c → nodes_of (arguments_of c) ≤ nodes_of cs
fewer_nodes [] k c e = absurd (cc e)
fewer_nodes (d ∷ cs) zero c e = omega (arith, nodes_more d cs, ap (λ c. nodes_of (arguments_of c)) (here e))
  where
    here : Some d ≡ Some c → d ≡ c
    here e = cc e
fewer_nodes (d ∷ cs) (suc k) c e = omega (arith, nodes_more d cs, fewer_nodes cs k c e)

-- the end of a task
nothing_left : (t : Task) → length t.first.now ≤ t.at → (goal_of t).left ≡ []
nothing_left t l = drop_of_length-le t.first.now l

first_of : (cs : List Coordinate) (i : ℕ) → i < length cs → (a : Coordinate) × (drop i cs ≡ a ∷ drop (i + 1) cs)
first_of [] i l = absurd (omega (arith, l))
first_of (c ∷ cs) i l = (get_or (c ∷ cs) i c, drop_more (c ∷ cs) i c l)

module _ (s : Bindings) {ts : List Task} (rest : List Task) (t : Task) (e : ts ≡ rest ++ t ∷ []) where
  pub best_popped : {now : Bindings} {w : List ℕ} → length t.first.now ≤ t.at → IsBest s now (Filling (goals_of rest)) w → IsBest s now (Filling (goals_of ts)) w
  best_popped {now} {w} l h = subst (λ gs. IsBest s now (Filling gs) w) (sym (goals_split rest t e)) (best_past_end (nothing_left t l) h)

  pub none_popped : length t.first.now ≤ t.at → HasNone s (Filling (goals_of rest)) → HasNone s (Filling (goals_of ts))
  none_popped l h = subst (λ gs. HasNone s (Filling gs)) (sym (goals_split rest t e)) (none_past_end (nothing_left t l) h)

  -- all places
  pub best_found : {mid : List Task} {before now : Bindings} {w : List ℕ} (k : ℕ) → t.at < length t.first.now → mid ≡ rest → before ≡ s → NoneBefore s (goal_of t) (goals_of rest) k
      → IsBest before now (FillingAt (goal_of t) (goals_of mid) k) w → IsBest s now (Filling (goals_of ts)) (k ∷ w)
  best_found {mid} {before} {now} {w} k l same_tasks same_bound none h =
      let next = first_of t.first.now t.at l in
      let here = subst (λ x. IsBest x now (FillingAt (goal_of t) (goals_of rest) k) w) same_bound (subst (λ ts. IsBest before now (FillingAt (goal_of t) (goals_of ts) k) w) same_tasks h) in
      subst (λ gs. IsBest s now (Filling gs) (k ∷ w)) (sym (goals_split rest t e)) (best_at s (goal_of t) (goals_of rest) next.0 _ next.1 k none here)

  pub none_found : (k : ℕ) → t.at < length t.first.now → length t.second.now ≤ k → NoneBefore s (goal_of t) (goals_of rest) k → HasNone s (Filling (goals_of ts))
  none_found k l past none =
      let next = first_of t.first.now t.at l in
      subst (λ gs. HasNone s (Filling gs)) (sym (goals_split rest t e)) (none_at_all s (goal_of t) (goals_of rest) next.0 _ next.1 (λ j m. none j (omega (arith, m, past))))

-- a place like one that was tried
pub none_if_tried : (s : Bindings) (rest : List Task) (t : Task) → t.at < length t.first.now → (k : ℕ) → (j : ℕ) × (j < k) × IsFree t.taken.items j × (slice_get t.second.now j ≡ slice_get t.second.now k)
    → NoneBefore s (goal_of t) (goals_of rest) k → NoneBefore s (goal_of t) (goals_of rest) (k + 1)
none_if_tried s rest t l k tried none =
    let next = first_of t.first.now t.at l in
    none_at_next s (goal_of t) (goals_of rest) k none (none_at_same s (goal_of t) (goals_of rest) next.0 _ next.1 k tried.0 tried.2 tried.3 (none tried.0 tried.1))

pub weight_popped : {ts : List Task} (rest : List Task) (t : Task) → ts ≡ rest ++ t ∷ [] → weight (goals_of ts) ≡ weight (goal_of t ∷ goals_of rest)
weight_popped rest t e = ap weight (goals_split rest t e)

pub best_nothing : {s : Bindings} {ts : List Task} → AreMatching s → ts ≡ [] → IsBest s s (Filling (goals_of ts)) []
best_nothing {s} m e = subst (λ ts. IsBest s s (Filling (goals_of ts)) []) (sym e) (nothing m)

-- one place
pub mark_at : (top : Task) (k : ℕ) (d y : Bool) (marks : List Bool) → IsSound top → k < length top.second.now → marks ≡ top.taken.items → get_or marks k d ≡ y → slice_get top.taken.items k ≡ Some y
mark_at top k d y marks sound within same e = slice_get-get_or top.taken.items k d (omega (arith, within, sound.marks)) ∙ ap (λ ms. Some (get_or ms k d)) (sym same) ∙ ap Some e

pub none_if_taken : (s : Bindings) (top : Task) (ts : List Task) → top.at < length top.first.now → (k : ℕ) → slice_get top.taken.items k ≡ Some true → HasNone s (FillingAt (goal_of top) (goals_of ts) k)
none_if_taken s top ts l k e = let next = first_of top.first.now top.at l in none_where_taken s (goal_of top) (goals_of ts) next.0 _ next.1 k e

pub goal_is : (g : Goal) {left others : List Coordinate} {taken : List Bool} → g.left ≡ left → g.others ≡ others → g.taken ≡ taken → g ≡ record { left = left; others = others; taken = taken }
goal_is g e f h = λ i. record { left = e i; others = f i; taken = h i }

module _ (s : Bindings) (m : AreMatching s) (top : Task) (ts : List Task) (more : top.at < length top.first.now) (a : Coordinate) (a_is : a ≡ get_or top.first.now top.at a)
    (k : ℕ) (within : k < length top.second.now) (b : Coordinate) (b_is : b ≡ get_or top.second.now k b) where
  next : (goal_of top).left ≡ a ∷ drop (top.at + 1) top.first.now
  next = drop_more top.first.now top.at a more ∙ ap (λ x. x ∷ drop (top.at + 1) top.first.now) (sym a_is)

  pub stands : slice_get top.second.now k ≡ Some b
  stands = slice_get-get_or top.second.now k b within ∙ ap Some (sym b_is)

  pub none_if_more : (length (arguments_of a) ≡ length (arguments_of b) → ⊥) → HasNone s (FillingAt (goal_of top) (goals_of ts) k)
  none_if_more d = none_where_more s m (goal_of top) (goals_of ts) a _ next k b stands d

  pub none_if_unlike : (fingerprint_of a ≡ fingerprint_of b → ⊥) → HasNone s (FillingAt (goal_of top) (goals_of ts) k)
  none_if_unlike d = none_where_unlike s m (goal_of top) (goals_of ts) a _ next k b stands d

  pub none_if_apart : met (head_of a) (head_of b) s ≡ None → HasNone s (FillingAt (goal_of top) (goals_of ts) k)
  none_if_apart e = none_where_apart s m (goal_of top) (goals_of ts) a _ next k b stands e

  module _ (mid : Bindings) (meets : met (head_of a) (head_of b) s ≡ Some mid) where
    pub matching_then : AreMatching mid
    matching_then = mid_matching s m (goal_of top) (goals_of ts) a _ next k b stands mid meets (replicate (length (arguments_of b)) false) (none_is_taken (length (arguments_of b)))

    module _ {all : List Task} (n : List Task) (rest inner : Task) (e : n ≡ ts ++ rest ∷ []) (f : all ≡ n ++ inner ∷ [])
        (rest_left : (goal_of rest).left ≡ drop (top.at + 1) top.first.now) (rest_others : rest.second.now ≡ top.second.now) (rest_taken : rest.taken.items ≡ slice_set top.taken.items k true)
        (inner_left : (goal_of inner).left ≡ arguments_of a) (inner_others : inner.second.now ≡ arguments_of b) (inner_taken : inner.taken.items ≡ replicate (length (arguments_of b)) false) where
      goals_then : goals_of all ≡ then_goals s m (goal_of top) (goals_of ts) a (drop (top.at + 1) top.first.now) next k b stands mid meets (replicate (length (arguments_of b)) false) (none_is_taken (length (arguments_of b)))
      goals_then = goals_split n inner f ∙ ap (λ gs. goal_of inner ∷ gs) (goals_split ts rest e)
          ∙ ap₂ (λ g h. g ∷ h ∷ goals_of ts) (goal_is (goal_of inner) inner_left inner_others inner_taken) (goal_is (goal_of rest) rest_left rest_others rest_taken)

      pub best_if : slice_get top.taken.items k ≡ Some false → length (arguments_of a) ≡ length (arguments_of b) → {now : Bindings} {w : List ℕ} → IsBest mid now (Filling (goals_of all)) w → IsBest s now (FillingAt (goal_of top) (goals_of ts) k) w
      best_if free as_many {now} {w} h =
          best_then s m (goal_of top) (goals_of ts) a _ next k b stands mid meets (replicate (length (arguments_of b)) false) (none_is_taken (length (arguments_of b))) free as_many
          (subst (λ gs. IsBest mid now (Filling gs) w) goals_then h)

      pub none_if : HasNone mid (Filling (goals_of all)) → HasNone s (FillingAt (goal_of top) (goals_of ts) k)
      none_if h =
          none_then s m (goal_of top) (goals_of ts) a _ next k b stands mid meets (replicate (length (arguments_of b)) false) (none_is_taken (length (arguments_of b)))
          (subst (λ gs. HasNone mid (Filling gs)) goals_then h)

      pub weight_then : 2 * weight (goals_of all) + 1 < 2 * weight (goal_of top ∷ goals_of ts)
      weight_then = omega (arith, ap weight goals_then, ap nodes_of next, nodes_more a (drop (top.at + 1) top.first.now))

      pub sound_then : IsSound top → All IsSound ts → rest.at ≤ length rest.first.now → inner.at ≤ length inner.first.now → All IsSound all
      sound_then sound others in_rest in_inner =
          all_more IsSound n inner f
          (all_more IsSound ts rest e others (record {
            within = in_rest;
            marks = ap length rest_taken ∙ length-set top.taken.items k true ∙ sound.marks ∙ ap length (sym rest_others);
            few = subst (λ cs. nodes_of cs < 2 ^ 32) (sym rest_others) sound.few;
          }))
          (record {
            within = in_inner;
            marks = ap length inner_taken ∙ length-replicate (length (arguments_of b)) false ∙ ap length (sym inner_others);
            few = subst (λ cs. nodes_of cs < 2 ^ 32) (sym inner_others) (omega (arith, sound.few, fewer_nodes top.second.now k b stands));
          })
