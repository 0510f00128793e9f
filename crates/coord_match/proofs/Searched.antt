-- From what the search finds for a place to what it finds for all.
use Rattle.std.proofs.Common.{◌≡◌, ℕ, zero, suc, ◌+◌, ◌%◌, ◌<◌, ◌⊎◌, inl, inr, Bool, true, false, true≢false, List, [], ◌∷◌, length, replicate, Option, Some, None, slice_get, slice_set, refl, sym, ap, ap₂, ◌∙◌, subst, arith}
use Rattle.std.proofs.lemmas.Option.{slice_get_within}
use Rattle.type_core.specs.declared.coordinate.Coordinate.{Coordinate}
use Rattle.type_core.specs.declared.ty.Ty.{Ty}
use Rattle.type_core.specs.Coordinates.{arguments_of, head_of}
use Rattle.type_core.specs.Renaming.{Renaming, renamed}
use Rattle.iso_normal.proofs.Permutations.{some_injective}
use Rattle.coord_match.specs.search.Bindings.{AreMatching, Allows, Bindings, met}
use Rattle.iso_normal.specs.Consistency.{Turns}
use Rattle.iso_normal.specs.WordOrder.{IsNotAfter, ends, less, same}
use Rattle.coord_match.specs.search.Tasks.{Filling, FillingAt, Fills, Goal, HasNone, IsBest, IsFree, filled}
use Rattle.coord_match.proofs.Meeting.{Narrows, Outcome, met_right, narrowed, refused}
use Rattle.coord_match.specs.search.Fingerprints.{mixed, fingerprint_of}
use Rattle.coord_match.proofs.KeptFingerprints.{fingerprint_opened, fingerprint_turned, sum_filled}
use Rattle.coord_match.proofs.Filling.{AllFree, Step, none_is_taken, past_end, step, stepped, with_end}

-- nothing is left
pub nothing : {s : Bindings} → AreMatching s → IsBest s s (Filling []) []
nothing m = record { matching = m; narrower = λ r a. a; fills = filled; least = λ r a v f. ends v }

pub best_past_end : {s now : Bindings} {goal : Goal} {goals : List Goal} {w : List ℕ} → goal.left ≡ [] → IsBest s now (Filling goals) w → IsBest s now (Filling (goal ∷ goals)) w
best_past_end e b = record { matching = b.matching; narrower = b.narrower; fills = with_end e b.fills; least = λ r a v f. b.least r a v (past_end e f) }

pub none_past_end : {s : Bindings} {goal : Goal} {goals : List Goal} → goal.left ≡ [] → HasNone s (Filling goals) → HasNone s (Filling (goal ∷ goals))
none_past_end e h r a w f = h r a w (past_end e f)

-- a word that begins with a place gives the next coordinate this place
record StepAt (Heads : Ty → Ty → Type 0) (a : Coordinate) (c : List Coordinate) (goal : Goal) (goals : List Goal) (k : ℕ) (b : Coordinate) (rest : List ℕ) : Type 0 where
  free : IsFree goal.taken k
  as_many : length (arguments_of a) ≡ length (arguments_of b)
  heads : Heads (head_of a) (head_of b)
  fills : (fresh : List Bool) → AllFree fresh (length (arguments_of b))
      → Fills Heads (record { left = arguments_of a; others = arguments_of b; taken = fresh } ∷ record { left = c; others = goal.others; taken = slice_set goal.taken k true } ∷ goals) rest

module _ {Heads : Ty → Ty → Type 0} {goal : Goal} {goals : List Goal} (a : Coordinate) (c : List Coordinate) where
  at_same : {k : ℕ} {b : Coordinate} {rest : List ℕ} (j : ℕ) (d : Coordinate) (last : List ℕ) → j ≡ k → d ≡ b → last ≡ rest → StepAt Heads a c goal goals j d last → StepAt Heads a c goal goals k b rest
  at_same {k} {b} {rest} j d last e f g st =
      subst (λ x. StepAt Heads a c goal goals x b rest) e (subst (λ x. StepAt Heads a c goal goals j x rest) f (subst (λ x. StepAt Heads a c goal goals j d x) g st))

  at_place : {k : ℕ} {rest : List ℕ} (b : Coordinate) → slice_get goal.others k ≡ Some b → Step Heads a c goal goals (k ∷ rest) → StepAt Heads a c goal goals k b rest
  at_place {k} {rest} b stands st =
      let same_place : st.place ≡ k = sym (cc st.is) in
      let same_rest : st.rest ≡ rest = sym (cc st.is) in
      let same_partner : st.partner ≡ b = some_injective st.partner b (sym st.stands ∙ ap (slice_get goal.others) same_place ∙ stands) in
      at_same st.place st.partner st.rest same_place same_partner same_rest (record { free = st.free; as_many = st.as_many; heads = st.heads; fills = st.fills })

narrows_of : {s mid : Bindings} {P : Renaming → Type 0} {o : Option Bindings} → Outcome s P o → o ≡ Some mid → Narrows s P mid
narrows_of (refused f) e = absurd (cc e)
narrows_of {s} {P} (narrowed {now} n) e = subst (Narrows s P) (some_injective now _ e) n

refusal_of : {s : Bindings} {P : Renaming → Type 0} {o : Option Bindings} → Outcome s P o → o ≡ None → (r : Renaming) → Allows s r → P r → ⊥
refusal_of (refused f) e = f
refusal_of (narrowed n) e = absurd (cc e)

pub none_where_taken : (s : Bindings) (goal : Goal) (goals : List Goal) (a : Coordinate) (c : List Coordinate) → goal.left ≡ a ∷ c → (k : ℕ) → slice_get goal.taken k ≡ Some true → HasNone s (FillingAt goal goals k)
none_where_taken s goal goals a c next k e r al w f =
    let st = step a c next f in
    let here : st.place ≡ k = sym (cc st.is) in
    true≢false (some_injective true false (sym e ∙ ap (slice_get goal.taken) (sym here) ∙ st.free))

-- the next coordinate at one place
module _ (s : Bindings) (matching : AreMatching s) (goal : Goal) (goals : List Goal) (a : Coordinate) (c : List Coordinate) (next : goal.left ≡ a ∷ c) (k : ℕ) (b : Coordinate) (stands : slice_get goal.others k ≡ Some b) where
  step_at : {Heads : Ty → Ty → Type 0} {w : List ℕ} → Fills Heads (goal ∷ goals) (k ∷ w) → StepAt Heads a c goal goals k b w
  step_at f = at_place a c b stands (step a c next f)

  pub none_where_more : (length (arguments_of a) ≡ length (arguments_of b) → ⊥) → HasNone s (FillingAt goal goals k)
  none_where_more d r al w f = d (step_at f).as_many

  pub none_where_unlike : (fingerprint_of a ≡ fingerprint_of b → ⊥) → HasNone s (FillingAt goal goals k)
  none_where_unlike d r al w f =
      let st = step_at f in
      let arguments = sum_filled (fingerprint_turned r al.keeps_marks) (st.fills (replicate (length (arguments_of b)) false) (none_is_taken (length (arguments_of b)))) st.as_many in
      d (fingerprint_opened a ∙ ap₂ (λ x y. mixed x (y % 4294967296)) (fingerprint_turned r al.keeps_marks (head_of a) (head_of b) st.heads) arguments ∙ sym (fingerprint_opened b))

  pub none_where_apart : met (head_of a) (head_of b) s ≡ None → HasNone s (FillingAt goal goals k)
  none_where_apart e r al w f = refusal_of (met_right (head_of a) (head_of b) s matching) e r al (step_at f).heads

  module _ (mid : Bindings) (meets : met (head_of a) (head_of b) s ≡ Some mid) (fresh : List Bool) (all : AllFree fresh (length (arguments_of b))) where
    abbrev pub then_goals : List Goal
    then_goals = record { left = arguments_of a; others = arguments_of b; taken = fresh } ∷ record { left = c; others = goal.others; taken = slice_set goal.taken k true } ∷ goals

    narrows : Narrows s (λ r. renamed r (head_of a) ≡ head_of b) mid
    narrows = narrows_of (met_right (head_of a) (head_of b) s matching) meets

    pub mid_matching : AreMatching mid
    mid_matching = narrows.matching

    pub none_then : HasNone mid (Filling then_goals) → HasNone s (FillingAt goal goals k)
    none_then h r al w f = let st = step_at f in h r (narrows.kept r al st.heads) w (st.fills fresh all)

    pub best_then : IsFree goal.taken k → length (arguments_of a) ≡ length (arguments_of b) → {now : Bindings} {w : List ℕ} → IsBest mid now (Filling then_goals) w → IsBest s now (FillingAt goal goals k) w
    best_then free as_many h = record {
      matching = h.matching;
      narrower = λ r al. (narrows.told r (h.narrower r al)).0;
      fills = stepped a c next k b stands free as_many (λ r al. (narrows.told r (h.narrower r al)).1) fresh h.fills;
      least = λ r al v f. let st = step_at f in h.least r (narrows.kept r al st.heads) v (st.fills fresh all);
    }

-- all places
order : (j k : ℕ) → (j < k) ⊎ ((j ≡ k) ⊎ (k < j))
order zero zero = inr (inl refl)
order zero (suc k) = inl (omega arith)
order (suc j) zero = inr (inr (omega arith))
order (suc j) (suc k) = elim (order j k) [ inl l ↦ inl (omega (l, arith)) | inr (inl e) ↦ inr (inl (ap suc e)) | inr (inr g) ↦ inr (inr (omega (g, arith))) ]

module _ (s : Bindings) (goal : Goal) (goals : List Goal) where
  abbrev pub NoneBefore : ℕ → Type 0
  NoneBefore k = (j : ℕ) → j < k → HasNone s (FillingAt goal goals j)

  pub none_at_first : NoneBefore 0
  none_at_first j l = absurd (omega (l, arith))

  pub none_at_next : (k : ℕ) → NoneBefore k → HasNone s (FillingAt goal goals k) → NoneBefore (k + 1)
  none_at_next k before here j l = go (order j k)
    where
      go : (j < k) ⊎ ((j ≡ k) ⊎ (k < j)) → HasNone s (FillingAt goal goals j)
      go (inl m) = before j m
      go (inr (inl e)) = subst (λ j. HasNone s (FillingAt goal goals j)) (sym e) here
      go (inr (inr g)) = absurd (omega (l, g, arith))

  module _ (a : Coordinate) (c : List Coordinate) (next : goal.left ≡ a ∷ c) where
    pub none_at_all : NoneBefore (length goal.others) → HasNone s (Filling (goal ∷ goals))
    none_at_all before r al w f =
        let st = step a c next f in
        before st.place (slice_get_within goal.others st.place st.partner st.stands) r al st.rest (subst (Fills (Turns r) (goal ∷ goals)) st.is f)

    not_after : (k j : ℕ) (w v : List ℕ) → NoneBefore k → (r : Renaming) → Allows s r → Fills (Turns r) (goal ∷ goals) (j ∷ v) → ((v : List ℕ) → Fills (Turns r) (goal ∷ goals) (k ∷ v) → IsNotAfter w v)
        → (j < k) ⊎ ((j ≡ k) ⊎ (k < j)) → IsNotAfter (k ∷ w) (j ∷ v)
    not_after k j w v before r al f least (inl m) = absurd (before j m r al v f)
    not_after k j w v before r al f least (inr (inl e)) = subst (λ j. IsNotAfter (k ∷ w) (j ∷ v)) (sym e) (same k (least v (subst (λ j. Fills (Turns r) (goal ∷ goals) (j ∷ v)) e f)))
    not_after k j w v before r al f least (inr (inr g)) = less w v g

    pub best_at : (k : ℕ) → NoneBefore k → {now : Bindings} {w : List ℕ} → IsBest s now (FillingAt goal goals k) w → IsBest s now (Filling (goal ∷ goals)) (k ∷ w)
    best_at k before {w} h = record {
      matching = h.matching;
      narrower = h.narrower;
      fills = h.fills;
      least = λ r al v f.
          let st = step a c next f in
          subst (IsNotAfter (k ∷ w)) (sym st.is) (not_after k st.place w st.rest before r al (subst (Fills (Turns r) (goal ∷ goals)) st.is f) (λ u g. h.least r al u g) (order st.place k));
    }
