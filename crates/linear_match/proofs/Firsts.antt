-- The best word of a scheme's body over the factors of a type is the least that succeeds.
use Rattle.std.proofs.Common.{◌≡◌, ℕ, ◌||◌, Bool, true, false, true≢false, IsTrue, List, [], ◌∷◌, ◌++◌, map, refl, sym, ap, ap₂, ◌∙◌, subst, append-nil, suc, ◌+◌, arith}
use Rattle.type_core.specs.declared.names.TypeName.{TypeName}
use Rattle.type_core.specs.declared.ty.VarId.{VarId}
use Rattle.type_core.specs.declared.ty.Scheme.{Scheme}
use Rattle.type_core.specs.declared.ty.Ty.{Ty}
use Rattle.type_core.specs.declared.ty.Ty.TheViews.{out-Ty, roll-out-Ty}
use Rattle.type_core.specs.AdmitsEquality.{AdmitsEquality}
use Rattle.type_core.specs.Schemes.{IsScheme}
use Rattle.type_core.specs.Variables.{occurs, same_variable, variables}
use Rattle.std.specs.List.{range_with_len}
use Rattle.std.proofs.lemmas.List.{map-append}
use Rattle.type_core.proofs.Places.{range_last, same_is, same_itself}
use Rattle.iso_normal.specs.declared.factor.Factor.{Factor}
use Rattle.iso_normal.specs.Factors.{factors}
use Rattle.type_core.specs.Substitution.{substituted}
use Rattle.linear_match.specs.declared.bindings.Met.{Met}
use Rattle.linear_match.specs.declared.search.Task.{Task}
use Rattle.linear_match.specs.Instances.{IsMatch, RespectsMarks}
use Rattle.linear_match.specs.LeastWord.{IsFirst, Succeeds}
use Rattle.linear_match.specs.Meetings.{Meeting, binding, bindings, type_for}
use Rattle.linear_match.specs.Splits.{SplitEach, Splits, split_more, split_none}
use Rattle.linear_match.specs.search.Bindings.{AreGood, AreMarked, meetings_of, variable_of}
use Rattle.linear_match.specs.search.Tasks.{Finds, HasNone, IsBest, Matching, patterns_of, pieces_of}
use Rattle.linear_match.proofs.Matches.{some_word}
use Rattle.linear_match.proofs.Tasked.{patterns_split, pieces_split, split_moved}
use Rattle.linear_match.proofs.Bound.{In, after, here, type_bound}
use Rattle.linear_match.proofs.Good.{marked_by_members, marked_one}
use Rattle.linear_match.proofs.MetVariables.{occurring_below, split_variables, variables_of}

-- one pattern
pub one_split : {p : Ty} {fs : List Factor} {word : List ℕ} {ms : List Meeting} → Splits (out-Ty p) fs word ms
    → SplitEach (p ∷ []) (fs ∷ []) word ms
one_split {p} {fs} {word} {ms} s = subst (λ w. SplitEach (p ∷ []) (fs ∷ []) w ms) (append-nil word)
    (subst (SplitEach (p ∷ []) (fs ∷ []) (word ++ [])) (append-nil ms) (split_more s split_none))

pub split_one : {p : Ty} {fs : List Factor} {word : List ℕ} {ms : List Meeting} → SplitEach (p ∷ []) (fs ∷ []) word ms
    → Splits (out-Ty p) fs word ms
split_one {p} {fs} (split_more {word} {ms} s split_none) =
    subst (λ w. Splits (out-Ty p) fs w (ms ++ [])) (sym (append-nil word))
    (subst (Splits (out-Ty p) fs word) (sym (append-nil ms)) s)

-- the variables of meetings
member_of : (v : VarId) (ms : List Meeting) → occurs v (variables_of ms) ≡ true
    → (k : Meeting) × In k ms × (variable_of k ≡ v)
member_of v [] e = absurd (true≢false (sym e))
member_of v (m ∷ ms) e = by_test (same_variable v (variable_of m)) refl (λ f. member_of v ms f) e where
  by_test : (b : Bool) → same_variable v (variable_of m) ≡ b
      → (occurs v (variables_of ms) ≡ true → (k : Meeting) × In k ms × (variable_of k ≡ v))
      → (b || occurs v (variables_of ms)) ≡ true
      → (k : Meeting) × In k (m ∷ ms) × (variable_of k ≡ v)
  by_test true c later e = (m, here ms, sym (same_is v (variable_of m) c))
  by_test false c later e = let r = later e in (r.0, after m r.1, r.2)

or_right : (a b : Bool) → b ≡ true → (a || b) ≡ true
or_right true b e = refl
or_right false b e = e

member_occurs : {k : Meeting} {ms : List Meeting} → In k ms → occurs (variable_of k) (variables_of ms) ≡ true
member_occurs {k} (here ms) = ap (λ b. b || occurs (variable_of k) (variables_of ms)) (same_itself (variable_of k))
member_occurs {k} (after {ms} n i) = or_right (same_variable (variable_of k) (variable_of n)) _ (member_occurs i)

module _ (names : List TypeName) (pattern : Scheme) (is : IsScheme pattern) {fs : List Factor} {word : List ℕ}
    {ms : List Meeting} (s : Splits (out-Ty pattern.body) fs word ms) where
  same_variables : variables_of ms ≡ variables pattern.body
  same_variables = split_variables s ∙ ap variables (roll-out-Ty pattern.body)

  bound_as : (v : VarId) → IsTrue (occurs v (variables pattern.body))
      → type_for (bindings pattern.vars ms) v ≡ binding ms v.n
  bound_as v o = type_bound pattern.vars ms v (occurring_below pattern is v o)

  pub marks_respected : AreMarked names ms ms → RespectsMarks names pattern.body (bindings pattern.vars ms)
  marks_respected marked v o e =
      let r = member_of v ms (ap (occurs v) same_variables ∙ o) in
      subst (AdmitsEquality names) (sym (bound_as v o))
      (subst (λ v. IsTrue v.eq → AdmitsEquality names (binding ms v.n)) r.2 (marked_one names ms marked r.1) e)

  pub respected_marks : RespectsMarks names pattern.body (bindings pattern.vars ms) → AreMarked names ms ms
  respected_marks respects = marked_by_members names ms ms (λ m i e.
      let o = ap (occurs (variable_of m)) (sym same_variables) ∙ member_occurs i in
      subst (AdmitsEquality names) (bound_as (variable_of m) o) (respects (variable_of m) o e))

-- one binding more
pub bindings_more : (ms : List Meeting) (n : ℕ) → bindings (n + 1) ms ≡ bindings n ms ++ binding ms n ∷ []
bindings_more ms n =
    let next : n + 1 ≡ suc n = omega arith in
    let last : 0 + n ≡ n = omega arith in
    ap (λ k. bindings k ms) next
    ∙ ap (map (binding ms)) (sym (range_last 0 n) ∙ ap (λ k. range_with_len 0 n ++ k ∷ []) last)
    ∙ map-append (binding ms) (range_with_len 0 n) (n ∷ [])

-- what the search finds, and that it finds nothing, told of the scheme
module _ (names : List TypeName) (pattern : Scheme) (subject : Ty) (is : IsScheme pattern) where
  good_of : {word : List ℕ} {ms : List Meeting} → Succeeds names pattern subject word ms → AreGood names ms
  good_of s = record { consistent = s.consistent; marked = respected_marks names pattern is s.splits s.marks }

  success_of : {word : List ℕ} {ms : List Meeting} → Splits (out-Ty pattern.body) (factors subject) word ms
      → AreGood names ms → Succeeds names pattern subject word ms
  success_of s good = record
      { splits = s; consistent = good.consistent; marks = marks_respected names pattern is s good.marked }

  module _ (ts before : List Task) (t : Task) (n : before ≡ []) (e : ts ≡ before ++ t ∷ [])
      (p : t.pattern.now ≡ pattern.body) (f : t.factors ≡ factors subject) where
    whole_patterns : patterns_of ts ≡ pattern.body ∷ []
    whole_patterns = patterns_split before t e ∙ ap₂ (λ x ts. x ∷ patterns_of ts) p n

    whole_pieces : pieces_of ts ≡ factors subject ∷ []
    whole_pieces = pieces_split before t e ∙ ap₂ (λ x ts. x ∷ pieces_of ts) f n

    to_matching : {word : List ℕ} {ms : List Meeting} → Succeeds names pattern subject word ms → Matching ts word ms
    to_matching s = split_moved (sym whole_patterns) (sym whole_pieces) (one_split s.splits)

    of_matching : {word : List ℕ} {ms : List Meeting} → Matching ts word ms
        → Splits (out-Ty pattern.body) (factors subject) word ms
    of_matching s = split_one (split_moved whole_patterns whole_pieces s)

    best_first : {now : List Meeting} {word : List ℕ} (by : List Ty) (body : Ty) → by ≡ bindings pattern.vars now
        → body ≡ substituted by pattern.body → IsBest names [] now (Matching ts) word
        → IsFirst names pattern subject word by body
    best_first by body b s best = record {
      meetings = best.meetings;
      succeeds = success_of (of_matching best.wanted) (subst (AreGood names) best.leads best.good);
      least = λ other ms x. best.least other ms (to_matching x) (good_of x);
      bound = b ∙ ap (bindings pattern.vars) best.leads;
      filled = s;
    }

    pub found_first : {old new : List Met} {before after : List ℕ} (by : List Ty) (body : Ty) → old ≡ [] → before ≡ []
        → by ≡ bindings pattern.vars (meetings_of new) → body ≡ substituted by pattern.body
        → Finds names old new before after (Matching ts) → IsFirst names pattern subject after by body
    found_first {new} by body empty none b s found =
        subst (λ w. IsFirst names pattern subject w by body) (sym (found.added ∙ ap (λ x. x ++ found.word) none))
        (best_first by body b s (subst (λ ms. IsBest names ms (meetings_of new) (Matching ts) found.word)
        (ap meetings_of empty) found.best))

    pub none_first : {old : List Met} → old ≡ [] → HasNone names (meetings_of old) (Matching ts) → (by : List Ty)
        → IsMatch names pattern subject by → ⊥
    none_first {old} empty none by m =
        let w = some_word is m in
        subst (λ ms. HasNone names ms (Matching ts)) (ap meetings_of empty) none w.0 w.1 (to_matching w.2)
        (good_of w.2)
