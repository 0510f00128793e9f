-- What is done with tasks.
use Rattle.std.proofs.Common.{◌≡◌, ℕ, zero, suc, ◌+◌, ◌-◌, ◌<◌, ◌≤◌, ◌^◌, List, [], ◌∷◌, ◌++◌, drop, get_or, length, map, sym, ap, ap₂, ◌∙◌, subst, append-nil, arith}
use Rattle.std.specs.List.{All}
use Rattle.std.proofs.Math.ListN.{get_or-append}
use Rattle.std.proofs.Math.Seq.{get_or-append_seam}
use Rattle.std.proofs.lemmas.List.{drop_more, length-append, reverse-append}
use Rattle.std.proofs.lemmas.List.Elements.{All-append}
use Rattle.type_core.specs.declared.names.TypeName.{TypeName}
use Rattle.type_core.specs.declared.ty.Ty.{Ty}
use Rattle.type_core.specs.Lists.{sum_of}
use Rattle.type_core.specs.Size.{size_of}
use Rattle.type_core.proofs.Trees.{size_tup}
use Rattle.iso_normal.specs.declared.factor.Factor.{Factor}
use Rattle.linear_match.specs.declared.bindings.Met.{Met}
use Rattle.linear_match.specs.declared.search.Task.{Task}
use Rattle.linear_match.specs.Meetings.{Meeting}
use Rattle.linear_match.specs.Splits.{SplitEach, split_none}
use Rattle.linear_match.specs.search.Bindings.{AreGood, meetings_of}
use Rattle.linear_match.specs.search.Tasks.{AreSmall, Finds, IsSmall, Matching, MatchingBoth, patterns_of, pieces_of}
use Rattle.linear_match.proofs.Best.{Within, best_nothing}
use Rattle.linear_match.proofs.Weights.{weigh, weigh_task, weigh_tasks}

-- the last task is the first pattern
pub patterns_split : {ts : List Task} (rest : List Task) (t : Task) → ts ≡ rest ++ t ∷ []
    → patterns_of ts ≡ t.pattern.now ∷ patterns_of rest
patterns_split rest t e = ap patterns_of e
    ∙ ap (map (λ (task : Task). task.pattern.now)) (reverse-append rest (t ∷ []))

pub pieces_split : {ts : List Task} (rest : List Task) (t : Task) → ts ≡ rest ++ t ∷ []
    → pieces_of ts ≡ t.factors ∷ pieces_of rest
pieces_split rest t e = ap pieces_of e ∙ ap (map (λ (task : Task). task.factors)) (reverse-append rest (t ∷ []))

pub split_moved : {ps qs : List Ty} {xs ys : List (List Factor)} {w : List ℕ} {ns : List Meeting} → ps ≡ qs → xs ≡ ys
    → SplitEach ps xs w ns → SplitEach qs ys w ns
split_moved {ps} {qs} {xs} {ys} {w} {ns} e f s =
    subst (λ ys. SplitEach qs ys w ns) f (subst (λ qs. SplitEach qs xs w ns) e s)

module _ {ts : List Task} (rest : List Task) (t : Task) (e : ts ≡ rest ++ t ∷ []) where
  pub weigh_split : weigh_tasks ts ≡ weigh_task t + weigh_tasks rest
  weigh_split = ap₂ weigh (patterns_split rest t e) (pieces_split rest t e)

module _ {ts mid : List Task} (rest : List Task) (left right : Task) (e : mid ≡ rest ++ right ∷ [])
    (f : ts ≡ mid ++ left ∷ []) where
  both_patterns : patterns_of ts ≡ left.pattern.now ∷ right.pattern.now ∷ patterns_of rest
  both_patterns = patterns_split mid left f ∙ ap (λ x. left.pattern.now ∷ x) (patterns_split rest right e)

  both_pieces : pieces_of ts ≡ left.factors ∷ right.factors ∷ pieces_of rest
  both_pieces = pieces_split mid left f ∙ ap (λ x. left.factors ∷ x) (pieces_split rest right e)

  pub both_pushed : Within (MatchingBoth left right rest) (Matching ts)
  both_pushed w ns s = split_moved (sym both_patterns) (sym both_pieces) s

-- no task
pub finds_nothing : {names : List TypeName} {met : List Met} {word : List ℕ} {ts : List Task} → ts ≡ []
    → AreGood names (meetings_of met) → Finds names met met word word (Matching ts)
finds_nothing {word} e good = record {
  word = [];
  added = sym (append-nil word);
  best = best_nothing (split_moved (ap patterns_of (sym e)) (ap pieces_of (sym e)) split_none) good;
}

-- small tasks
all_front : {A : Type 0} (P : A → Type 0) (xs : List A) (x : A) → All P (xs ++ x ∷ []) → All P xs
all_front P xs x h k d l =
    subst P (get_or-append xs (x ∷ []) d k l) (h k d (omega (arith, l, length-append xs (x ∷ []))))

all_last : {A : Type 0} (P : A → Type 0) (xs : List A) (x : A) → All P (xs ++ x ∷ []) → P x
all_last P xs x h = subst P (get_or-append_seam xs x [] x)
    (h (length xs) x (omega (arith, length-append xs (x ∷ []))))

one_of : {A : Type 0} (P : A → Type 0) (x : A) → P x → All P (x ∷ [])
one_of P x p zero d l = p
one_of P x p (suc k) d l = absurd (omega (arith, l))

pub all_more : {A : Type 0} (P : A → Type 0) (xs : List A) {ys : List A} (x : A) → ys ≡ xs ++ x ∷ [] → All P xs → P x
    → All P ys
all_more P xs x e h p = subst (All P) (sym e) (All-append P xs (x ∷ []) h (one_of P x p))

pub rest_small : {ts : List Task} (rest : List Task) (t : Task) → ts ≡ rest ++ t ∷ [] → All IsSmall ts
    → All IsSmall rest
rest_small rest t e h = all_front IsSmall rest t (subst (All IsSmall) e h)

pub top_small : {ts : List Task} (rest : List Task) (t : Task) → ts ≡ rest ++ t ∷ [] → All IsSmall ts → IsSmall t
top_small rest t e h = all_last IsSmall rest t (subst (All IsSmall) e h)

part_size : (ps : List Ty) (k : ℕ) (d : Ty) → k < length ps → size_of (get_or ps k d) ≤ sum_of (map size_of ps)
part_size [] k d l = absurd (omega (arith, l))
part_size (p ∷ ps) zero d l = omega arith
part_size (p ∷ ps) (suc k) d l = omega (arith, part_size ps k d (omega (arith, l)))

pub part_small : (ps : List Ty) (k : ℕ) (p : Ty) → AreSmall ps → k < length ps → p ≡ get_or ps k p
    → size_of p < 2 ^ 32
part_small ps k p small l e = omega (arith, small, size_tup ps, part_size ps k p l, ap size_of e)

-- components with their pieces, the last first
pub drop_before : {A : Type 0} (xs : List A) (n i : ℕ) (x : A) → n ≡ length xs → i < n → x ≡ get_or xs (n - 1 - i) x
    → x ∷ drop (n - i) xs ≡ drop (n - (i + 1)) xs
drop_before xs n i x e l at =
    let here : n - 1 - i < length xs = omega (arith, e, l) in
    let next : (n - 1 - i) + 1 ≡ n - i = omega (arith, l) in
    let this : n - 1 - i ≡ n - (i + 1) = omega (arith, l) in
    ap₂ ◌∷◌ at (ap (λ k. drop k xs) (sym next)) ∙ sym (drop_more xs (n - 1 - i) x here) ∙ ap (λ k. drop k xs) this
