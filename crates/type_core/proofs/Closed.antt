-- Closing makes schemes, changes none, and undoes each renaming that is one to one and keeps marks.
use Rattle.std.proofs.Common.{◌≡◌, ℕ, ◌+◌, ◌<◌, List, [], ◌∷◌, ◌++◌, map, length, take, get_or, add-one, refl, sym, ap, ap₂, ◌∙◌, subst, arith}
use Rattle.std.proofs.Math.Seq.{take-suc}
use Rattle.std.proofs.lemmas.List.{length-map, map-append}
use Rattle.std.proofs.lemmas.List.FromFn.{length-map-range_with_len}
use Rattle.std.specs.List.{range_with_len}
use Rattle.type_core.specs.declared.ty.VarId.{VarId}
use Rattle.type_core.specs.declared.ty.Scheme.{Scheme}
use Rattle.type_core.specs.declared.ty.Ty.{Ty}
use Rattle.type_core.specs.Renaming.{Renaming, renamed, IsOneToOne, KeepsMarks, AreEqualUpToNames}
use Rattle.type_core.specs.Schemes.{IsScheme, closed, numbers, numbered_among}
use Rattle.type_core.specs.Variables.{variables, meet_all, by_first_occurrence}
use Rattle.type_core.proofs.Places.{Within, nothing_within, variable_eq, meet_all_within, all_met, meet_all_after, place_after, place_tells, place_is_number, numbered_in_order, range_last}
use Rattle.type_core.proofs.Renamed.{variables_renamed, renamed_alike, renamed_renamed, renamed_kept}

scheme_eq : (a b : Scheme) → a.vars ≡ b.vars → a.body ≡ b.body → a ≡ b
scheme_eq a b e f = λ i. record { vars = e i; body = f i }

-- those that are met are variables of the type
met_occur : (t : Ty) → Within (variables t) (by_first_occurrence t)
met_occur t = meet_all_within (variables t) [] (variables t) (nothing_within (variables t)) (λ v o. o)

order_renamed : (r : Renaming) (t : Ty) → IsOneToOne r (variables t) → by_first_occurrence (renamed r t) ≡ map r (by_first_occurrence t)
order_renamed r t one = ap (meet_all []) (variables_renamed r t) ∙ meet_all_after r (variables t) one [] (variables t) (nothing_within (variables t)) (λ v o. o)

numbering_is_one_to_one : (t : Ty) → IsOneToOne (numbered_among (by_first_occurrence t)) (variables t)
numbering_is_one_to_one t v w o p e = place_tells v w (by_first_occurrence t) (all_met [] (variables t) v o) (ap (λ (z : VarId). z.n) e)

pub closed_is_scheme : (t : Ty) → IsScheme (closed t)
closed_is_scheme t = ap numbers (order_renamed (numbered_among (by_first_occurrence t)) t (numbering_is_one_to_one t)) ∙ numbered_in_order (variables t)

pub closed_renamed : (r : Renaming) (t : Ty) → IsOneToOne r (variables t) → KeepsMarks r (variables t) → closed (renamed r t) ≡ closed t
closed_renamed r t one marks =
    let order = by_first_occurrence t in
    let e = order_renamed r t one in
    scheme_eq (closed (renamed r t)) (closed t) (ap length e ∙ length-map order r)
    (ap (λ z. renamed (numbered_among z) (renamed r t)) e ∙ renamed_renamed (numbered_among (map r order)) r t
    ∙ renamed_alike (λ v. numbered_among (map r order) (r v)) (numbered_among order) t
    (λ v o. variable_eq _ _ (place_after r v order (λ w p. one v w o (met_occur t w p))) (marks v o)))

from_zero : (m n : ℕ) → 0 + m ≡ n → m ≡ n
from_zero m n e = omega (arith, e)

pub closed_scheme : (s : Scheme) → IsScheme s → closed s.body ≡ s
closed_scheme s is =
    let order = by_first_occurrence s.body in
    let all_are : length order ≡ s.vars = sym (length-map order (λ v. v.n)) ∙ ap length is ∙ sym (length-map (range_with_len 0 s.vars) (λ n. n)) ∙ length-map-range_with_len (λ n. n) 0 s.vars in
    scheme_eq (closed s.body) s all_are
    (renamed_alike (numbered_among order) (λ v. v) s.body (λ v o. variable_eq _ v (from_zero _ _ (place_is_number 0 s.vars order is v (all_met [] (variables s.body) v o))) refl) ∙ renamed_kept s.body)

pub equal_where_renamed : (a b : Scheme) → IsScheme a → IsScheme b → AreEqualUpToNames a b → a.body ≡ b.body
equal_where_renamed a b p q e =
    let h = e.1 in
    sym (ap (λ (z : Scheme). z.body) (closed_scheme a p)) ∙ sym (ap (λ (z : Scheme). z.body) (closed_renamed e.0 a.body h.one_to_one h.keeps_marks))
    ∙ ap (λ t. (closed t).body) h.makes ∙ ap (λ (z : Scheme). z.body) (closed_scheme b q)

pub renamed_where_equal : (a b : Scheme) → a.body ≡ b.body → AreEqualUpToNames a b
renamed_where_equal a b e = (λ v. v, record { one_to_one = λ v w o p h. h; keeps_marks = λ v o. refl; makes = renamed_kept a.body ∙ e })

-- variables whose numbers are their places already keep them
pub kept_in_order : (t : Ty) (met : List VarId) → met ≡ by_first_occurrence t → numbers met ≡ range_with_len 0 (length met) → renamed (numbered_among met) t ≡ t
kept_in_order t met e f =
    let s : Scheme = record { vars = length (by_first_occurrence t); body = t } in
    let is : IsScheme s = subst (λ vs. numbers vs ≡ range_with_len 0 (length vs)) e f in
    ap (λ vs. renamed (numbered_among vs) t) e ∙ ap (λ (z : Scheme). z.body) (closed_scheme s is)

zero_more : (i : ℕ) → i ≡ 0 + i
zero_more i = omega arith

-- one more variable in order
pub one_more_in_order : (vs : List VarId) (i : ℕ) (d : VarId) → i < length vs → (get_or vs i d).n ≡ i → numbers (take i vs) ≡ range_with_len 0 i
    → numbers (take (i + 1) vs) ≡ range_with_len 0 (i + 1)
one_more_in_order vs i d l e f =
    let w = get_or vs i d in
    ap (λ j. numbers (take j vs)) (add-one i) ∙ ap numbers (take-suc vs i d l) ∙ map-append (λ (v : VarId). v.n) (take i vs) (w ∷ [])
    ∙ ap₂ (λ ns n. ns ++ n ∷ []) f (e ∙ zero_more i) ∙ range_last 0 i ∙ ap (range_with_len 0) (sym (add-one i))

pub numbered_is_scheme : (t body : Ty) (met : List VarId) (n : ℕ) → met ≡ by_first_occurrence t → body ≡ renamed (numbered_among met) t → n ≡ length met
    → numbers (by_first_occurrence body) ≡ range_with_len 0 n
numbered_is_scheme t body met n e f g =
    ap (λ z. numbers (by_first_occurrence z)) (f ∙ ap (λ z. renamed (numbered_among z) t) e) ∙ closed_is_scheme t ∙ ap (range_with_len 0) (sym (g ∙ ap length e))
