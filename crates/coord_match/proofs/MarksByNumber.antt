-- Variables whose marks are told by their numbers have one mark a number.
use Rattle.std.proofs.Common.{◌≡◌, ◌||◌, ◌&&◌, Bool, true, false, true≢false, List, [], ◌∷◌, nat_lt, not, refl, sym, ap, ◌∙◌}
use Rattle.type_core.specs.declared.ty.VarId.{VarId}
use Rattle.type_core.specs.Variables.{occurs, same_mark, same_variable}
use Rattle.type_core.proofs.Places.{same_is, variable_eq}
use Rattle.coord_match.specs.Names.{HaveOneMark}
use Rattle.coord_match.proofs.Meeting.{mark_is}

-- whether just the variables from number 8 on have the mark
abbrev pub marked_by_number : List VarId → Bool
marked_by_number [] = true
marked_by_number (v ∷ vs) = same_mark v.eq (not (nat_lt v.n 8)) && marked_by_number vs

both : (x y : Bool) → (x && y) ≡ true → (x ≡ true) × (y ≡ true)
both true y e = (refl, e)
both false y e = absurd (true≢false (sym e))

mark_first : (v w : VarId) (rest : Bool) → w.eq ≡ not (nat_lt w.n 8) → (rest ≡ true → v.eq ≡ not (nat_lt v.n 8)) → (x : Bool) → same_variable v w ≡ x → (x || rest) ≡ true → v.eq ≡ not (nat_lt v.n 8)
mark_first v w rest e later true f o = ap (λ (u : VarId). u.eq) (same_is v w f) ∙ e ∙ ap (λ (u : VarId). not (nat_lt u.n 8)) (sym (same_is v w f))
mark_first v w rest e later false f o = later o

mark_at : (vs : List VarId) → marked_by_number vs ≡ true → (v : VarId) → occurs v vs ≡ true → v.eq ≡ not (nat_lt v.n 8)
mark_at [] e v o = absurd (true≢false (sym o))
mark_at (w ∷ vs) e v o =
    let parts = both (same_mark w.eq (not (nat_lt w.n 8))) (marked_by_number vs) e in
    mark_first v w (occurs v vs) (mark_is _ _ parts.0) (mark_at vs parts.1 v) (same_variable v w) refl o

pub one_mark : (vs : List VarId) → marked_by_number vs ≡ true → HaveOneMark vs
one_mark vs e v w o i f = variable_eq v w f (mark_at vs e v o ∙ ap (λ n. not (nat_lt n 8)) f ∙ sym (mark_at vs e w i))
