-- Lists that no word splits along a pattern that takes one factor, or ends in one that does.
use Rattle.std.proofs.Common.{◌≡◌, ℕ, zero, suc, ◌<◌, ◌==◌, Bool, true, false, not, true≢false, List, [], ◌∷◌, ◌++◌, get_or, length, refl, sym, ap, ◌∙◌, subst, arith}
use Rattle.std.proofs.lemmas.Bool.Decides.{Decides-eqb}
use Rattle.std.proofs.lemmas.List.{length-append}
use Rattle.type_core.specs.declared.ty.Ty.{Ty}
use Rattle.type_core.specs.declared.ty.Field.{Field}
use Rattle.type_core.specs.declared.ty.Ty.TheVariants as ty
use Rattle.type_core.specs.declared.ty.Ty.TheVariants.{outs-Tup, outs-Arrow}
use Rattle.type_core.specs.declared.ty.Ty.TheOpen.{Ty-F, Arrow}
use Rattle.type_core.specs.declared.ty.Ty.TheViews.{out-Ty}
use Rattle.iso_normal.specs.declared.factor.Factor.{Factor}
use Rattle.iso_normal.specs.declared.factor.Factor.TheVariants as factor
use Rattle.iso_normal.specs.declared.factor.Factor.TheVariants.{outs-Atom, outs-Arr}
use Rattle.iso_normal.specs.declared.factor.Factor.TheOpen.{Factor-F, Atom, Arr}
use Rattle.iso_normal.specs.declared.factor.Factor.TheViews.{out-Factor}
use Rattle.iso_normal.specs.Factors.{IsNotOneArrow, arrow_to, factors_of_arrow}
use Rattle.linear_match.specs.Meetings.{MeetEach, MeetFields, Meeting, Meets}
use Rattle.linear_match.specs.Splits.{Dealt, SplitEach, Splits, dealt_more, dealt_none, split_arrow, split_more, split_other}
use Rattle.linear_match.specs.search.Cutting.{IsEndedByNone, IsTakenByNone, TakesOne}
use Rattle.linear_match.specs.search.Tasks.{IsRigid}
use Rattle.linear_match.proofs.Inverted.{of_arrow, of_atom, of_other, of_tuple}
use Rattle.linear_match.proofs.MeetAll.{AllMeet, FieldsMeet, TypesMeet, all_fields, all_more, all_none, all_types}
use Rattle.linear_match.proofs.Wholes.{one_arrow}

pub at_out : {x : Ty-F Ty Field} (p : Ty) {fs : List Factor} {word : List ℕ} {ms : List Meeting} → out-Ty p ≡ x
    → Splits (out-Ty p) fs word ms → Splits x fs word ms
at_out p {fs} {word} {ms} e s = subst (λ x. Splits x fs word ms) e s

-- one factor
pub rigid_one : (p : Ty) → IsRigid (out-Ty p) → TakesOne p
rigid_one p rigid fs word ms s = ap length (of_atom rigid s).one

pub arrow_one : (p from to : Ty) → p ≡ ty.Arrow from to → TakesOne to → TakesOne p
arrow_one p from to e one fs word ms s = go (at_out p (ap out-Ty e ∙ outs-Arrow from to) s) where
  go : {fs : List Factor} {word : List ℕ} {ms : List Meeting} → Splits (Arrow from to) fs word ms → length fs ≡ 1
  go (split_arrow i d m n) = refl
  go (split_other i m n) = one _ _ _ n

more_than_one : (held : List Factor) (f : Factor) (more : List Factor) → (held ≡ [] → ⊥)
    → length ((held ++ f ∷ []) ++ more) ≡ 1 → ⊥
more_than_one [] f more some e = some refl
more_than_one (h ∷ held) f more some e = omega (arith, e, length-append (held ++ f ∷ []) more, length-append held (f ∷ []))

pub one_taken : (p : Ty) (held : List Factor) (f : Factor) → TakesOne p → (held ≡ [] → ⊥)
    → IsTakenByNone p (held ++ f ∷ [])
one_taken p held f one some more word ms s =
    more_than_one held f more some (one ((held ++ f ∷ []) ++ more) word ms s)

pub not_true : (b : Bool) → not b ≡ false → b ≡ true
not_true true e = refl
not_true false e = absurd (true≢false e)

-- no factor
not_empty : (held : List Factor) (f : Factor) (more : List Factor) → (held ++ f ∷ []) ++ more ≡ [] → ⊥
not_empty [] f more e = cc e
not_empty (h ∷ held) f more e = cc e

pub none_taken : (p : Ty) (ps : List Ty) (held : List Factor) (f : Factor) → p ≡ ty.Tup ps → ps ≡ []
    → IsTakenByNone p (held ++ f ∷ [])
none_taken p ps held f e empty more word ms s =
    not_empty held f more
    (none_dealt (ap length empty) (of_tuple (at_out p (ap out-Ty e ∙ outs-Tup ps) s)).dealt) where
      none_dealt : {n j : ℕ} {letters : List ℕ} {fs : List Factor} {pieces : List (List Factor)} → n ≡ 0
          → Dealt n j letters fs pieces → fs ≡ []
      none_dealt e (dealt_none j) = refl
      none_dealt e (dealt_more l f b d) = absurd (omega (arith, e, b))

-- one atom that the pattern doesn't meet, or an arrow
alone : (held : List Factor) (f : Factor) (more : List Factor) (g : Factor) → (held ++ f ∷ []) ++ more ≡ g ∷ [] → f ≡ g
alone [] f more g e = cc e
alone (h ∷ held) f more g e =
    absurd (more_than_one (h ∷ held) f more (λ x. cc x) (ap length e))

not_atom : {t : Ty} {xs ys : List Factor} → ◌≡◌ {A = Factor-F Factor} (Arr xs ys) (Atom t) → ⊥
not_atom e = cc e

one_atom : {t u : Ty} → ◌≡◌ {A = Factor-F Factor} (Atom t) (Atom u) → u ≡ t
one_atom e = cc e

module _ (p : Ty) (rigid : IsRigid (out-Ty p)) where
  pub atom_taken : (held : List Factor) (f : Factor) (t : Ty) → f ≡ factor.Atom t
      → ((ms : List Meeting) → Meets (out-Ty p) t ms → ⊥) → IsTakenByNone p (held ++ f ∷ [])
  atom_taken held f t e unmet more word ms s =
      let o = of_atom rigid s in
      unmet ms (subst (λ t. Meets (out-Ty p) t ms)
      (one_atom (sym (outs-Atom t) ∙ ap out-Factor (sym e ∙ alone held f more o.factor o.one) ∙ o.atom)) o.meets)

  pub arrow_taken : (held : List Factor) (f : Factor) (xs ys : List Factor) → f ≡ factor.Arr xs ys
      → IsTakenByNone p (held ++ f ∷ [])
  arrow_taken held f xs ys e more word ms s =
      let o = of_atom rigid s in
      not_atom (sym (outs-Arr xs ys) ∙ ap out-Factor (sym e ∙ alone held f more o.factor o.one) ∙ o.atom)

-- an arrow to results
some_arrow : (f : Factor) (fs results : List Factor) → (xs : List Factor) × (ys : List Factor)
    × (factors_of_arrow (f ∷ fs) results ≡ factor.Arr xs ys ∷ [])
some_arrow f fs [] = (f ∷ fs, [], refl)
some_arrow f fs (g ∷ []) = to_one (out-Factor g) where
  to_one : (x : Factor-F Factor) → (xs : List Factor) × (ys : List Factor)
      × (arrow_to (f ∷ fs) x ∷ [] ≡ factor.Arr xs ys ∷ [])
  to_one (Atom t) = (f ∷ fs, factor.Atom t ∷ [], refl)
  to_one (Arr own ys) = ((f ∷ fs) ++ own, ys, refl)
some_arrow f fs (g ∷ h ∷ results) = (f ∷ fs, g ∷ h ∷ results, refl)

pub kept_some : (held : List Factor) (f : Factor) (more : List Factor)
    → (g : Factor) × (rest : List Factor) × ((held ++ f ∷ []) ++ more ≡ g ∷ rest)
kept_some [] f more = (f, more, refl)
kept_some (h ∷ held) f more = (h, (held ++ f ∷ []) ++ more, refl)

same_head : {f g : Factor} → f ∷ [] ≡ g ∷ [] → f ≡ g
same_head e = cc e

pub none_behind : (p : Ty) → IsRigid (out-Ty p) → (f : Factor) (fs results : List Factor) (word : List ℕ)
    (ms : List Meeting) → Splits (out-Ty p) (factors_of_arrow (f ∷ fs) results) word ms → ⊥
none_behind p rigid f fs results word ms s =
    let o = of_atom rigid s in
    let a = some_arrow f fs results in
    not_atom (sym (outs-Arr a.0 a.1) ∙ ap out-Factor (same_head (sym a.2 ∙ o.one)) ∙ o.atom)

pub rigid_ended : (p : Ty) (results : List Factor) → IsRigid (out-Ty p)
    → ((g : Factor) (t : Ty) (ms : List Meeting) → results ≡ g ∷ [] → out-Factor g ≡ Atom t → Meets (out-Ty p) t ms → ⊥)
    → IsEndedByNone p results
rigid_ended p results rigid unmet [] word ms s =
    let o = of_atom rigid s in unmet o.factor o.type ms o.one o.atom o.meets
rigid_ended p results rigid unmet (f ∷ fs) word ms s = none_behind p rigid f fs results word ms s

pub unmet_atom : (p : Ty) (results : List Factor) (f : Factor) (t : Ty) → results ≡ f ∷ [] → out-Factor f ≡ Atom t
    → ((ms : List Meeting) → Meets (out-Ty p) t ms → ⊥)
    → (g : Factor) (u : Ty) (ms : List Meeting) → results ≡ g ∷ [] → out-Factor g ≡ Atom u → Meets (out-Ty p) u ms → ⊥
unmet_atom p results f t e a unmet g u ms i b m =
    unmet ms (subst (λ t. Meets (out-Ty p) t ms) (one_atom (sym a ∙ ap out-Factor (same_head (sym e ∙ i)) ∙ b)) m)

pub second : {p q : Ty} {ps : List Ty} {xs ys : List Factor} {pieces : List (List Factor)} {word : List ℕ}
    {ms : List Meeting} → SplitEach (p ∷ q ∷ ps) (xs ∷ ys ∷ pieces) word ms → (last : List ℕ) × (ns : List Meeting) × Splits (out-Ty q) ys last ns
second (split_more m (split_more n rest)) = (_, _, n)

pub arrow_ended : (p from to : Ty) (results : List Factor) → p ≡ ty.Arrow from to → IsNotOneArrow results
    → IsEndedByNone to results → IsEndedByNone p results
arrow_ended p from to results e i ended [] word ms s =
    let r = second (of_other i (at_out p (ap out-Ty e ∙ outs-Arrow from to) s)) in ended [] r.0 r.1 r.2
arrow_ended p from to results e i ended (f ∷ fs) word ms s =
    let one = subst (λ gs. Splits (Arrow from to) gs word ms) (one_arrow f fs i) (at_out p (ap out-Ty e ∙ outs-Arrow from to) s) in
    let o = of_arrow (outs-Arr (f ∷ fs) results) one in
    let r = second o.split in ended o.kept r.0 r.1 r.2

-- what meets at a place
pub each_at : {A : Type 0} (R : A → A → List Meeting → Type 0) {ps ts : List A} {ms : List Meeting}
    → AllMeet R ps ts ms → (i : ℕ) (d e : A) → i < length ps
    → (ns : List Meeting) × R (get_or ps i d) (get_or ts i e) ns
each_at R all_none i d e b = absurd (omega (arith, b))
each_at R (all_more {ms} m each) zero d e b = (ms, m)
each_at R (all_more m each) (suc i) d e b = each_at R each i d e (omega (arith, b))

pub none_at : (ps ts : List Ty) (i : ℕ) (p t : Ty) → i < length ps → p ≡ get_or ps i p → t ≡ get_or ts i t
    → ((ms : List Meeting) → Meets (out-Ty p) t ms → ⊥) → (ms : List Meeting) → MeetEach ps ts ms → ⊥
none_at ps ts i p t b e f never ms each =
    let r = each_at TypesMeet (all_types each) i p t b in
    never r.0 (subst (λ x. Meets (out-Ty x) t r.0) (sym e)
    (subst (λ y. Meets (out-Ty (get_or ps i p)) y r.0) (sym f) r.1))

pub no_field_at : (ps ts : List Field) (i : ℕ) (d e : Field) → i < length ps
    → ((ms : List Meeting) → Meets (out-Ty (get_or ps i d).ty) (get_or ts i e).ty ms → ⊥) → (ms : List Meeting)
    → MeetFields ps ts ms → ⊥
no_field_at ps ts i d e b never ms each = let r = each_at FieldsMeet (all_fields each) i d e b in never r.0 r.1.1

pub empty_of : {A : Type 0} (xs : List A) → (length xs == 0) ≡ true → xs ≡ []
empty_of [] e = refl
empty_of (x ∷ xs) e = absurd (omega (arith, (Decides-eqb (length (x ∷ xs)) 0).0 e))
