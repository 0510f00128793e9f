-- Two types that are to be one add exactly the bindings that make them so.
use Rattle.std.proofs.Common.{◌≡◌, ℕ, ◌==◌, ◌⊎◌, inl, inr, Bool, true, false, true≢false, List, [], ◌∷◌, ◌++◌, Option, Some, None, map, bytes_eq, refl, sym, ap, ap₂, ◌∙◌, subst}
use Rattle.std.specs.Bool.{Decides}
use Rattle.std.proofs.lemmas.Bool.Decides.{Decides-eqb}
use Rattle.std.proofs.lemmas.Slice.Eq.{bytes_eq-Decides}
use Rattle.type_core.specs.declared.ty.VarId.{VarId}
use Rattle.type_core.specs.declared.ty.NameId.{NameId}
use Rattle.type_core.specs.declared.ty.Ty.{Ty}
use Rattle.type_core.specs.declared.ty.Field.{Field}
use Rattle.type_core.specs.declared.ty.Ty.TheVariants.{rolls-Var, rolls-Con, rolls-Rec, rolls-Tup, rolls-Arrow}
use Rattle.type_core.specs.declared.ty.Ty.TheOpen.{Ty-F, Var, Con, Rec, Tup, Arrow}
use Rattle.type_core.specs.declared.ty.Ty.TheViews.{out-Ty, roll-Ty, roll-Field, out-roll-Ty, roll-out-Ty}
use Rattle.type_core.specs.declared.ty.Ty.TheFolds.{map-Ty, fold-roll-Ty, fold-roll-Field, ind-Ty}
use Rattle.type_core.specs.Renaming.{Renaming, renamed, field_renamed, rename_step, rename_field_step}
use Rattle.type_core.specs.Variables.{same_mark, same_variable}
use Rattle.type_core.proofs.Places.{same_is, same_itself}
use Rattle.type_core.proofs.Renamed.{field_eq}
use Rattle.coord_match.specs.declared.bindings.Bound.{Bound}
use Rattle.coord_match.specs.search.Bindings.{AreMatching, Allows, Bindings, IsIn, all_met, and_then, at, bind, by_sides, met, met_field, met_field_step, met_layer, met_step, past, when}

-- now has the bindings of s, and those that P asks for
pub record Narrows (s : Bindings) (P : Renaming → Type 0) (now : Bindings) : Type 0 where
  pub matching : AreMatching now
  pub told : (r : Renaming) → Allows now r → Allows s r × P r
  pub kept : (r : Renaming) → Allows s r → P r → Allows now r

-- what the bindings become, or that no renaming that they allow has P
pub data Outcome (s : Bindings) (P : Renaming → Type 0) : Option Bindings → Type 0 where
  refused : ((r : Renaming) → Allows s r → P r → ⊥) → Outcome s P None
  narrowed : {now : Bindings} → Narrows s P now → Outcome s P (Some now)

module _ {s : Bindings} {P Q : Renaming → Type 0} (there : (r : Renaming) → P r → Q r) (back : (r : Renaming) → Q r → P r) where
  pub outcome_iff : {o : Option Bindings} → Outcome s P o → Outcome s Q o
  outcome_iff (refused never) = refused (λ r a q. never r a (back r q))
  outcome_iff (narrowed n) = narrowed (record {
    matching = n.matching;
    told = λ r a. ((n.told r a).0, there r (n.told r a).1);
    kept = λ r a q. n.kept r a (back r q);
  })

module _ {s : Bindings} {P Q : Renaming → Type 0} (next : Bindings → Option Bindings) (step : (now : Bindings) → AreMatching now → Outcome now Q (next now)) where
  chained : {mid : Bindings} → Narrows s P mid → {o : Option Bindings} → Outcome mid Q o → Outcome s (λ r. P r × Q r) o
  chained m (refused never) = refused (λ r a p. never r (m.kept r a p.0) p.1)
  chained m (narrowed n) = narrowed (record {
    matching = n.matching;
    told = λ r a. let b = n.told r a in let c = m.told r b.0 in (c.0, (c.1, b.1));
    kept = λ r a p. n.kept r (m.kept r a p.0) p.1;
  })

  outcome_then : {o : Option Bindings} → Outcome s P o → Outcome s (λ r. P r × Q r) (and_then o next)
  outcome_then (refused never) = refused (λ r a p. never r a p.0)
  outcome_then (narrowed {now} n) = chained n (step now n.matching)

outcome_when : {s : Bindings} {Q : Renaming → Type 0} {o : Option Bindings} (A : Type 0) (b : Bool) → Decides b A → Outcome s Q o → Outcome s (λ r. A × Q r) (when b o)
outcome_when A true d (refused never) = refused (λ r a p. never r a p.1)
outcome_when A true d (narrowed n) = narrowed (record { matching = n.matching; told = λ r a. ((n.told r a).0, (d.0 refl, (n.told r a).1)); kept = λ r a p. n.kept r a p.1 })
outcome_when A false d o = refused (λ r a p. true≢false (sym (d.1 p.0)))

nothing_to_do : {s : Bindings} {P : Renaming → Type 0} → AreMatching s → ((r : Renaming) → Allows s r → P r) → Outcome s P (Some s)
nothing_to_do m p = narrowed (record { matching = m; told = λ r a. (a, p r a); kept = λ r a q. a })

-- one binding more
pub in_front : {b : Bound} {s : Bindings} (t : Bindings) → IsIn b s → IsIn b (s ++ t)
in_front t (at rest) = at (rest ++ t)
in_front t (past c i) = past c (in_front t i)

pub in_end : (b : Bound) (s : Bindings) → IsIn b (s ++ b ∷ [])
in_end b [] = at []
in_end b (c ∷ s) = past c (in_end b s)

pub was_in : {b c : Bound} (s : Bindings) → IsIn c (s ++ b ∷ []) → IsIn c s ⊎ (c ≡ b)
was_in [] (at rest) = inr refl
was_in [] (past c i) = elim i [ ]
was_in (d ∷ s) (at rest) = inl (at s)
was_in (d ∷ s) (past _ i) = elim (was_in s i) [ inl j ↦ inl (past d j) | inr e ↦ inr e ]

pub mark_is : (a b : Bool) → same_mark a b ≡ true → a ≡ b
mark_is true true e = refl
mark_is true false e = absurd (true≢false (sym e))
mark_is false true e = absurd (true≢false (sym e))
mark_is false false e = refl

mark_differs : (a b : Bool) → same_mark a b ≡ false → a ≡ b → ⊥
mark_differs true true e f = true≢false e
mark_differs true false e f = true≢false f
mark_differs false true e f = true≢false (sym f)
mark_differs false false e f = true≢false e

pub differs : (v w : VarId) → same_variable v w ≡ false → v ≡ w → ⊥
differs v w e f = true≢false (sym (same_itself v) ∙ ap (same_variable v) f ∙ e)

module _ (b : Bound) (s : Bindings) (m : AreMatching s) where
  abbrev Binds : Renaming → Type 0
  Binds r = r b.from ≡ b.to

  abbrev IsApart : Bound → Type 0
  IsApart c = (c.from ≡ b.from → ⊥) × (c.to ≡ b.to → ⊥)

  module _ (apart : (c : Bound) → IsIn c s → IsApart c) (mark : b.from.eq ≡ b.to.eq) where
    more_partner : (c d : Bound) → IsIn c s ⊎ (c ≡ b) → IsIn d s ⊎ (d ≡ b) → c.from ≡ d.from → c.to ≡ d.to
    more_partner c d (inl i) (inl j) e = m.one_partner c d i j e
    more_partner c d (inl i) (inr f) e = absurd ((apart c i).0 (e ∙ ap (λ (x : Bound). x.from) f))
    more_partner c d (inr f) (inl j) e = absurd ((apart d j).0 (sym e ∙ ap (λ (x : Bound). x.from) f))
    more_partner c d (inr f) (inr g) e = ap (λ (x : Bound). x.to) (f ∙ sym g)

    more_source : (c d : Bound) → IsIn c s ⊎ (c ≡ b) → IsIn d s ⊎ (d ≡ b) → c.to ≡ d.to → c.from ≡ d.from
    more_source c d (inl i) (inl j) e = m.one_source c d i j e
    more_source c d (inl i) (inr f) e = absurd ((apart c i).1 (e ∙ ap (λ (x : Bound). x.to) f))
    more_source c d (inr f) (inl j) e = absurd ((apart d j).1 (sym e ∙ ap (λ (x : Bound). x.to) f))
    more_source c d (inr f) (inr g) e = ap (λ (x : Bound). x.from) (f ∙ sym g)

    more_marks : (c : Bound) → IsIn c s ⊎ (c ≡ b) → c.to.eq ≡ c.from.eq
    more_marks c (inl i) = m.marks c i
    more_marks c (inr f) = ap (λ (x : Bound). x.to.eq) f ∙ sym mark ∙ ap (λ (x : Bound). x.from.eq) (sym f)

    more_obeys : (r : Renaming) → Allows s r → Binds r → (c : Bound) → IsIn c s ⊎ (c ≡ b) → r c.from ≡ c.to
    more_obeys r a e c (inl i) = a.obeys c i
    more_obeys r a e c (inr f) = ap (λ (x : Bound). r x.from) f ∙ e ∙ ap (λ (x : Bound). x.to) (sym f)

    one_more : Narrows s Binds (s ++ b ∷ [])
    one_more = record {
      matching = record {
        one_partner = λ c d i j e. more_partner c d (was_in s i) (was_in s j) e;
        one_source = λ c d i j e. more_source c d (was_in s i) (was_in s j) e;
        marks = λ c i. more_marks c (was_in s i);
      };
      told = λ r a. (record { one_to_one = a.one_to_one; keeps_marks = a.keeps_marks; obeys = λ c i. a.obeys c (in_front (b ∷ []) i) }, a.obeys b (in_end b s));
      kept = λ r a e. record { one_to_one = a.one_to_one; keeps_marks = a.keeps_marks; obeys = λ c i. more_obeys r a e c (was_in s i) };
    }

  by_mark : ((c : Bound) → IsIn c s → IsApart c) → (x : Bool) → same_mark b.from.eq b.to.eq ≡ x → Outcome s Binds (when x (Some (s ++ b ∷ [])))
  by_mark apart true e = narrowed (one_more apart (mark_is _ _ e))
  by_mark apart false e = refused (λ r a p. mark_differs _ _ e (sym (a.keeps_marks b.from) ∙ ap (λ (v : VarId). v.eq) p))

  -- the bindings that were looked at are apart from b
  abbrev LookedAt : Bindings → Type 0
  LookedAt rest = (c : Bound) → IsIn c s → IsIn c rest ⊎ IsApart c

  look_on : (c : Bound) (rest : Bindings) → LookedAt (c ∷ rest) → IsApart c → LookedAt rest
  look_on c rest looked apart d i = go (looked d i)
    where
      go : {d : Bound} → IsIn d (c ∷ rest) ⊎ IsApart d → IsIn d rest ⊎ IsApart d
      go (inl (at _)) = inr apart
      go (inl (past _ j)) = inl j
      go (inr a) = inr a

  at_end : LookedAt [] → (c : Bound) → IsIn c s → IsApart c
  at_end looked c i = elim (looked c i) [ inl j ↦ elim j [ ] | inr a ↦ a ]

  sided : (c : Bound) (rest : Bindings) → IsIn c s → LookedAt (c ∷ rest) → (LookedAt rest → Outcome s Binds (bind b s rest)) → (x y : Bool) → same_variable c.from b.from ≡ x → same_variable c.to b.to ≡ y
      → Outcome s Binds (by_sides x y (Some s) (bind b s rest))
  sided c rest i looked later true true e f = nothing_to_do m (λ r a. ap r (sym (same_is _ _ e)) ∙ a.obeys c i ∙ same_is _ _ f)
  sided c rest i looked later true false e f = refused (λ r a p. differs _ _ f (sym (a.obeys c i) ∙ ap r (same_is _ _ e) ∙ p))
  sided c rest i looked later false true e f = refused (λ r a p. differs _ _ e (a.one_to_one _ _ (a.obeys c i ∙ same_is _ _ f ∙ sym p)))
  sided c rest i looked later false false e f = later (look_on c rest looked (differs _ _ e, differs _ _ f))

  bound_right : (rest : Bindings) → ((c : Bound) → IsIn c rest → IsIn c s) → LookedAt rest → Outcome s Binds (bind b s rest)
  bound_right [] inside looked = by_mark (at_end looked) (same_mark b.from.eq b.to.eq) refl
  bound_right (c ∷ rest) inside looked =
      sided c rest (inside c (at rest)) looked (λ on. bound_right rest (λ d i. inside d (past c i)) on) (same_variable c.from b.from) (same_variable c.to b.to) refl refl

  bind_right : Outcome s Binds (bind b s s)
  bind_right = bound_right s (λ c i. i) (λ c i. inl i)

-- lists side by side
module _ {A : Type 0} (test : A → A → Bindings → Option Bindings) (name : Renaming → A → A) where
  abbrev Works : A → Type 0
  Works x = (y : A) (s : Bindings) → AreMatching s → Outcome s (λ r. name r x ≡ y) (test x y s)

  all_work : (es : List ((x : A) × Works x)) (ys : List A) (s : Bindings) → AreMatching s
      → Outcome s (λ r. map (name r) (map (λ e. e.0) es) ≡ ys) (all_met (map test (map (λ e. e.0) es)) ys s)
  all_work [] [] s m = nothing_to_do m (λ r a. refl)
  all_work [] (y ∷ ys) s m = refused (λ r a e. cc e)
  all_work (e ∷ es) [] s m = refused (λ r a e. cc e)
  all_work (e ∷ es) (y ∷ ys) s m =
      outcome_iff (λ r p. ap₂ ◌∷◌ p.0 p.1) (λ r q. (cc q, cc q))
      (outcome_then (all_met (map test (map (λ e. e.0) es)) ys) (λ now n. all_work es ys now n) (e.1 y s m))

abbrev Right : Ty → Type 0
Right = Works met renamed

abbrev FieldRight : Field → Type 0
FieldRight = Works met_field field_renamed

-- one level renamed
abbrev after : Renaming → Ty-F Ty Field → Ty-F Ty Field
after r (Var v) = Var (r v)
after r (Con name ts) = Con name (map (renamed r) ts)
after r (Rec fields) = Rec (map (field_renamed r) fields)
after r (Tup ts) = Tup (map (renamed r) ts)
after r (Arrow a b) = Arrow (renamed r a) (renamed r b)

after_roll : (r : Renaming) (x : Ty-F Ty Field) → renamed r (roll-Ty x) ≡ roll-Ty (after r x)
after_roll r (Var v) = fold-roll-Ty _ _ (rename_step r) rename_field_step (Var v) ∙ sym (rolls-Var (r v))
after_roll r (Con name ts) = fold-roll-Ty _ _ (rename_step r) rename_field_step (Con name ts) ∙ sym (rolls-Con name _)
after_roll r (Rec fields) = fold-roll-Ty _ _ (rename_step r) rename_field_step (Rec fields) ∙ sym (rolls-Rec _)
after_roll r (Tup ts) = fold-roll-Ty _ _ (rename_step r) rename_field_step (Tup ts) ∙ sym (rolls-Tup _)
after_roll r (Arrow a b) = fold-roll-Ty _ _ (rename_step r) rename_field_step (Arrow a b) ∙ sym (rolls-Arrow _ _)

name_eq : (n m : NameId) → n.0 ≡ m.0 → n ≡ m
name_eq n m e = λ i. record { 0 = e i }

no_outcome : {s : Bindings} {P : Renaming → Type 0} → ((r : Renaming) → P r → ⊥) → Outcome s P None
no_outcome never = refused (λ r a p. never r p)

level : (x : Ty-F ((t : Ty) × Right t) ((f : Field) × FieldRight f)) (y : Ty-F Ty Field) (s : Bindings) → AreMatching s
    → Outcome s (λ r. after r (map-Ty _ _ _ _ (λ e. e.0) (λ e. e.0) x) ≡ y) (met_layer (map-Ty _ _ _ _ met met_field (map-Ty _ _ _ _ (λ e. e.0) (λ e. e.0) x)) y s)
level (Var v) (Var w) s m = outcome_iff (λ r e. ap Var e) (λ r e. cc e) (bind_right (record { from = v; to = w }) s m)
level (Var v) (Con n ts) s m = no_outcome (λ r e. cc e)
level (Var v) (Rec fs) s m = no_outcome (λ r e. cc e)
level (Var v) (Tup ts) s m = no_outcome (λ r e. cc e)
level (Var v) (Arrow c d) s m = no_outcome (λ r e. cc e)
level (Con n es) (Var w) s m = no_outcome (λ r e. cc e)
level (Con n es) (Con k ts) s m =
    outcome_iff (λ r p. ap₂ Con (name_eq n k p.0) p.1) (λ r q. (cc q, cc q))
    (outcome_when (n.0 ≡ k.0) (n.0 == k.0) (Decides-eqb n.0 k.0) (all_work met renamed es ts s m))
level (Con n es) (Rec fs) s m = no_outcome (λ r e. cc e)
level (Con n es) (Tup ts) s m = no_outcome (λ r e. cc e)
level (Con n es) (Arrow c d) s m = no_outcome (λ r e. cc e)
level (Rec es) (Var w) s m = no_outcome (λ r e. cc e)
level (Rec es) (Con k ts) s m = no_outcome (λ r e. cc e)
level (Rec es) (Rec fs) s m = outcome_iff (λ r e. ap Rec e) (λ r e. cc e) (all_work met_field field_renamed es fs s m)
level (Rec es) (Tup ts) s m = no_outcome (λ r e. cc e)
level (Rec es) (Arrow c d) s m = no_outcome (λ r e. cc e)
level (Tup es) (Var w) s m = no_outcome (λ r e. cc e)
level (Tup es) (Con k ts) s m = no_outcome (λ r e. cc e)
level (Tup es) (Rec fs) s m = no_outcome (λ r e. cc e)
level (Tup es) (Tup ts) s m = outcome_iff (λ r e. ap Tup e) (λ r e. cc e) (all_work met renamed es ts s m)
level (Tup es) (Arrow c d) s m = no_outcome (λ r e. cc e)
level (Arrow a b) (Var w) s m = no_outcome (λ r e. cc e)
level (Arrow a b) (Con k ts) s m = no_outcome (λ r e. cc e)
level (Arrow a b) (Rec fs) s m = no_outcome (λ r e. cc e)
level (Arrow a b) (Tup ts) s m = no_outcome (λ r e. cc e)
level (Arrow a b) (Arrow c d) s m =
    outcome_iff (λ r p. ap₂ Arrow p.0 p.1) (λ r q. (cc q, cc q))
    (outcome_then (met b.0 d) (λ now n. b.1 d now n) (a.1 c s m))

type_right : (x : Ty-F ((t : Ty) × Right t) ((f : Field) × FieldRight f)) → Right (roll-Ty (map-Ty _ _ _ _ (λ e. e.0) (λ e. e.0) x))
type_right x u s m =
    let z : Ty-F Ty Field = map-Ty _ _ _ _ (λ e. e.0) (λ e. e.0) x in
    subst (Outcome s (λ r. renamed r (roll-Ty z) ≡ u)) (sym (ap (λ f. f u s) (fold-roll-Ty _ _ met_step met_field_step z)))
    (outcome_iff (λ r e. after_roll r z ∙ ap roll-Ty e ∙ roll-out-Ty u) (λ r e. sym (out-roll-Ty (after r z)) ∙ ap out-Ty (sym (after_roll r z) ∙ e)) (level x (out-Ty u) s m))

field_right : (label : List ℕ) (t : Ty) → Right t → FieldRight (roll-Field (record { label = label; ty = t }))
field_right label t right g s m =
    subst (Outcome s (λ r. field_renamed r (roll-Field (record { label = label; ty = t })) ≡ g)) (sym (ap (λ f. f g s) (fold-roll-Field _ _ met_step met_field_step (record { label = label; ty = t }))))
    (outcome_iff
    (λ r p. fold-roll-Field _ _ (rename_step r) rename_field_step (record { label = label; ty = t }) ∙ field_eq _ g p.0 p.1)
    (λ r e. let whole = sym (fold-roll-Field _ _ (rename_step r) rename_field_step (record { label = label; ty = t })) ∙ e in (ap (λ (z : Field). z.label) whole, ap (λ (z : Field). z.ty) whole))
    (outcome_when (label ≡ g.label) (bytes_eq label g.label) (bytes_eq-Decides label g.label) (right g.ty s m)))

-- the types meet under exactly the renamings that turn one into the other
pub met_right : (t : Ty) → Right t
met_right = ind-Ty Right FieldRight (λ x y is. subst (λ z. Right (roll-Ty z)) is (type_right y)) (λ x y is. subst (λ z. FieldRight (roll-Field z)) is (field_right y.label y.ty.0 y.ty.1))
