-- The test whether two types are equal says so exactly where they are.
use Rattle.std.proofs.Common.{◌≡◌, ℕ, ◌==◌, ◌&&◌, Bool, true, false, true≢false, List, [], ◌∷◌, map, bytes_eq, refl, sym, ap, ap₂, ◌∙◌, subst}
use Rattle.std.specs.Bool.{Decides}
use Rattle.std.proofs.lemmas.Bool.Decides.{Decides-at, Decides-like, Decides-and, Decides-eqb}
use Rattle.std.proofs.lemmas.Slice.Eq.{bytes_eq-Decides}
use Rattle.type_core.specs.declared.ty.VarId.{VarId}
use Rattle.type_core.specs.declared.ty.NameId.{NameId}
use Rattle.type_core.specs.declared.ty.Ty.{Ty}
use Rattle.type_core.specs.declared.ty.Field.{Field}
use Rattle.type_core.specs.declared.ty.Ty.TheOpen.{Ty-F, Var, Con, Rec, Tup, Arrow}
use Rattle.type_core.specs.declared.ty.Ty.TheViews.{out-Ty, roll-Ty, roll-Field, out-roll-Ty, roll-out-Ty}
use Rattle.type_core.specs.declared.ty.Ty.TheFolds.{map-Ty, fold-roll-Ty, fold-roll-Field, ind-Ty}
use Rattle.type_core.specs.EqualTypes.{all_pass, equal_step, equal_types_step, equal_fields_step, types_equal, fields_equal}
use Rattle.type_core.specs.Variables.{same_variable}
use Rattle.type_core.proofs.Places.{same_is, same_itself}
use Rattle.type_core.proofs.Renamed.{field_eq}

abbrev Told : Ty → Type 0
Told t = (u : Ty) → Decides (types_equal t u) (t ≡ u)

abbrev FieldTold : Field → Type 0
FieldTold f = (g : Field) → Decides (fields_equal f g) (f ≡ g)

unequal : {P : Type 0} → (P → ⊥) → Decides false P
unequal f = (λ e. absurd (true≢false (sym e)), λ p. absurd (f p))

all_told : {A : Type 0} (test : A → A → Bool) (es : List ((x : A) × ((y : A) → Decides (test x y) (x ≡ y)))) (ys : List A)
    → Decides (all_pass (map test (map (λ e. e.0) es)) ys) (map (λ e. e.0) es ≡ ys)
all_told test [] [] = (λ e. refl, λ e. refl)
all_told test [] (y ∷ ys) = unequal (λ e. cc)
all_told test (x ∷ es) [] = unequal (λ e. cc)
all_told test (x ∷ es) (y ∷ ys) =
    Decides-like (test x.0 y && all_pass (map test (map (λ e. e.0) es)) ys) (λ p. ap₂ ◌∷◌ p.0 p.1) (λ q. (cc, cc))
    (Decides-and (test x.0 y) (all_pass (map test (map (λ e. e.0) es)) ys) (x.1 y) (all_told test es ys))

variable_told : (v w : VarId) → Decides (same_variable v w) (v ≡ w)
variable_told v w = (same_is v w, λ e. subst (λ z. same_variable v z ≡ true) e (same_itself v))

name_eq : (n m : NameId) → n.0 ≡ m.0 → n ≡ m
name_eq n m e = λ i. record { 0 = e i }

name_told : (n m : NameId) → Decides (n.0 == m.0) (n ≡ m)
name_told n m = Decides-like (n.0 == m.0) (name_eq n m) (λ e. ap (λ z. z.0) e) (Decides-eqb n.0 m.0)

-- one level, where the parts are told
level : (x : Ty-F ((t : Ty) × Told t) ((f : Field) × FieldTold f)) (y : Ty-F Ty Field)
    → Decides (equal_step (map-Ty _ _ _ _ types_equal fields_equal (map-Ty _ _ _ _ (λ e. e.0) (λ e. e.0) x)) y) (map-Ty _ _ _ _ (λ e. e.0) (λ e. e.0) x ≡ y)
level (Var v) (Var w) = Decides-like (same_variable v w) (λ e. ap Var e) (λ e. cc) (variable_told v w)
level (Var v) (Con m ts) = unequal (λ e. cc)
level (Var v) (Rec fs) = unequal (λ e. cc)
level (Var v) (Tup ts) = unequal (λ e. cc)
level (Var v) (Arrow c d) = unequal (λ e. cc)
level (Con n es) (Var w) = unequal (λ e. cc)
level (Con n es) (Con m ts) =
    Decides-like ((n.0 == m.0) && all_pass (map types_equal (map (λ e. e.0) es)) ts) (λ p. ap₂ Con p.0 p.1) (λ q. (cc, cc))
    (Decides-and (n.0 == m.0) (all_pass (map types_equal (map (λ e. e.0) es)) ts) (name_told n m) (all_told types_equal es ts))
level (Con n es) (Rec fs) = unequal (λ e. cc)
level (Con n es) (Tup ts) = unequal (λ e. cc)
level (Con n es) (Arrow c d) = unequal (λ e. cc)
level (Rec es) (Var w) = unequal (λ e. cc)
level (Rec es) (Con m ts) = unequal (λ e. cc)
level (Rec es) (Rec fs) = Decides-like (all_pass (map fields_equal (map (λ e. e.0) es)) fs) (λ e. ap Rec e) (λ e. cc) (all_told fields_equal es fs)
level (Rec es) (Tup ts) = unequal (λ e. cc)
level (Rec es) (Arrow c d) = unequal (λ e. cc)
level (Tup es) (Var w) = unequal (λ e. cc)
level (Tup es) (Con m ts) = unequal (λ e. cc)
level (Tup es) (Rec fs) = unequal (λ e. cc)
level (Tup es) (Tup ts) = Decides-like (all_pass (map types_equal (map (λ e. e.0) es)) ts) (λ e. ap Tup e) (λ e. cc) (all_told types_equal es ts)
level (Tup es) (Arrow c d) = unequal (λ e. cc)
level (Arrow a b) (Var w) = unequal (λ e. cc)
level (Arrow a b) (Con m ts) = unequal (λ e. cc)
level (Arrow a b) (Rec fs) = unequal (λ e. cc)
level (Arrow a b) (Tup ts) = unequal (λ e. cc)
level (Arrow a b) (Arrow c d) =
    Decides-like (types_equal a.0 c && types_equal b.0 d) (λ p. ap₂ Arrow p.0 p.1) (λ q. (cc, cc))
    (Decides-and (types_equal a.0 c) (types_equal b.0 d) (a.1 c) (b.1 d))

type_told : (x : Ty-F ((t : Ty) × Told t) ((f : Field) × FieldTold f)) → Told (roll-Ty (map-Ty _ _ _ _ (λ e. e.0) (λ e. e.0) x))
unfolding types_equal fields_equal
type_told x u =
    let z : Ty-F Ty Field = map-Ty _ _ _ _ (λ e. e.0) (λ e. e.0) x in
    Decides-at (types_equal (roll-Ty z) u) (equal_step (map-Ty _ _ _ _ types_equal fields_equal z) (out-Ty u)) (ap (λ f. f u) (fold-roll-Ty _ _ equal_types_step equal_fields_step z))
    (Decides-like (equal_step (map-Ty _ _ _ _ types_equal fields_equal z) (out-Ty u)) (λ e. ap roll-Ty e ∙ roll-out-Ty u) (λ e. sym (out-roll-Ty z) ∙ ap out-Ty e) (level x (out-Ty u)))

field_told : (label : List ℕ) (t : Ty) → Told t → FieldTold (roll-Field (record { label = label; ty = t }))
unfolding types_equal fields_equal
field_told label t told g =
    Decides-at (fields_equal (roll-Field (record { label = label; ty = t })) g) (bytes_eq label g.label && types_equal t g.ty)
    (ap (λ f. f g) (fold-roll-Field _ _ equal_types_step equal_fields_step (record { label = label; ty = t })))
    (Decides-like (bytes_eq label g.label && types_equal t g.ty) (λ p. field_eq _ g p.0 p.1) (λ e. (ap (λ (z : Field). z.label) e, ap (λ (z : Field). z.ty) e))
    (Decides-and (bytes_eq label g.label) (types_equal t g.ty) (bytes_eq-Decides label g.label) (told g.ty)))

pub types_equal_decides : (t u : Ty) → Decides (types_equal t u) (t ≡ u)
types_equal_decides = ind-Ty Told FieldTold (λ x y is. subst (λ z. Told (roll-Ty z)) is (type_told y)) (λ x y is. subst (λ z. FieldTold (roll-Field z)) is (field_told y.label y.ty.0 y.ty.1))
