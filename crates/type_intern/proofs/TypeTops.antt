-- The tops of types.
use Rattle.std.proofs.Common.{◌≡◌, ◌<◌, ℕ, List, [], ◌∷◌, ◌++◌, Some, map, length, refl, sym, ap, ap₂, ◌∙◌}
use Rattle.std.proofs.lemmas.Option.{slice_get-get_or}
use Rattle.std.proofs.lemmas.List.{get_or_append_left}
use Rattle.type_core.specs.declared.ty.Ty.{Ty}
use Rattle.type_core.specs.declared.ty.Field.{Field}
use Rattle.type_core.specs.declared.ty.Ty.TheVariants as ty
use Rattle.type_core.specs.declared.ty.Ty.TheVariants.{outs-Var, outs-Con, outs-Rec, outs-Tup, outs-Arrow}
use Rattle.type_core.specs.declared.ty.Ty.TheOpen as open_ty
use Rattle.type_core.specs.declared.ty.Ty.TheOpen.{Ty-F}
use Rattle.type_core.specs.declared.ty.Ty.TheViews.{out-Ty}
use Rattle.type_intern.specs.declared.node.TyId.{TyId}
use Rattle.type_intern.specs.declared.node.FieldId.{FieldId}
use Rattle.type_intern.specs.declared.node.Node.{Node}
use Rattle.type_intern.specs.declared.node.Node.TheVariants.{Var, Con, Rec, Tup, Arrow}
use Rattle.type_intern.specs.Numbering.{AllBelow, StandsOnce}
use Rattle.type_intern.specs.Tops.{FitsBelow, field_at, field_numbers, parts_of, tree_of, type_at, type_numbers}
use Rattle.type_intern.proofs.Places.{below_weaker}
use Rattle.type_intern.proofs.Placing.{AreTops}

-- parts below the length mean the same where more types follow
ids_grow : (types more : List Ty) (ids : List TyId) → AllBelow (length types) (type_numbers ids)
    → map (type_at (types ++ more)) ids ≡ map (type_at types) ids
ids_grow types more [] h = refl
ids_grow types more (id ∷ ids) h = ap₂ ◌∷◌ (get_or_append_left types more (ty.Tup []) id.0 h.0)
    (ids_grow types more ids h.1)

fields_grow : (types more : List Ty) (fs : List FieldId) → AllBelow (length types) (field_numbers fs)
    → map (field_at (types ++ more)) fs ≡ map (field_at types) fs
fields_grow types more [] h = refl
fields_grow types more (f ∷ fs) h = ap₂ ◌∷◌ (ap (λ (t : Ty). record { label = f.label; ty = t })
    (get_or_append_left types more (ty.Tup []) f.ty.0 h.0)) (fields_grow types more fs h.1)

pub tree_grows : (types more : List Ty) (n : Node) → AllBelow (length types) (parts_of n)
    → tree_of (types ++ more) n ≡ tree_of types n
tree_grows types more (Var v) h = refl
tree_grows types more (Con name ids) h = ap (ty.Con name) (ids_grow types more ids h)
tree_grows types more (Rec fs) h = ap ty.Rec (fields_grow types more fs h)
tree_grows types more (Tup ids) h = ap ty.Tup (ids_grow types more ids h)
tree_grows types more (Arrow a b) h = ap₂ ty.Arrow (get_or_append_left types more (ty.Tup []) a.0 h.0)
    (get_or_append_left types more (ty.Tup []) b.0 h.1.0)

-- where no type stands twice, numbers of one type are one
pub at_once : (types : List Ty) → StandsOnce types → (a b : TyId) → a.0 < length types → b.0 < length types
    → type_at types a ≡ type_at types b → a ≡ b
at_once types once a b p q e =
    let same : a.0 ≡ b.0 = once a.0 b.0 (type_at types b) (slice_get-get_or types a.0 (ty.Tup []) p ∙ ap Some e)
    (slice_get-get_or types b.0 (ty.Tup []) q) in
    ap (λ (n : ℕ). record { 0 = n }) same

ids_once : (types : List Ty) → StandsOnce types → (ids js : List TyId) → AllBelow (length types) (type_numbers ids)
    → AllBelow (length types) (type_numbers js) → map (type_at types) ids ≡ map (type_at types) js → ids ≡ js
ids_once types once [] [] p q e = refl
ids_once types once [] (j ∷ js) p q e = cc e
ids_once types once (i ∷ ids) [] p q e = cc e
ids_once types once (i ∷ ids) (j ∷ js) p q e =
    let first : type_at types i ≡ type_at types j = cc e in
    let others : map (type_at types) ids ≡ map (type_at types) js = cc e in
    ap₂ ◌∷◌ (at_once types once i j p.0 q.0 first) (ids_once types once ids js p.1 q.1 others)

fields_once : (types : List Ty) → StandsOnce types → (fs gs : List FieldId) → AllBelow (length types) (field_numbers fs)
    → AllBelow (length types) (field_numbers gs) → map (field_at types) fs ≡ map (field_at types) gs → fs ≡ gs
fields_once types once [] [] p q e = refl
fields_once types once [] (j ∷ js) p q e = cc e
fields_once types once (i ∷ ids) [] p q e = cc e
fields_once types once (f ∷ fs) (g ∷ gs) p q e =
    let first : field_at types f ≡ field_at types g = cc e in
    let others : map (field_at types) fs ≡ map (field_at types) gs = cc e in
    let label : f.label ≡ g.label = ap (λ (x : Field). x.label) first in
    let part : f.ty ≡ g.ty = at_once types once f.ty g.ty p.0 q.0 (ap (λ (x : Field). x.ty) first) in
    ap₂ ◌∷◌ (ap₂ (λ (l : List ℕ) (t : TyId). record { label = l; ty = t }) label part)
    (fields_once types once fs gs p.1 q.1 others)

top_of : List Ty → Node → Ty-F Ty Field
top_of types (Var v) = open_ty.Var v
top_of types (Con name ids) = open_ty.Con name (map (type_at types) ids)
top_of types (Rec fields) = open_ty.Rec (map (field_at types) fields)
top_of types (Tup ids) = open_ty.Tup (map (type_at types) ids)
top_of types (Arrow a b) = open_ty.Arrow (type_at types a) (type_at types b)

top_is : (types : List Ty) (n : Node) → out-Ty (tree_of types n) ≡ top_of types n
unfolding top_of
top_is types (Var v) = outs-Var v
top_is types (Con name ids) = outs-Con name _
top_is types (Rec fields) = outs-Rec _
top_is types (Tup ids) = outs-Tup _
top_is types (Arrow a b) = outs-Arrow _ _

tops_once : (types : List Ty) → StandsOnce types → (n m : Node) → AllBelow (length types) (parts_of n)
    → AllBelow (length types) (parts_of m) → top_of types n ≡ top_of types m → n ≡ m
unfolding top_of
tops_once types once (Var v) (Var w) p q e = let same : v ≡ w = cc e in ap Var same
tops_once types once (Con name ids) (Con other js) p q e =
    let same : name ≡ other = cc e in
    let parts : map (type_at types) ids ≡ map (type_at types) js = cc e in
    ap₂ Con same (ids_once types once ids js p q parts)
tops_once types once (Rec fs) (Rec gs) p q e =
    let parts : map (field_at types) fs ≡ map (field_at types) gs = cc e in
    ap Rec (fields_once types once fs gs p q parts)
tops_once types once (Tup ids) (Tup js) p q e =
    let parts : map (type_at types) ids ≡ map (type_at types) js = cc e in
    ap Tup (ids_once types once ids js p q parts)
tops_once types once (Arrow a b) (Arrow c d) p q e =
    let from : type_at types a ≡ type_at types c = cc e in
    let to : type_at types b ≡ type_at types d = cc e in
    ap₂ Arrow (at_once types once a c p.0 q.0 from) (at_once types once b d p.1.0 q.1.0 to)
tops_once types once (Var v) (Con other js) p q e = cc e
tops_once types once (Var v) (Rec gs) p q e = cc e
tops_once types once (Var v) (Tup js) p q e = cc e
tops_once types once (Var v) (Arrow c d) p q e = cc e
tops_once types once (Con name ids) (Var w) p q e = cc e
tops_once types once (Con name ids) (Rec gs) p q e = cc e
tops_once types once (Con name ids) (Tup js) p q e = cc e
tops_once types once (Con name ids) (Arrow c d) p q e = cc e
tops_once types once (Rec fs) (Var w) p q e = cc e
tops_once types once (Rec fs) (Con other js) p q e = cc e
tops_once types once (Rec fs) (Tup js) p q e = cc e
tops_once types once (Rec fs) (Arrow c d) p q e = cc e
tops_once types once (Tup ids) (Var w) p q e = cc e
tops_once types once (Tup ids) (Con other js) p q e = cc e
tops_once types once (Tup ids) (Rec gs) p q e = cc e
tops_once types once (Tup ids) (Arrow c d) p q e = cc e
tops_once types once (Arrow a b) (Var w) p q e = cc e
tops_once types once (Arrow a b) (Con other js) p q e = cc e
tops_once types once (Arrow a b) (Rec gs) p q e = cc e
tops_once types once (Arrow a b) (Tup js) p q e = cc e

pub tree_once : (types : List Ty) → StandsOnce types → (n m : Node) → AllBelow (length types) (parts_of n)
    → AllBelow (length types) (parts_of m) → tree_of types n ≡ tree_of types m → n ≡ m
tree_once types once n m p q e = tops_once types once n m p q (sym (top_is types n) ∙ ap out-Ty e ∙ top_is types m)

pub type_tops : AreTops tree_of FitsBelow
type_tops = record {
  weaker = λ k n node l h. below_weaker k n (parts_of node) l h;
  grows = tree_grows;
  apart = tree_once;
}
