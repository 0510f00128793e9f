-- The type of a type expression, by its outermost form.
use Rattle.std.proofs.Common.{◌≡◌, List, [], map, Ok, sym, ap, ◌∙◌}
use Rattle.ty_parser.specs.declared.tree.FieldExp.{FieldExp}
use Rattle.ty_parser.specs.declared.tree.TyExp.{TyExp}
use Rattle.ty_parser.specs.declared.tree.TyExp.TheVariants as e
use Rattle.ty_parser.specs.declared.tree.TyExp.TheVariants.{rolls-Fields, rolls-Tuple, rolls-Arrows}
use Rattle.ty_parser.specs.declared.tree.TyExp.TheOpen.{Fields, Tuple, Arrows}
use Rattle.ty_parser.specs.declared.tree.TyExp.TheFolds.{fold-roll-TyExp}
use Rattle.type_core.specs.declared.ty.Field.{Field}
use Rattle.type_core.specs.declared.ty.Ty.{Ty}
use Rattle.type_core.specs.declared.ty.Ty.TheVariants as ty
use Rattle.elab_types.specs.Outcome.{and_then}
use Rattle.elab_rules.specs.States.{State}
use Rattle.elab_rules.specs.Types.{Place, all_typed, field_typed, fields_typed, limited, typed, typed_field_step, typed_step}
use Rattle.type_core.specs.Arrows.{arrows}
use Rattle.elab_types.specs.Records.{in_label_order, record_of}

typed_fields : (fields : List FieldExp) → typed (e.Fields fields) ≡ typed_step (Fields (map field_typed fields))
typed_fields fields = ap typed (sym (rolls-Fields fields)) ∙ fold-roll-TyExp _ _ typed_step typed_field_step _

typed_tuple : (parts : List TyExp) → typed (e.Tuple parts) ≡ typed_step (Tuple (map typed parts))
typed_tuple parts = ap typed (sym (rolls-Tuple parts)) ∙ fold-roll-TyExp _ _ typed_step typed_field_step _

typed_arrows : (sides : List TyExp) → typed (e.Arrows sides) ≡ typed_step (Arrows (map typed sides))
typed_arrows sides = ap typed (sym (rolls-Arrows sides)) ∙ fold-roll-TyExp _ _ typed_step typed_field_step _

pub fields_are : (x : TyExp) (fields items : List FieldExp) (p : Place) (s t : State) (done : List Field) → x ≡ e.Fields fields → items ≡ fields → fields_typed p [] (map field_typed items) s ≡ Ok (done, t)
    → typed x p s ≡ limited p.first (record_of (in_label_order done)) t
fields_are x fields items p s t done is same ok =
    ap (λ y. typed y p s) is
    ∙ ap (λ f. f p s) (typed_fields fields)
    ∙ ap (λ o. and_then o (λ r. limited p.first (record_of (in_label_order r.0)) r.1)) (ap (λ xs. fields_typed p [] (map field_typed xs) s) (sym same) ∙ ok)

pub tuple_is : (x : TyExp) (parts items : List TyExp) (p : Place) (s t : State) (done : List Ty) → x ≡ e.Tuple parts → items ≡ parts → all_typed (map typed items) p s ≡ Ok (done, t)
    → typed x p s ≡ limited p.first (ty.Tup done) t
tuple_is x parts items p s t done is same ok =
    ap (λ y. typed y p s) is
    ∙ ap (λ f. f p s) (typed_tuple parts)
    ∙ ap (λ o. and_then o (λ r. limited p.first (ty.Tup r.0) r.1)) (ap (λ xs. all_typed (map typed xs) p s) (sym same) ∙ ok)

pub arrows_are : (x : TyExp) (sides items : List TyExp) (p : Place) (s t : State) (done : List Ty) → x ≡ e.Arrows sides → items ≡ sides → all_typed (map typed items) p s ≡ Ok (done, t)
    → typed x p s ≡ limited p.first (arrows done) t
arrows_are x sides items p s t done is same ok =
    ap (λ y. typed y p s) is
    ∙ ap (λ f. f p s) (typed_arrows sides)
    ∙ ap (λ o. and_then o (λ r. limited p.first (arrows r.0) r.1)) (ap (λ xs. all_typed (map typed xs) p s) (sym same) ∙ ok)
