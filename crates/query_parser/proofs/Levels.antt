-- The type of a type expression, by its outermost form.
use Rattle.std.proofs.Common.{◌≡◌, ℕ, ◌+◌, ◌<◌, true, false, List, [], ◌∷◌, ◌++◌, map, length, drop, get_or, Result, Ok, Err, refl, sym, ap, ◌∙◌, subst, rules}
use Rattle.std.proofs.lemmas.Bool.{lt-leb}
use Rattle.ty_parser.specs.declared.tree.FieldExp.{FieldExp}
use Rattle.ty_parser.specs.declared.tree.TyExp.{TyExp}
use Rattle.ty_parser.specs.declared.tree.TyExp.TheVariants as e
use Rattle.ty_parser.specs.declared.tree.TyExp.TheVariants.{rolls-Apply, rolls-Arrows, rolls-Fields, rolls-Tuple, rolls-Var}
use Rattle.ty_parser.specs.declared.tree.TyExp.TheOpen.{Apply, Arrows, Fields, Tuple, Var}
use Rattle.ty_parser.specs.declared.tree.TyExp.TheFolds.{fold-roll-TyExp, fold_out-FieldExp}
use Rattle.type_core.specs.declared.ty.Field.{Field}
use Rattle.type_core.specs.declared.ty.Ty.{Ty}
use Rattle.type_core.specs.declared.ty.Ty.TheVariants as ty
use Rattle.type_core.specs.Size.{size_of}
use Rattle.type_core.specs.Arrows.{arrows}
use Rattle.elab_types.specs.Outcome.{Outcome, and_then, checked, failed}
use Rattle.elab_types.specs.Records.{in_label_order, is_new_label, record_of}
use Rattle.elab_types.specs.Sources.{text_at}
use Rattle.elab_types.proofs.Lists.{dropped}
use Rattle.query_parser.specs.declared.refusal.QueryWhy.{QueryWhy}
use Rattle.query_parser.specs.declared.refusal.QueryWhy.TheVariants.{Duplicate, TooLarge}
use Rattle.query_parser.specs.declared.refusal.Stop.{Stop}
use Rattle.query_parser.specs.Types.{Place, all_typed, field_typed, fields_typed, limited, typed, typed_field_step, typed_step}
use Rattle.query_parser.specs.Views.{Gives}
use Rattle.query_parser.proofs.Giving.{fails_then}

pub typed_var : (token : ℕ) → typed (e.Var token) ≡ typed_step (Var token)
typed_var token = ap typed (sym (rolls-Var token)) ∙ fold-roll-TyExp _ _ typed_step typed_field_step _

pub typed_fields : (fields : List FieldExp) → typed (e.Fields fields) ≡ typed_step (Fields (map field_typed fields))
typed_fields fields = ap typed (sym (rolls-Fields fields)) ∙ fold-roll-TyExp _ _ typed_step typed_field_step _

pub typed_tuple : (parts : List TyExp) → typed (e.Tuple parts) ≡ typed_step (Tuple (map typed parts))
typed_tuple parts = ap typed (sym (rolls-Tuple parts)) ∙ fold-roll-TyExp _ _ typed_step typed_field_step _

pub typed_arrows : (sides : List TyExp) → typed (e.Arrows sides) ≡ typed_step (Arrows (map typed sides))
typed_arrows sides = ap typed (sym (rolls-Arrows sides)) ∙ fold-roll-TyExp _ _ typed_step typed_field_step _

pub typed_apply : (arguments : List TyExp) (tokens : List ℕ) → typed (e.Apply arguments tokens) ≡ typed_step (Apply (map typed arguments) tokens)
typed_apply arguments tokens = ap typed (sym (rolls-Apply arguments tokens)) ∙ fold-roll-TyExp _ _ typed_step typed_field_step _

pub field_is : (part : FieldExp) → field_typed part ≡ (part.label, typed part.ty)
field_is part = search (rules, fold_out-FieldExp)

-- ---- the limit
pub too_large : (t : Ty) → 200 < size_of t → limited t ≡ failed TooLarge 0
too_large t more = rw (lt-leb (size_of t) 200 more) refl

-- ---- where the parts have types
pub fields_are : (x : TyExp) (fields items : List FieldExp) (p : Place) (done : List Field) → x ≡ e.Fields fields → items ≡ fields → fields_typed p [] (map field_typed items) ≡ Ok done
    → typed x p ≡ limited (record_of (in_label_order done))
fields_are x fields items p done is same ok =
    ap (λ y. typed y p) is
    ∙ ap (λ f. f p) (typed_fields fields)
    ∙ ap (λ o. and_then o (λ r. limited (record_of (in_label_order r)))) (ap (λ xs. fields_typed p [] (map field_typed xs)) (sym same) ∙ ok)

pub tuple_is : (x : TyExp) (parts items : List TyExp) (p : Place) (done : List Ty) → x ≡ e.Tuple parts → items ≡ parts → all_typed (map typed items) p ≡ Ok done → typed x p ≡ limited (ty.Tup done)
tuple_is x parts items p done is same ok =
    ap (λ y. typed y p) is
    ∙ ap (λ f. f p) (typed_tuple parts)
    ∙ ap (λ o. and_then o (λ r. limited (ty.Tup r))) (ap (λ xs. all_typed (map typed xs) p) (sym same) ∙ ok)

pub arrows_are : (x : TyExp) (sides items : List TyExp) (p : Place) (done : List Ty) → x ≡ e.Arrows sides → items ≡ sides → all_typed (map typed items) p ≡ Ok done → typed x p ≡ limited (arrows done)
arrows_are x sides items p done is same ok =
    ap (λ y. typed y p) is
    ∙ ap (λ f. f p) (typed_arrows sides)
    ∙ ap (λ o. and_then o (λ r. limited (arrows r))) (ap (λ xs. all_typed (map typed xs) p) (sym same) ∙ ok)

-- ---- the field whose turn it is
module _ (p : Place) (done : List Field) (parts : List FieldExp) (i : ℕ) (part d : FieldExp) (text : List ℕ) (whole : Outcome QueryWhy (List Field)) (within : i < length parts) (is : part ≡ get_or parts i d) (named : text ≡ text_at p.texts part.label)
    (so_far : fields_typed p done (map field_typed (drop i parts)) ≡ whole) where
  abbrev rest : Outcome QueryWhy (List Field)
  rest = and_then (typed part.ty p) (λ t. fields_typed p (done ++ record { label = text_at p.texts part.label; ty = t } ∷ []) (map field_typed (drop (i + 1) parts)))

  next : checked (is_new_label text done) Duplicate part.label rest ≡ whole
  next =
      ap (λ l. checked (is_new_label l done) Duplicate part.label rest) named
      ∙ sym (ap (λ xs. fields_typed p done (map field_typed xs)) (dropped parts i part d within is)
      ∙ ap (λ first. fields_typed p done (first ∷ map field_typed (drop (i + 1) parts))) (field_is part))
      ∙ so_far

  pub fields_twice : is_new_label text done ≡ false → whole ≡ failed Duplicate part.label
  fields_twice old = sym next ∙ ap (λ new. checked new Duplicate part.label rest) old

  fields_on : is_new_label text done ≡ true → rest ≡ whole
  fields_on new = sym (ap (λ b. checked b Duplicate part.label rest) new) ∙ next

  pub fields_fail : (stop : Stop) (result : Result (List Field) Stop) → is_new_label text done ≡ true → result ≡ Err stop → Gives {A = Ty} (typed part.ty p) (Err stop) → Gives whole result
  fields_fail stop result new handed gives =
      subst (λ r. Gives whole r) (sym handed)
      (subst (λ o. Gives {A = List Field} o (Err stop)) (fields_on new) (fails_then (typed part.ty p) _ stop gives))

  pub fields_more : (pushed : List Field) (label : List ℕ) (t : Ty) → is_new_label text done ≡ true → typed part.ty p ≡ Ok t → label ≡ text → pushed ≡ done ++ record { label = label; ty = t } ∷ []
      → fields_typed p pushed (map field_typed (drop (i + 1) parts)) ≡ whole
  fields_more pushed label t new ok same push =
      ap (λ fields. fields_typed p fields (map field_typed (drop (i + 1) parts))) (push ∙ ap (λ l. done ++ record { label = l; ty = t } ∷ []) (same ∙ named))
      ∙ sym (ap (λ o. and_then o (λ r. fields_typed p (done ++ record { label = text_at p.texts part.label; ty = r } ∷ []) (map field_typed (drop (i + 1) parts)))) ok)
      ∙ fields_on new
