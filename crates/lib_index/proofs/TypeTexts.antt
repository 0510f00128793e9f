-- The text of each form of type.
use Rattle.std.proofs.Common.{◌≡◌, List, ◌∷◌, ◌++◌, map, sym, ap, ◌∙◌}
use Rattle.std.proofs.lemmas.List.{length-map}
use Rattle.lib_index.specs.IndexText.{bytes_text, field_step, field_text, list_text, number_text, type_step, type_text}
use Rattle.type_core.specs.declared.ty.Field.{Field}
use Rattle.type_core.specs.declared.ty.NameId.{NameId}
use Rattle.type_core.specs.declared.ty.Ty.{Ty}
use Rattle.type_core.specs.declared.ty.Ty.TheFolds.{fold-roll-Field, fold-roll-Ty}
use Rattle.type_core.specs.declared.ty.Ty.TheVariants as ty
use Rattle.type_core.specs.declared.ty.Ty.TheVariants.{rolls-Var, rolls-Con, rolls-Rec, rolls-Tup, rolls-Arrow}
use Rattle.type_core.specs.declared.ty.VarId.{VarId}
use Rattle.type_core.specs.Lists.{concatenated}

pub text_var : (v : VarId) → type_text (ty.Var v) ≡ 0 ∷ number_text v.n
text_var v = ap type_text (sym (rolls-Var v)) ∙ fold-roll-Ty _ _ type_step field_step _

pub text_con : (name : NameId) (ts : List Ty) → type_text (ty.Con name ts) ≡ 1 ∷ (number_text name.0 ++ concatenated
    (map type_text ts))
text_con name ts = ap type_text (sym (rolls-Con name ts)) ∙ fold-roll-Ty _ _ type_step field_step _

pub text_tup : (ts : List Ty) → type_text (ty.Tup ts) ≡ 2 ∷ list_text type_text ts
text_tup ts = ap type_text (sym (rolls-Tup ts)) ∙ fold-roll-Ty _ _ type_step field_step _
    ∙ ap (λ n. 2 ∷ (number_text n ++ concatenated (map type_text ts))) (length-map ts type_text)

pub text_arrow : (a b : Ty) → type_text (ty.Arrow a b) ≡ 3 ∷ (type_text a ++ type_text b)
text_arrow a b = ap type_text (sym (rolls-Arrow a b)) ∙ fold-roll-Ty _ _ type_step field_step _

pub text_rec : (fields : List Field) → type_text (ty.Rec fields) ≡ 4 ∷ list_text field_text fields
text_rec fields = ap type_text (sym (rolls-Rec fields)) ∙ fold-roll-Ty _ _ type_step field_step _
    ∙ ap (λ n. 4 ∷ (number_text n ++ concatenated (map field_text fields))) (length-map fields field_text)

pub text_field : (field : Field) → field_text field ≡ bytes_text field.label ++ type_text field.ty
text_field field = fold-roll-Field _ _ type_step field_step (record { label = field.label; ty = field.ty })
