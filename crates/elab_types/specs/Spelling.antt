-- The type expressions of a text are spelled as the grammar has them. A token is its number in the text, and `texts` are the texts of all its tokens.
use Rattle.std.specs.Prelude.{ℕ, ◌≤◌, List, [], ◌∷◌, length}
use Rattle.ty_parser.specs.declared.tree.FieldExp.{FieldExp}
use Rattle.ty_parser.specs.declared.tree.TyExp.{TyExp}
use Rattle.ty_parser.specs.declared.tree.TyExp.TheVariants as ty
use Rattle.type_core.specs.ValidLibrary.{IsLabel}
use Rattle.elab_types.specs.Sources.{text_at}

mutual
  -- a type expression is spelled as the grammar has it: each label is one, each tuple has at least two parts, and each application at least one constructor
  pub data IsSpelledType (texts : List (List ℕ)) : TyExp → Type 0 where
    variable : {token : ℕ} → IsSpelledType texts (ty.Var token)
    fields : {fields : List FieldExp} → AreSpelledFields texts fields → IsSpelledType texts (ty.Fields fields)
    tuple : {parts : List TyExp} → 2 ≤ length parts → AreSpelledTypes texts parts → IsSpelledType texts (ty.Tuple parts)
    arrows : {sides : List TyExp} → AreSpelledTypes texts sides → IsSpelledType texts (ty.Arrows sides)
    application : {arguments : List TyExp} {constructors : List ℕ} → AreSpelledTypes texts arguments → 1 ≤ length constructors → IsSpelledType texts (ty.Apply arguments constructors)

  -- each of the type expressions is spelled so
  pub data AreSpelledTypes (texts : List (List ℕ)) : List TyExp → Type 0 where
    no_types : AreSpelledTypes texts []
    more_types : {e : TyExp} {es : List TyExp} → IsSpelledType texts e → AreSpelledTypes texts es → AreSpelledTypes texts (e ∷ es)

  -- each of the fields has a label that is one, and its type is spelled so
  pub data AreSpelledFields (texts : List (List ℕ)) : List FieldExp → Type 0 where
    no_fields : AreSpelledFields texts []
    more_fields : {field : FieldExp} {fields : List FieldExp} → IsLabel (text_at texts field.label) → IsSpelledType texts field.ty → AreSpelledFields texts fields → AreSpelledFields texts (field ∷ fields)
