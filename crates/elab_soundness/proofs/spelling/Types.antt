-- The type expressions of a file are spelled as the grammar has them.
use Rattle.std.proofs.Common.{◌≡◌, ℕ, ◌+◌, ◌≤◌, List, [], ◌∷◌, ◌++◌, length, arith}
use Rattle.std.proofs.lemmas.List.{length-append}
use Rattle.std.proofs.lemmas.List.Elements.{All-cons, All-nil, All-push}
use Rattle.std.specs.List.{All}
use Rattle.ty_parser.specs.declared.tree.TyExp.{TyExp}
use Rattle.ty_parser.specs.declared.tree.TyExp.TheVariants as ty
use Rattle.ty_parser.specs.declared.tree.FieldExp.{FieldExp}
use Rattle.ty_parser.specs.Grammar.{Numbered, of_parts, field, Ty, sides, Sides, one_side, more_sides, Tuple, parts, Parts, one_part, more_parts, App, alone, applied, Applied, to_none, to_one, to_more, further, Unary, variable, no_fields, fields, parens, Fields, one_field, more_fields, Types, one_type, more_types}
use Rattle.type_core.specs.ValidLibrary.{IsLabel}
use Rattle.elab_types.specs.Sources.{text_at}
use Rattle.elab_soundness.specs.Spelling as spelling
use Rattle.elab_soundness.specs.Spelling.{IsSpelledType, AreSpelledTypes, AreSpelledFields, NamesLongType}
use Rattle.elab_types.proofs.spelling.Sorts.{label_text}
use Rattle.elab_soundness.proofs.spelling.Tokens.{HaveTexts, type_name}

some_more : {A : Type 0} (xs : List A) (x : A) → 1 ≤ length (xs ++ x ∷ [])
some_more xs x = let e : length (xs ++ x ∷ []) ≡ length xs + 1 = length-append xs (x ∷ []) in omega arith

module _ (texts : List (List ℕ)) where
  types_push : {es : List TyExp} {e : TyExp} → AreSpelledTypes texts es → IsSpelledType texts e → AreSpelledTypes texts (es ++ e ∷ [])
  types_push spelling.no_types h = spelling.more_types h spelling.no_types
  types_push (spelling.more_types g gs) h = spelling.more_types g (types_push gs h)

  fields_push : {fs : List FieldExp} {e : TyExp} (i : ℕ) → AreSpelledFields texts fs → IsLabel (text_at texts i) → IsSpelledType texts e → AreSpelledFields texts (fs ++ field i e ∷ [])
  fields_push i spelling.no_fields label h = spelling.more_fields label h spelling.no_fields
  fields_push i (spelling.more_fields other g gs) label h = spelling.more_fields other g (fields_push i gs label h)

  one_name : (i : ℕ) → NamesLongType texts i → All (NamesLongType texts) (i ∷ [])
  one_name i h = All-cons (NamesLongType texts) i [] h (All-nil (NamesLongType texts))

  arrows_whole : (xs : List TyExp) → AreSpelledTypes texts xs → IsSpelledType texts (of_parts ty.Arrows xs)
  arrows_whole [] h = spelling.arrows h
  arrows_whole (x ∷ []) (spelling.more_types h others) = h
  arrows_whole (x ∷ y ∷ xs) h = spelling.arrows h

  tuple_whole : (es : List TyExp) → 1 ≤ length es → AreSpelledTypes texts es → IsSpelledType texts (of_parts ty.Tuple es)
  tuple_whole [] some h = absurd (omega arith)
  tuple_whole (e ∷ []) some (spelling.more_types h others) = h
  tuple_whole (e ∷ f ∷ es) some h = spelling.tuple (omega arith) h

  mutual
    pub type_spelled : {ts r : List Numbered} {e : TyExp} → Ty ts r e → HaveTexts texts ts → IsSpelledType texts e × HaveTexts texts r
    type_spelled (sides d) h = let q = sides_spelled d h in (arrows_whole _ q.0, q.1)

    sides_spelled : {ts r : List Numbered} {xs : List TyExp} → Sides ts r xs → HaveTexts texts ts → AreSpelledTypes texts xs × HaveTexts texts r
    sides_spelled (one_side d) h = let q = tuple_spelled d h in (types_push spelling.no_types q.0, q.1)
    sides_spelled (more_sides d x) h = let q = sides_spelled d h in let p = tuple_spelled x q.1.1 in (types_push q.0 p.0, p.1)

    tuple_spelled : {ts r : List Numbered} {e : TyExp} → Tuple ts r e → HaveTexts texts ts → IsSpelledType texts e × HaveTexts texts r
    tuple_spelled (parts d) h = let q = parts_spelled d h in (tuple_whole _ q.1 q.0, q.2)

    parts_spelled : {ts r : List Numbered} {es : List TyExp} → Parts ts r es → HaveTexts texts ts → AreSpelledTypes texts es × (1 ≤ length es) × HaveTexts texts r
    parts_spelled (one_part {e = e} d) h = let q = app_spelled d h in (types_push spelling.no_types q.0, some_more [] e, q.1)
    parts_spelled (more_parts {es = es} {e = e} d a) h = let q = parts_spelled d h in let p = app_spelled a q.2.1 in (types_push q.0 p.0, some_more es e, p.1)

    app_spelled : {ts r : List Numbered} {e : TyExp} → App ts r e → HaveTexts texts ts → IsSpelledType texts e × HaveTexts texts r
    app_spelled (alone d) h = unary_spelled d h
    app_spelled (applied d) h = let q = applied_spelled d h in (spelling.application q.0 q.1 q.2, q.3)

    applied_spelled : {ts r : List Numbered} {es : List TyExp} {cs : List ℕ} → Applied ts r es cs → HaveTexts texts ts → AreSpelledTypes texts es × (1 ≤ length cs) × All (NamesLongType texts) cs × HaveTexts texts r
    applied_spelled (to_none {i = i} {so = so} named) h = (spelling.no_types, some_more [] i, one_name i (type_name (text_at texts i) so named h.0), h.1)
    applied_spelled (to_one {i = i} {so = so} d named) h =
        let q = unary_spelled d h in
        (types_push spelling.no_types q.0, some_more [] i, one_name i (type_name (text_at texts i) so named q.1.0), q.1.1)
    applied_spelled (to_more {l = l} {so = so} d e named) h =
        let q = types_spelled d h.1 in
        let p = type_spelled e q.1.1 in
        (types_push q.0 p.0, some_more [] l, one_name l (type_name (text_at texts l) so named p.1.1.0), p.1.1.1)
    applied_spelled (further {i = i} {so = so} {cs = cs} d named) h =
        let q = applied_spelled d h in
        (q.0, some_more cs i, All-push (NamesLongType texts) cs i q.2 (type_name (text_at texts i) so named q.3.0), q.3.1)

    unary_spelled : {ts r : List Numbered} {e : TyExp} → Unary ts r e → HaveTexts texts ts → IsSpelledType texts e × HaveTexts texts r
    unary_spelled variable h = (spelling.variable, h.1)
    unary_spelled no_fields h = (spelling.fields spelling.no_fields, h.1.1)
    unary_spelled (fields d) h = let q = fields_spelled d h.1 in (spelling.fields q.0, q.1.1)
    unary_spelled (parens d) h = let q = type_spelled d h.1 in (q.0, q.1.1)

    fields_spelled : {ts r : List Numbered} {fs : List FieldExp} → Fields ts r fs → HaveTexts texts ts → AreSpelledFields texts fs × HaveTexts texts r
    fields_spelled (one_field {i = i} {so = so} named d) h = let q = type_spelled d h.1.1 in (fields_push i spelling.no_fields (label_text (text_at texts i) so named (h.0).sort) q.0, q.1)
    fields_spelled (more_fields {i = i} {so = so} d named e) h =
        let q = fields_spelled d h in
        let p = type_spelled e q.1.1.1.1 in
        (fields_push i q.0 (label_text (text_at texts i) so named (q.1.1.0).sort) p.0, p.1)

    types_spelled : {ts r : List Numbered} {es : List TyExp} → Types ts r es → HaveTexts texts ts → AreSpelledTypes texts es × HaveTexts texts r
    types_spelled (one_type d) h = let q = type_spelled d h in (types_push spelling.no_types q.0, q.1)
    types_spelled (more_types d e) h = let q = types_spelled d h in let p = type_spelled e q.1.1 in (types_push q.0 p.0, p.1)
