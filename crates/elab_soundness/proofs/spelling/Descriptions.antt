-- What the grammar of files has besides types and signature expressions is spelled as it has it.
use Rattle.std.proofs.Common.{ℕ, Bool, List, [], ◌∷◌, ◌++◌}
use Rattle.std.specs.Prelude.{⊤}
use Rattle.std.specs.List.{All}
use Rattle.std.proofs.lemmas.List.Elements.{All-nil, All-cons, All-push}
use Rattle.sig_base.specs.declared.word.Word.{Word}
use Rattle.ty_parser.specs.declared.sort.Sort.{Sort}
use Rattle.ty_parser.specs.declared.tree.TypeAt.{TypeAt}
use Rattle.ty_parser.specs.Grammar.{Numbered}
use Rattle.sig_parser.specs.declared.tree.ConDesc.{ConDesc}
use Rattle.sig_parser.specs.declared.tree.DataDesc.{DataDesc}
use Rattle.sig_parser.specs.declared.tree.SigExp.{SigExp}
use Rattle.sig_parser.specs.declared.tree.TypeDesc.{TypeDesc}
use Rattle.sig_parser.specs.declared.tree.ValDesc.{ValDesc}
use Rattle.sig_parser.specs.declared.tree.WherePart.{WherePart}
use Rattle.sig_parser.specs.Grammar.{Separated, one, more, Named, named, Typed, typed, TyVar, tyvar, TyVarSeq, no_variables, variable, variables, ValueDescription, value, TypeDescription, constructor, TypeAbbreviation, without_type, with_type, ConstructorDescription, constant, carrying, DatatypeDescription, datdesc, TypeRealization, part, Realizations, no_parts, parts, SomeRealizations, by_where, by_and, name_of, SignatureNames, two_names, more_names, Equated, equated}
use Rattle.elab_types.specs.Sources.{text_at}
use Rattle.elab_soundness.specs.Spelling as spelling
use Rattle.elab_soundness.specs.Spelling.{IsSpelledType, IsSpelledValue, IsSpelledTycon, IsSpelledConstructor, IsSpelledDatatype, IsSpelledPart, IsSpelledSignature, AreSpelledSignatures}
use Rattle.elab_types.proofs.spelling.Sorts.{constructor_text, type_text}
use Rattle.elab_soundness.proofs.spelling.Tokens.{HaveTexts}
use Rattle.elab_soundness.proofs.spelling.Types.{type_spelled}
use Rattle.elab_soundness.proofs.spelling.Values.{value_text}

module _ (texts : List (List ℕ)) where
  -- where P holds of each phrase of a kind, it holds of all that stand with a word between them
  pub separated_spelled : {Tree : Type 0} {word : Word} {phrase : List Numbered → List Numbered → Tree → Type 0} (P : Tree → Type 0)
      → ((ts r : List Numbered) (x : Tree) → phrase ts r x → HaveTexts texts ts → P x × HaveTexts texts r)
      → {ts r : List Numbered} {xs : List Tree} → Separated word phrase ts r xs → HaveTexts texts ts → All P xs × HaveTexts texts r
  separated_spelled P each (one d) h = let q = each _ _ _ d h in (All-cons P _ [] q.0 (All-nil P), q.1)
  separated_spelled P each (more d x) h = let q = separated_spelled P each d h in let p = each _ _ _ x q.1.1 in (All-push P _ _ q.0 p.0, p.1)

  named_read : (is_name : Sort → Bool) (ts r : List Numbered) (i : ℕ) → Named is_name ts r i → HaveTexts texts ts → ⊤ × HaveTexts texts r
  named_read is_name ts r i (named n) h = (tt, h.1)

  pub equated_read : {is_name : Sort → Bool} {ts r : List Numbered} {is : List ℕ} → Equated is_name ts r is → HaveTexts texts ts → HaveTexts texts r
  equated_read {is_name = is_name} (equated n d) h = (separated_spelled (λ _. ⊤) (named_read is_name) d h.1.1).1

  tyvar_read : (ts r : List Numbered) (i : ℕ) → TyVar ts r i → HaveTexts texts ts → ⊤ × HaveTexts texts r
  tyvar_read ts r i tyvar h = (tt, h.1)

  variables_read : {ts r : List Numbered} {vs : List ℕ} → TyVarSeq ts r vs → HaveTexts texts ts → HaveTexts texts r
  variables_read no_variables h = h
  variables_read variable h = h.1
  variables_read (variables d) h = (separated_spelled (λ _. ⊤) tyvar_read d h.1).1.1

  typed_spelled : {ts r : List Numbered} {t : TypeAt} → Typed ts r t → HaveTexts texts ts → IsSpelledType texts t.ty × HaveTexts texts r
  typed_spelled (typed d) h = type_spelled texts d h

  pub value_spelled : (ts r : List Numbered) (x : ValDesc) → ValueDescription ts r x → HaveTexts texts ts → IsSpelledValue texts x × HaveTexts texts r
  value_spelled ts r x (value {i = i} {so = so} vid d) h = let q = typed_spelled d h.1.1 in ((value_text (text_at texts i) so vid (h.0).sort, q.0), q.1)

  pub tycon_spelled : (ts r : List Numbered) (x : TypeDesc) → TypeDescription ts r x → HaveTexts texts ts → IsSpelledTycon texts x × HaveTexts texts r
  tycon_spelled ts r x (constructor {i = i} {so = so} d tycon) h = let q = variables_read d h in ((type_text (text_at texts i) so tycon (q.0).sort, tt), q.1)

  pub abbreviation_spelled : (ts r : List Numbered) (x : TypeDesc) → TypeAbbreviation ts r x → HaveTexts texts ts → IsSpelledTycon texts x × HaveTexts texts r
  abbreviation_spelled ts r x (without_type {i = i} {so = so} d tycon) h = let q = variables_read d h in ((type_text (text_at texts i) so tycon (q.0).sort, tt), q.1)
  abbreviation_spelled ts r x (with_type {i = i} {so = so} d tycon t) h = let q = variables_read d h in let p = typed_spelled t q.1.1 in ((type_text (text_at texts i) so tycon (q.0).sort, p.0), p.1)

  pub constructor_spelled : (ts r : List Numbered) (x : ConDesc) → ConstructorDescription ts r x → HaveTexts texts ts → IsSpelledConstructor texts x × HaveTexts texts r
  constructor_spelled ts r x (constant {i = i} {so = so} vid) h = ((constructor_text (text_at texts i) so vid (h.0).sort, tt), h.1)
  constructor_spelled ts r x (carrying {i = i} {so = so} vid t) h = let p = typed_spelled t h.1.1 in ((constructor_text (text_at texts i) so vid (h.0).sort, p.0), p.1)

  pub datatype_spelled : (ts r : List Numbered) (x : DataDesc) → DatatypeDescription ts r x → HaveTexts texts ts → IsSpelledDatatype texts x × HaveTexts texts r
  datatype_spelled ts r x (datdesc {i = i} {so = so} d tycon cs) h =
      let q = variables_read d h in
      let p = separated_spelled (IsSpelledConstructor texts) constructor_spelled cs q.1.1 in
      ((type_text (text_at texts i) so tycon (q.0).sort, p.0), p.1)

  part_spelled : {at : ℕ} {ts r : List Numbered} {x : WherePart} → TypeRealization at ts r x → HaveTexts texts ts → IsSpelledPart texts x × HaveTexts texts r
  part_spelled (part d tycon t) h = typed_spelled t (variables_read d h.1).1.1

  mutual
    pub wheres_spelled : {ts r : List Numbered} {ps : List WherePart} → Realizations ts r ps → HaveTexts texts ts → All (IsSpelledPart texts) ps × HaveTexts texts r
    wheres_spelled no_parts h = (All-nil (IsSpelledPart texts), h)
    wheres_spelled (parts d) h = parts_spelled d h

    parts_spelled : {ts r : List Numbered} {ps : List WherePart} → SomeRealizations ts r ps → HaveTexts texts ts → All (IsSpelledPart texts) ps × HaveTexts texts r
    parts_spelled (by_where d x) h = let q = wheres_spelled d h in let p = part_spelled x q.1.1 in (All-push (IsSpelledPart texts) _ _ q.0 p.0, p.1)
    parts_spelled (by_and d x) h = let q = parts_spelled d h in let p = part_spelled x q.1.1 in (All-push (IsSpelledPart texts) _ _ q.0 p.0, p.1)

  pub signatures_push : {es : List SigExp} {e : SigExp} → AreSpelledSignatures texts es → IsSpelledSignature texts e → AreSpelledSignatures texts (es ++ e ∷ [])
  signatures_push spelling.no_signatures h = spelling.more_signatures h spelling.no_signatures
  signatures_push (spelling.more_signatures g gs) h = spelling.more_signatures g (signatures_push gs h)

  name_spelled : (i : ℕ) → IsSpelledSignature texts (name_of i)
  name_spelled i = spelling.sigexp spelling.name (All-nil (IsSpelledPart texts))

  pub names_spelled : {ts r : List Numbered} {es : List SigExp} → SignatureNames ts r es → HaveTexts texts ts → AreSpelledSignatures texts es × HaveTexts texts r
  names_spelled (two_names {i = i} {j = j} first second) h = (spelling.more_signatures (name_spelled i) (spelling.more_signatures (name_spelled j) spelling.no_signatures), h.1.1)
  names_spelled (more_names {i = i} d strid) h = let q = names_spelled d h in (signatures_push q.0 (name_spelled i), q.1.1)
