-- Files of the grammar are spelled as it has them.
use Rattle.std.proofs.Common.{ℕ, Bool, List, [], ◌∷◌, ◌++◌}
use Rattle.std.specs.List.{All}
use Rattle.std.proofs.lemmas.List.Elements.{All-nil, All-push}
use Rattle.sml_lexer.specs.declared.token.Token.{Token}
use Rattle.sml_lexer.specs.Tokens.{tokens as tokens_of}
use Rattle.ty_parser.specs.declared.sort.Sort.{Sort}
use Rattle.ty_parser.specs.Grammar.{Numbered}
use Rattle.ty_parser.specs.Sorts.{sorts_of}
use Rattle.sig_parser.specs.declared.tree.Bind.{Bind}
use Rattle.sig_parser.specs.declared.tree.SigBase.{SigBase}
use Rattle.sig_parser.specs.declared.tree.SigExp.{SigExp}
use Rattle.sig_parser.specs.declared.tree.SourceFile.{SourceFile}
use Rattle.sig_parser.specs.declared.tree.Spec.{Spec}
use Rattle.sig_parser.specs.declared.tree.TopDec.{TopDec}
use Rattle.sig_parser.specs.Files.{File}
use Rattle.sig_parser.specs.Grammar.{SignatureExpression, sigexp, SignatureBase, body, name, Specifications, no_specs, more_specs, semicolon, Specification, val, types, eqtype, datatype, replica, exception, structure, include_one, include_names, sharing_type, sharing, Bindings, one_binding, more_bindings, Binding, binding, TopDeclaration, signature, top_structure, TopDeclarations, no_decs, more_decs, top_semicolon}
use Rattle.elab_types.specs.Sources.{text_at, texts_of}
use Rattle.elab_soundness.specs.Spelling as spelling
use Rattle.elab_soundness.specs.Spelling.{NamesUnit, IsSpelledValue, IsSpelledTycon, IsSpelledConstructor, IsSpelledDatatype, IsSpelledSpec, AreSpelledSpecs, IsSpelledBase, IsSpelledSignature, AreSpelledBindings, IsSpelledDeclaration, IsSpelledFile}
use Rattle.elab_types.proofs.spelling.Sorts.{type_text, unit_text}
use Rattle.elab_soundness.proofs.spelling.Tokens.{HaveTexts, file_texts}
use Rattle.elab_soundness.proofs.spelling.Descriptions.{separated_spelled, equated_read, value_spelled, tycon_spelled, abbreviation_spelled, constructor_spelled, datatype_spelled, wheres_spelled, names_spelled}

module _ (texts : List (List ℕ)) where
  specs_push : {xs : List Spec} {x : Spec} → AreSpelledSpecs texts xs → IsSpelledSpec texts x → AreSpelledSpecs texts (xs ++ x ∷ [])
  specs_push spelling.no_specs h = spelling.more_specs h spelling.no_specs
  specs_push (spelling.more_specs g gs) h = spelling.more_specs g (specs_push gs h)

  bindings_push : {bs : List Bind} (b : Bind) → AreSpelledBindings texts bs → NamesUnit texts b.id → IsSpelledSignature texts b.rhs → AreSpelledBindings texts (bs ++ b ∷ [])
  bindings_push b spelling.no_bindings id h = spelling.more_bindings id h spelling.no_bindings
  bindings_push b (spelling.more_bindings other g gs) id h = spelling.more_bindings other g (bindings_push b gs id h)

  mutual
    signature_spelled : {ts r : List Numbered} {e : SigExp} → SignatureExpression ts r e → HaveTexts texts ts → IsSpelledSignature texts e × HaveTexts texts r
    signature_spelled (sigexp d w) h = let q = base_spelled d h in let p = wheres_spelled texts w q.1 in (spelling.sigexp q.0 p.0, p.1)

    base_spelled : {ts r : List Numbered} {b : SigBase} → SignatureBase ts r b → HaveTexts texts ts → IsSpelledBase texts b × HaveTexts texts r
    base_spelled (body d) h = let q = specs_spelled d h.1 in (spelling.body q.0, q.1.1)
    base_spelled (name named) h = (spelling.name, h.1)

    specs_spelled : {ts r : List Numbered} {xs : List Spec} → Specifications ts r xs → HaveTexts texts ts → AreSpelledSpecs texts xs × HaveTexts texts r
    specs_spelled no_specs h = (spelling.no_specs, h)
    specs_spelled (more_specs d x) h = let q = specs_spelled d h in let p = spec_spelled x q.1 in (specs_push q.0 p.0, p.1)
    specs_spelled (semicolon d) h = let q = specs_spelled d h in (q.0, q.1.1)

    spec_spelled : {ts r : List Numbered} {x : Spec} → Specification ts r x → HaveTexts texts ts → IsSpelledSpec texts x × HaveTexts texts r
    spec_spelled (val d) h = let q = separated_spelled texts (IsSpelledValue texts) (value_spelled texts) d h.1 in (spelling.values q.0, q.1)
    spec_spelled (types d) h = let q = separated_spelled texts (IsSpelledTycon texts) (abbreviation_spelled texts) d h.1 in (spelling.types q.0, q.1)
    spec_spelled (eqtype d) h = let q = separated_spelled texts (IsSpelledTycon texts) (tycon_spelled texts) d h.1 in (spelling.eqtypes q.0, q.1)
    spec_spelled (datatype d) h = let q = separated_spelled texts (IsSpelledDatatype texts) (datatype_spelled texts) d h.1 in (spelling.datatypes q.0, q.1)
    spec_spelled (replica {i = i} {so = so} described replicated) h = (spelling.replica (type_text (text_at texts i) so described (h.1.0).sort), h.1.1.1.1.1)
    spec_spelled (exception d) h = let q = separated_spelled texts (IsSpelledConstructor texts) (constructor_spelled texts) d h.1 in (spelling.exceptions q.0, q.1)
    spec_spelled (structure d) h = let q = bindings_spelled d h.1 in (spelling.structures q.0, q.1)
    spec_spelled (include_one d) h = let q = signature_spelled d h.1 in (spelling.included (spelling.more_signatures q.0 spelling.no_signatures), q.1)
    spec_spelled (include_names d) h = let q = names_spelled texts d h.1 in (spelling.included q.0, q.1)
    spec_spelled (sharing_type d) h = (spelling.sharing_type, equated_read texts d h.1.1)
    spec_spelled (sharing d) h = (spelling.sharing, equated_read texts d h.1)

    bindings_spelled : {between : Sort → Bool} {ts r : List Numbered} {bs : List Bind} → Bindings between ts r bs → HaveTexts texts ts → AreSpelledBindings texts bs × HaveTexts texts r
    bindings_spelled (one_binding d) h = binding_spelled spelling.no_bindings d h
    bindings_spelled (more_bindings q d) h = let p = bindings_spelled q h in binding_spelled p.0 d p.1.1

    binding_spelled : {between : Sort → Bool} {ts r : List Numbered} {bs : List Bind} {b : Bind} → AreSpelledBindings texts bs → Binding between ts r b → HaveTexts texts ts → AreSpelledBindings texts (bs ++ b ∷ []) × HaveTexts texts r
    binding_spelled before (binding {i = i} {so = so} named between d) h = let q = signature_spelled d h.1.1 in (bindings_push _ before (unit_text (text_at texts i) so named (h.0).sort) q.0, q.1)

  declaration_spelled : {ts r : List Numbered} {d : TopDec} → TopDeclaration ts r d → HaveTexts texts ts → IsSpelledDeclaration texts d × HaveTexts texts r
  declaration_spelled (signature d) h = bindings_spelled d h.1
  declaration_spelled (top_structure d) h = bindings_spelled d h.1

  declarations_spelled : {ts r : List Numbered} {ds : List TopDec} → TopDeclarations ts r ds → HaveTexts texts ts → All (IsSpelledDeclaration texts) ds × HaveTexts texts r
  declarations_spelled no_decs h = (All-nil (IsSpelledDeclaration texts), h)
  declarations_spelled (more_decs d x) h = let q = declarations_spelled d h in let p = declaration_spelled x q.1 in (All-push (IsSpelledDeclaration texts) _ _ q.0 p.0, p.1)
  declarations_spelled (top_semicolon d) h = let q = declarations_spelled d h in (q.0, q.1.1)

pub spelled : (bytes : List ℕ) (tokens : List Token) (file : SourceFile) → tokens_of bytes tokens → File (sorts_of bytes tokens) file → IsSpelledFile (texts_of bytes tokens) file
spelled bytes tokens file reads d = (declarations_spelled (texts_of bytes tokens) d (file_texts bytes tokens reads)).0
