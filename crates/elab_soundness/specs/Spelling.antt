-- The identifiers of a file's tree are spelled as the grammar has them. A token is its number in the file, and `texts` are the texts of all tokens of the file.
use Rattle.std.specs.Prelude.{ℕ, ◌≤◌, List, [], ◌∷◌, Option, Some, None, length, ⊤}
use Rattle.std.specs.List.{All}
use Rattle.sig_base.specs.Identifiers.{IsAlphanumeric}
use Rattle.sig_parser.specs.declared.tree.Bind.{Bind}
use Rattle.sig_parser.specs.declared.tree.ConDesc.{ConDesc}
use Rattle.sig_parser.specs.declared.tree.DataDesc.{DataDesc}
use Rattle.sig_parser.specs.declared.tree.SigBase.{SigBase}
use Rattle.sig_parser.specs.declared.tree.SigBase.TheVariants as base
use Rattle.sig_parser.specs.declared.tree.SigExp.{SigExp}
use Rattle.sig_parser.specs.declared.tree.SourceFile.{SourceFile}
use Rattle.sig_parser.specs.declared.tree.Spec.{Spec}
use Rattle.sig_parser.specs.declared.tree.Spec.TheVariants as spec
use Rattle.sig_parser.specs.declared.tree.TopDec.{TopDec}
use Rattle.sig_parser.specs.declared.tree.TopDec.TheVariants.{Signature as signature, Structure as structure}
use Rattle.sig_parser.specs.declared.tree.TypeDesc.{TypeDesc}
use Rattle.sig_parser.specs.declared.tree.ValDesc.{ValDesc}
use Rattle.sig_parser.specs.declared.tree.WherePart.{WherePart}
use Rattle.ty_parser.specs.declared.tree.FieldExp.{FieldExp}
use Rattle.ty_parser.specs.declared.tree.TyExp.{TyExp}
use Rattle.ty_parser.specs.declared.tree.TyExp.TheVariants as ty
use Rattle.ty_parser.specs.declared.tree.TypeAt.{TypeAt}
use Rattle.sig_base.specs.LongIdentifiers.{IsShort}
use Rattle.type_core.specs.Paths.{IsLongTypeIdentifier, IsMemberIdentifier, IsTypeIdentifier}
use Rattle.type_core.specs.ValidLibrary.{IsLabel}
use Rattle.elab_types.specs.Sources.{text_at}

-- the token can name a signature or a structure: an alphanumeric identifier of at most 255 bytes
abbrev pub NamesUnit : List (List ℕ) → ℕ → Type 0
NamesUnit texts token = IsAlphanumeric (text_at texts token) × IsShort (text_at texts token)

-- the token can name a type constructor: an identifier other than `*`, of at most 255 bytes
abbrev pub NamesType : List (List ℕ) → ℕ → Type 0
NamesType texts token = IsTypeIdentifier (text_at texts token) × IsShort (text_at texts token)

-- the token can stand for a type constructor in a type: a long identifier whose last part is other than `*`, each part of
-- at most 255 bytes
abbrev pub NamesLongType : List (List ℕ) → ℕ → Type 0
NamesLongType texts token = IsLongTypeIdentifier (text_at texts token)

-- the token can name a value, a constructor or an exception: an identifier or `=`, of at most 255 bytes
abbrev pub NamesValue : List (List ℕ) → ℕ → Type 0
NamesValue texts token = IsMemberIdentifier (text_at texts token) × IsShort (text_at texts token)

mutual
  -- a type expression is spelled as the grammar has it: each label is one, each tuple has at least two parts, and each application at least one constructor, all of which are long type constructors
  pub data IsSpelledType (texts : List (List ℕ)) : TyExp → Type 0 where
    variable : {token : ℕ} → IsSpelledType texts (ty.Var token)
    fields : {fields : List FieldExp} → AreSpelledFields texts fields → IsSpelledType texts (ty.Fields fields)
    tuple : {parts : List TyExp} → 2 ≤ length parts → AreSpelledTypes texts parts → IsSpelledType texts (ty.Tuple parts)
    arrows : {sides : List TyExp} → AreSpelledTypes texts sides → IsSpelledType texts (ty.Arrows sides)
    application : {arguments : List TyExp} {constructors : List ℕ} → AreSpelledTypes texts arguments → 1 ≤ length constructors → All (NamesLongType texts) constructors → IsSpelledType texts (ty.Apply arguments constructors)

  -- each of the type expressions is spelled so
  pub data AreSpelledTypes (texts : List (List ℕ)) : List TyExp → Type 0 where
    no_types : AreSpelledTypes texts []
    more_types : {e : TyExp} {es : List TyExp} → IsSpelledType texts e → AreSpelledTypes texts es → AreSpelledTypes texts (e ∷ es)

  -- each of the fields has a label that is one, and its type is spelled so
  pub data AreSpelledFields (texts : List (List ℕ)) : List FieldExp → Type 0 where
    no_fields : AreSpelledFields texts []
    more_fields : {field : FieldExp} {fields : List FieldExp} → IsLabel (text_at texts field.label) → IsSpelledType texts field.ty → AreSpelledFields texts fields → AreSpelledFields texts (field ∷ fields)

-- where a type expression is given, it is spelled so
abbrev pub IsSpelledIfGiven : List (List ℕ) → Option TypeAt → Type 0
IsSpelledIfGiven texts None = ⊤
IsSpelledIfGiven texts (Some t) = IsSpelledType texts t.ty

-- the description of a value: its token can name one, and its type is spelled so
abbrev pub IsSpelledValue : List (List ℕ) → ValDesc → Type 0
IsSpelledValue texts d = NamesValue texts d.id × IsSpelledType texts d.ty.ty

-- the description of a type constructor: its token can name one, and its right side, where it has one, is spelled so
abbrev pub IsSpelledTycon : List (List ℕ) → TypeDesc → Type 0
IsSpelledTycon texts d = NamesType texts d.id × IsSpelledIfGiven texts d.rhs

-- the description of a constructor or an exception: its token can name one, and the type after `of`, where it has one, is spelled so
abbrev pub IsSpelledConstructor : List (List ℕ) → ConDesc → Type 0
IsSpelledConstructor texts d = NamesValue texts d.id × IsSpelledIfGiven texts d.arg

-- the description of a datatype: its token can name a type constructor, and each constructor is described so
abbrev pub IsSpelledDatatype : List (List ℕ) → DataDesc → Type 0
IsSpelledDatatype texts d = NamesType texts d.id × All (IsSpelledConstructor texts) d.cons

-- a part of a `where`: its type is spelled so
abbrev pub IsSpelledPart : List (List ℕ) → WherePart → Type 0
IsSpelledPart texts part = IsSpelledType texts part.ty.ty

mutual
  -- a specification is spelled as the grammar has it: each description, binding and signature expression in it is spelled so
  pub data IsSpelledSpec (texts : List (List ℕ)) : Spec → Type 0 where
    values : {ds : List ValDesc} → All (IsSpelledValue texts) ds → IsSpelledSpec texts (spec.Val ds)
    types : {ds : List TypeDesc} → All (IsSpelledTycon texts) ds → IsSpelledSpec texts (spec.Abbrev ds)
    eqtypes : {ds : List TypeDesc} → All (IsSpelledTycon texts) ds → IsSpelledSpec texts (spec.Eqtype ds)
    datatypes : {ds : List DataDesc} → All (IsSpelledDatatype texts) ds → IsSpelledSpec texts (spec.Datatype ds)
    replica : {token other : ℕ} → NamesType texts token → IsSpelledSpec texts (spec.Replica token other)
    exceptions : {ds : List ConDesc} → All (IsSpelledConstructor texts) ds → IsSpelledSpec texts (spec.Exception ds)
    structures : {bindings : List Bind} → AreSpelledBindings texts bindings → IsSpelledSpec texts (spec.Structure bindings)
    included : {signatures : List SigExp} → AreSpelledSignatures texts signatures → IsSpelledSpec texts (spec.Include signatures)
    sharing_type : {tokens : List ℕ} → IsSpelledSpec texts (spec.SharingType tokens)
    sharing : {tokens : List ℕ} → IsSpelledSpec texts (spec.Sharing tokens)

  -- each of the specifications is spelled so
  pub data AreSpelledSpecs (texts : List (List ℕ)) : List Spec → Type 0 where
    no_specs : AreSpelledSpecs texts []
    more_specs : {x : Spec} {xs : List Spec} → IsSpelledSpec texts x → AreSpelledSpecs texts xs → AreSpelledSpecs texts (x ∷ xs)

  -- what stands before `where` is spelled so: a body whose specifications are, or the identifier of a signature
  pub data IsSpelledBase (texts : List (List ℕ)) : SigBase → Type 0 where
    body : {specs : List Spec} → AreSpelledSpecs texts specs → IsSpelledBase texts (base.Body specs)
    name : {token : ℕ} → IsSpelledBase texts (base.Name token)

  -- a signature expression is spelled so, with the parts of its `where`
  pub data IsSpelledSignature (texts : List (List ℕ)) : SigExp → Type 0 where
    sigexp : {e : SigExp} → IsSpelledBase texts e.base → All (IsSpelledPart texts) e.parts → IsSpelledSignature texts e

  -- each of the signature expressions is spelled so
  pub data AreSpelledSignatures (texts : List (List ℕ)) : List SigExp → Type 0 where
    no_signatures : AreSpelledSignatures texts []
    more_signatures : {e : SigExp} {es : List SigExp} → IsSpelledSignature texts e → AreSpelledSignatures texts es → AreSpelledSignatures texts (e ∷ es)

  -- each of the bindings has a token that can name a signature or a structure, and its signature expression is spelled so
  pub data AreSpelledBindings (texts : List (List ℕ)) : List Bind → Type 0 where
    no_bindings : AreSpelledBindings texts []
    more_bindings : {bind : Bind} {bindings : List Bind} → NamesUnit texts bind.id → IsSpelledSignature texts bind.rhs → AreSpelledBindings texts bindings → AreSpelledBindings texts (bind ∷ bindings)

-- a declaration: its bindings are spelled so
abbrev pub IsSpelledDeclaration : List (List ℕ) → TopDec → Type 0
IsSpelledDeclaration texts (signature bindings) = AreSpelledBindings texts bindings
IsSpelledDeclaration texts (structure bindings) = AreSpelledBindings texts bindings

-- a file: its declarations are spelled so
abbrev pub IsSpelledFile : List (List ℕ) → SourceFile → Type 0
IsSpelledFile texts file = All (IsSpelledDeclaration texts) file.decs
