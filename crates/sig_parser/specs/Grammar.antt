-- The grammar of signature files: the Definition of Standard ML, sections 2.4, 3.4 and appendix B, with declarations of
-- signatures and of structures that are described alone. `Specification tokens rest x` says that the front of the tokens, up
-- to the rest, is the specification x, and so do the other relations of their phrases.
use Rattle.std.specs.Prelude.{ℕ, Bool, true, false, List, [], ◌∷◌, ◌++◌, Some, None, IsTrue}
use Rattle.sig_base.specs.declared.word.Word.{Word}
use Rattle.sig_base.specs.declared.word.Word.TheVariants as w
use Rattle.ty_parser.specs.declared.sort.Sort.{Sort}
use Rattle.ty_parser.specs.declared.sort.Sort.TheVariants as s
use Rattle.ty_parser.specs.declared.tree.TyExp.{TyExp}
use Rattle.ty_parser.specs.declared.tree.TypeAt.{TypeAt}
use Rattle.ty_parser.specs.Grammar.{Numbered, Ty}
use Rattle.ty_parser.specs.Sorts.{is_vid, is_tycon, is_long_tycon, is_strid, is_long_strid}
use Rattle.sig_parser.specs.declared.tree.TopDec.{TopDec}
use Rattle.sig_parser.specs.declared.tree.TopDec.TheVariants as topdec
use Rattle.sig_parser.specs.declared.tree.Bind.{Bind}
use Rattle.sig_parser.specs.declared.tree.SigExp.{SigExp}
use Rattle.sig_parser.specs.declared.tree.SigBase.{SigBase}
use Rattle.sig_parser.specs.declared.tree.SigBase.TheVariants as base
use Rattle.sig_parser.specs.declared.tree.WherePart.{WherePart}
use Rattle.sig_parser.specs.declared.tree.Spec.{Spec}
use Rattle.sig_parser.specs.declared.tree.Spec.TheVariants as spec
use Rattle.sig_parser.specs.declared.tree.ValDesc.{ValDesc}
use Rattle.sig_parser.specs.declared.tree.TypeDesc.{TypeDesc}
use Rattle.sig_parser.specs.declared.tree.DataDesc.{DataDesc}
use Rattle.sig_parser.specs.declared.tree.ConDesc.{ConDesc}

-- the vid of a valdesc: an identifier without dots, or =
abbrev pub is_described_vid : Sort → Bool
is_described_vid (s.Reserved w.KwEquals) = true
is_described_vid so = is_vid so

-- what stands between an identifier and its signature expression: = in a signature declaration, : in a specification,
-- : or :> in a structure declaration
abbrev pub is_equals : Sort → Bool
is_equals (s.Reserved w.KwEquals) = true
is_equals _ = false

abbrev pub is_colon : Sort → Bool
is_colon (s.Reserved w.KwColon) = true
is_colon _ = false

abbrev pub is_colon_or_seal : Sort → Bool
is_colon_or_seal (s.Reserved w.KwColon) = true
is_colon_or_seal (s.Reserved w.KwSeal) = true
is_colon_or_seal _ = false

-- x {word x}: phrases of one kind with a word between them
pub data Separated {Tree : Type 0} (word : Word) (phrase : List Numbered → List Numbered → Tree → Type 0)
    : List Numbered → List Numbered → List Tree → Type 0 where
  one : {ts r : List Numbered} {x : Tree} → phrase ts r x → Separated word phrase ts r (x ∷ [])
  more : {i : ℕ} {ts m r : List Numbered} {xs : List Tree} {x : Tree}
      → Separated word phrase ts ((i, s.Reserved word) ∷ m) xs → phrase m r x
      → Separated word phrase ts r (xs ++ x ∷ [])

-- one token of these sorts, as its number
pub data Named (is_name : Sort → Bool) : List Numbered → List Numbered → ℕ → Type 0 where
  named : {i : ℕ} {so : Sort} {r : List Numbered} → IsTrue (is_name so) → Named is_name ((i, so) ∷ r) r i

-- ty, with the number of its first token
pub data Typed : List Numbered → List Numbered → TypeAt → Type 0 where
  typed : {i : ℕ} {so : Sort} {ts r : List Numbered} {e : TyExp} → Ty ((i, so) ∷ ts) r e
      → Typed ((i, so) ∷ ts) r (record { first = i; ty = e })

-- tyvar
pub data TyVar : List Numbered → List Numbered → ℕ → Type 0 where
  tyvar : {i : ℕ} {r : List Numbered} → TyVar ((i, s.Variable) ∷ r) r i

-- tyvarseq: nothing; a type variable; ( tyvar {, tyvar} )
pub data TyVarSeq : List Numbered → List Numbered → List ℕ → Type 0 where
  no_variables : {ts : List Numbered} → TyVarSeq ts ts []
  variable : {i : ℕ} {r : List Numbered} → TyVarSeq ((i, s.Variable) ∷ r) r (i ∷ [])
  variables : {i j : ℕ} {ts r : List Numbered} {vs : List ℕ}
      → Separated w.KwComma TyVar ts ((j, s.Reserved w.KwRParen) ∷ r) vs
      → TyVarSeq ((i, s.Reserved w.KwLParen) ∷ ts) r vs

-- valdesc, without those behind `and`: vid : ty
pub data ValueDescription : List Numbered → List Numbered → ValDesc → Type 0 where
  value : {i c : ℕ} {so : Sort} {ts r : List Numbered} {t : TypeAt} → IsTrue (is_described_vid so)
      → Typed ts r t → ValueDescription ((i, so) ∷ (c, s.Reserved w.KwColon) ∷ ts) r (record { id = i; ty = t })

-- typdesc, without those behind `and`: tyvarseq tycon
pub data TypeDescription : List Numbered → List Numbered → TypeDesc → Type 0 where
  constructor : {i : ℕ} {so : Sort} {ts r : List Numbered} {vs : List ℕ} → TyVarSeq ts ((i, so) ∷ r) vs
      → IsTrue (is_tycon so) → TypeDescription ts r (record { params = vs; id = i; rhs = None })

-- the same, and the type that it abbreviates: tyvarseq tycon [= ty]
pub data TypeAbbreviation : List Numbered → List Numbered → TypeDesc → Type 0 where
  without_type : {i : ℕ} {so : Sort} {ts r : List Numbered} {vs : List ℕ} → TyVarSeq ts ((i, so) ∷ r) vs
      → IsTrue (is_tycon so) → TypeAbbreviation ts r (record { params = vs; id = i; rhs = None })
  with_type : {i e : ℕ} {so : Sort} {ts m r : List Numbered} {vs : List ℕ} {t : TypeAt}
      → TyVarSeq ts ((i, so) ∷ (e, s.Reserved w.KwEquals) ∷ m) vs → IsTrue (is_tycon so) → Typed m r t
      → TypeAbbreviation ts r (record { params = vs; id = i; rhs = Some t })

-- condesc, without those behind |, and exdesc, without those behind `and`: vid [of ty]
pub data ConstructorDescription : List Numbered → List Numbered → ConDesc → Type 0 where
  constant : {i : ℕ} {so : Sort} {r : List Numbered} → IsTrue (is_vid so)
      → ConstructorDescription ((i, so) ∷ r) r (record { id = i; arg = None })
  carrying : {i o : ℕ} {so : Sort} {ts r : List Numbered} {t : TypeAt} → IsTrue (is_vid so) → Typed ts r t
      → ConstructorDescription ((i, so) ∷ (o, s.Reserved w.KwOf) ∷ ts) r (record { id = i; arg = Some t })

-- datdesc, without those behind `and`: tyvarseq tycon = vid [of ty] {| vid [of ty]}
pub data DatatypeDescription : List Numbered → List Numbered → DataDesc → Type 0 where
  datdesc : {i e : ℕ} {so : Sort} {ts m r : List Numbered} {vs : List ℕ} {cs : List ConDesc}
      → TyVarSeq ts ((i, so) ∷ (e, s.Reserved w.KwEquals) ∷ m) vs → IsTrue (is_tycon so)
      → Separated w.KwBar ConstructorDescription m r cs
      → DatatypeDescription ts r (record { params = vs; id = i; cons = cs })

-- a part of a `where`: type tyvarseq longtycon = ty, after the token of this number, `where` or `and`
pub data TypeRealization : ℕ → List Numbered → List Numbered → WherePart → Type 0 where
  part : {at b i e : ℕ} {so : Sort} {ts m r : List Numbered} {vs : List ℕ} {t : TypeAt}
      → TyVarSeq ts ((i, so) ∷ (e, s.Reserved w.KwEquals) ∷ m) vs → IsTrue (is_long_tycon so) → Typed m r t
      → TypeRealization at ((b, s.Reserved w.KwType) ∷ ts) r (record { at = at; params = vs; tycon = i; ty = t })

mutual
  -- {where part {and part}}
  pub data Realizations : List Numbered → List Numbered → List WherePart → Type 0 where
    no_parts : {ts : List Numbered} → Realizations ts ts []
    parts : {ts r : List Numbered} {ps : List WherePart} → SomeRealizations ts r ps → Realizations ts r ps

  -- the same, and at least one part: `where` may follow nothing, and `and` only a part
  pub data SomeRealizations : List Numbered → List Numbered → List WherePart → Type 0 where
    by_where : {at : ℕ} {ts m r : List Numbered} {ps : List WherePart} {p : WherePart}
        → Realizations ts ((at, s.Reserved w.KwWhere) ∷ m) ps → TypeRealization at m r p → SomeRealizations ts r (ps ++ p ∷ [])
    by_and : {at : ℕ} {ts m r : List Numbered} {ps : List WherePart} {p : WherePart}
        → SomeRealizations ts ((at, s.Reserved w.KwAnd) ∷ m) ps → TypeRealization at m r p → SomeRealizations ts r (ps ++ p ∷ [])

-- the signature with this identifier, as a signature expression
abbrev pub name_of : ℕ → SigExp
name_of i = record { first = i; base = base.Name i; parts = [] }

-- sigid sigid {sigid}
pub data SignatureNames : List Numbered → List Numbered → List SigExp → Type 0 where
  two_names : {i j : ℕ} {so ro : Sort} {r : List Numbered} → IsTrue (is_strid so) → IsTrue (is_strid ro)
      → SignatureNames ((i, so) ∷ (j, ro) ∷ r) r (name_of i ∷ name_of j ∷ [])
  more_names : {i : ℕ} {so : Sort} {ts r : List Numbered} {gs : List SigExp} → SignatureNames ts ((i, so) ∷ r) gs
      → IsTrue (is_strid so) → SignatureNames ts r (gs ++ name_of i ∷ [])

-- name = name {= name}
pub data Equated (is_name : Sort → Bool) : List Numbered → List Numbered → List ℕ → Type 0 where
  equated : {i e : ℕ} {so : Sort} {ts r : List Numbered} {is : List ℕ} → IsTrue (is_name so)
      → Separated w.KwEquals (Named is_name) ts r is
      → Equated is_name ((i, so) ∷ (e, s.Reserved w.KwEquals) ∷ ts) r (i ∷ is)

mutual
  -- sigexp: what stands before `where`, and {where part {and part}}
  pub data SignatureExpression : List Numbered → List Numbered → SigExp → Type 0 where
    sigexp : {i : ℕ} {so : Sort} {ts m r : List Numbered} {b : SigBase} {ps : List WherePart}
        → SignatureBase ((i, so) ∷ ts) m b → Realizations m r ps
        → SignatureExpression ((i, so) ∷ ts) r (record { first = i; base = b; parts = ps })

  -- what stands before `where`: sig {spec or ;} end; sigid
  pub data SignatureBase : List Numbered → List Numbered → SigBase → Type 0 where
    body : {i j : ℕ} {ts r : List Numbered} {xs : List Spec} → Specifications ts ((j, s.Reserved w.KwEnd) ∷ r) xs
        → SignatureBase ((i, s.Reserved w.KwSig) ∷ ts) r (base.Body xs)
    name : {i : ℕ} {so : Sort} {r : List Numbered} → IsTrue (is_strid so) → SignatureBase ((i, so) ∷ r) r (base.Name i)

  -- {spec or ;}
  pub data Specifications : List Numbered → List Numbered → List Spec → Type 0 where
    no_specs : {ts : List Numbered} → Specifications ts ts []
    more_specs : {ts m r : List Numbered} {xs : List Spec} {x : Spec} → Specifications ts m xs → Specification m r x
        → Specifications ts r (xs ++ x ∷ [])
    semicolon : {i : ℕ} {ts r : List Numbered} {xs : List Spec}
        → Specifications ts ((i, s.Reserved w.KwSemicolon) ∷ r) xs → Specifications ts r xs

  -- spec
  pub data Specification : List Numbered → List Numbered → Spec → Type 0 where
    val : {i : ℕ} {ts r : List Numbered} {ds : List ValDesc} → Separated w.KwAnd ValueDescription ts r ds
        → Specification ((i, s.Reserved w.KwVal) ∷ ts) r (spec.Val ds)
    types : {i : ℕ} {ts r : List Numbered} {ds : List TypeDesc} → Separated w.KwAnd TypeAbbreviation ts r ds
        → Specification ((i, s.Reserved w.KwType) ∷ ts) r (spec.Abbrev ds)
    eqtype : {i : ℕ} {ts r : List Numbered} {ds : List TypeDesc} → Separated w.KwAnd TypeDescription ts r ds
        → Specification ((i, s.Reserved w.KwEqtype) ∷ ts) r (spec.Eqtype ds)
    datatype : {i : ℕ} {ts r : List Numbered} {ds : List DataDesc} → Separated w.KwAnd DatatypeDescription ts r ds
        → Specification ((i, s.Reserved w.KwDatatype) ∷ ts) r (spec.Datatype ds)
    replica : {a i e d j : ℕ} {so ro : Sort} {r : List Numbered} → IsTrue (is_tycon so)
        → IsTrue (is_long_tycon ro)
        → Specification ((a, s.Reserved w.KwDatatype) ∷ (i, so) ∷ (e, s.Reserved w.KwEquals) ∷
        (d, s.Reserved w.KwDatatype) ∷ (j, ro) ∷ r) r (spec.Replica i j)
    exception : {i : ℕ} {ts r : List Numbered} {cs : List ConDesc} → Separated w.KwAnd ConstructorDescription ts r cs
        → Specification ((i, s.Reserved w.KwException) ∷ ts) r (spec.Exception cs)
    structure : {i : ℕ} {ts r : List Numbered} {bs : List Bind} → Bindings is_colon ts r bs
        → Specification ((i, s.Reserved w.KwStructure) ∷ ts) r (spec.Structure bs)
    include_one : {i : ℕ} {ts r : List Numbered} {g : SigExp} → SignatureExpression ts r g
        → Specification ((i, s.Reserved w.KwInclude) ∷ ts) r (spec.Include (g ∷ []))
    include_names : {i : ℕ} {ts r : List Numbered} {gs : List SigExp} → SignatureNames ts r gs
        → Specification ((i, s.Reserved w.KwInclude) ∷ ts) r (spec.Include gs)
    sharing_type : {i j : ℕ} {ts r : List Numbered} {is : List ℕ} → Equated is_long_tycon ts r is
        → Specification ((i, s.Reserved w.KwSharing) ∷ (j, s.Reserved w.KwType) ∷ ts) r (spec.SharingType is)
    sharing : {i : ℕ} {ts r : List Numbered} {is : List ℕ} → Equated is_long_strid ts r is
        → Specification ((i, s.Reserved w.KwSharing) ∷ ts) r (spec.Sharing is)

  -- sigbind and strdesc: id C sigexp {and id C sigexp}, where C is a token of these sorts
  pub data Bindings : (Sort → Bool) → List Numbered → List Numbered → List Bind → Type 0 where
    one_binding : {is_between : Sort → Bool} {ts r : List Numbered} {b : Bind} → Binding is_between ts r b
        → Bindings is_between ts r (b ∷ [])
    more_bindings : {is_between : Sort → Bool} {i : ℕ} {ts m r : List Numbered} {bs : List Bind} {b : Bind}
        → Bindings is_between ts ((i, s.Reserved w.KwAnd) ∷ m) bs → Binding is_between m r b
        → Bindings is_between ts r (bs ++ b ∷ [])

  -- id C sigexp
  pub data Binding : (Sort → Bool) → List Numbered → List Numbered → Bind → Type 0 where
    binding : {is_between : Sort → Bool} {i c : ℕ} {so co : Sort} {ts r : List Numbered} {g : SigExp}
        → IsTrue (is_strid so) → IsTrue (is_between co) → SignatureExpression ts r g
        → Binding is_between ((i, so) ∷ (c, co) ∷ ts) r (record { id = i; rhs = g })

-- topdec: signature sigid = sigexp {and sigid = sigexp};
-- structure strid C sigexp {and strid C sigexp}, where C is : or :>
pub data TopDeclaration : List Numbered → List Numbered → TopDec → Type 0 where
  signature : {i : ℕ} {ts r : List Numbered} {bs : List Bind} → Bindings is_equals ts r bs
      → TopDeclaration ((i, s.Reserved w.KwSignature) ∷ ts) r (topdec.Signature bs)
  top_structure : {i : ℕ} {ts r : List Numbered} {bs : List Bind} → Bindings is_colon_or_seal ts r bs
      → TopDeclaration ((i, s.Reserved w.KwStructure) ∷ ts) r (topdec.Structure bs)

-- {topdec or ;}
pub data TopDeclarations : List Numbered → List Numbered → List TopDec → Type 0 where
  no_decs : {ts : List Numbered} → TopDeclarations ts ts []
  more_decs : {ts m r : List Numbered} {ds : List TopDec} {d : TopDec} → TopDeclarations ts m ds → TopDeclaration m r d
      → TopDeclarations ts r (ds ++ d ∷ [])
  top_semicolon : {i : ℕ} {ts r : List Numbered} {ds : List TopDec}
      → TopDeclarations ts ((i, s.Reserved w.KwSemicolon) ∷ r) ds → TopDeclarations ts r ds
