-- The grammar of types: the Definition of Standard ML, section 2.8 and appendices A and B. `Ty tokens rest e` says that
-- the front of the tokens, up to the rest, is the type e, and so do the other relations of their phrases.
use Rattle.std.specs.Prelude.{ℕ, List, [], ◌∷◌, ◌++◌, IsTrue}
use Rattle.sig_base.specs.declared.word.Word.TheVariants as w
use Rattle.ty_parser.specs.declared.sort.Sort.{Sort}
use Rattle.ty_parser.specs.declared.sort.Sort.TheVariants as s
use Rattle.ty_parser.specs.declared.tree.TyExp.{TyExp}
use Rattle.ty_parser.specs.declared.tree.TyExp.TheVariants as ty
use Rattle.ty_parser.specs.declared.tree.FieldExp.{FieldExp}
use Rattle.ty_parser.specs.Sorts.{is_label, is_long_tycon}

-- a token of a list: its number there, and its sort
abbrev pub Numbered : Type 0
Numbered = ℕ × Sort

-- one tree alone stands for itself, and several stand under a node
abbrev pub of_parts : (List TyExp → TyExp) → List TyExp → TyExp
of_parts node (e ∷ []) = e
of_parts node es = node es

-- the field with the label of this number
abbrev pub field : ℕ → TyExp → FieldExp
field i e = record { label = i; ty = e }

mutual
  -- ty: tuple {-> tuple}
  pub data Ty : List Numbered → List Numbered → TyExp → Type 0 where
    sides : {ts r : List Numbered} {xs : List TyExp} → Sides ts r xs → Ty ts r (of_parts ty.Arrows xs)

  -- the tuples between its arrows
  pub data Sides : List Numbered → List Numbered → List TyExp → Type 0 where
    one_side : {ts r : List Numbered} {x : TyExp} → Tuple ts r x → Sides ts r (x ∷ [])
    more_sides : {i : ℕ} {ts m r : List Numbered} {xs : List TyExp} {x : TyExp}
        → Sides ts ((i, s.Reserved w.KwArrow) ∷ m) xs → Tuple m r x → Sides ts r (xs ++ x ∷ [])

  -- tuple: app {* app}
  pub data Tuple : List Numbered → List Numbered → TyExp → Type 0 where
    parts : {ts r : List Numbered} {es : List TyExp} → Parts ts r es → Tuple ts r (of_parts ty.Tuple es)

  -- the apps between its stars
  pub data Parts : List Numbered → List Numbered → List TyExp → Type 0 where
    one_part : {ts r : List Numbered} {e : TyExp} → App ts r e → Parts ts r (e ∷ [])
    more_parts : {i : ℕ} {ts m r : List Numbered} {es : List TyExp} {e : TyExp} → Parts ts ((i, s.Star) ∷ m) es
        → App m r e → Parts ts r (es ++ e ∷ [])

  -- app: unary {longtycon}
  pub data App : List Numbered → List Numbered → TyExp → Type 0 where
    alone : {ts r : List Numbered} {e : TyExp} → Unary ts r e → App ts r e
    applied : {ts r : List Numbered} {es : List TyExp} {cs : List ℕ} → Applied ts r es cs
        → App ts r (ty.Apply es cs)

  -- arguments, and the constructors after them: a longtycon that stands as unary has none, `( ty , ty {, ty} ) longtycon`
  -- has those, and a unary of any other form with a constructor after it is the one
  pub data Applied : List Numbered → List Numbered → List TyExp → List ℕ → Type 0 where
    to_none : {i : ℕ} {so : Sort} {r : List Numbered} → IsTrue (is_long_tycon so)
        → Applied ((i, so) ∷ r) r [] (i ∷ [])
    to_one : {i : ℕ} {so : Sort} {ts r : List Numbered} {e : TyExp} → Unary ts ((i, so) ∷ r) e
        → IsTrue (is_long_tycon so) → Applied ts r (e ∷ []) (i ∷ [])
    to_more : {i j k l : ℕ} {so : Sort} {ts m r : List Numbered} {es : List TyExp} {e : TyExp}
        → Types ts ((j, s.Reserved w.KwComma) ∷ m) es → Ty m ((k, s.Reserved w.KwRParen) ∷ (l, so) ∷ r) e
        → IsTrue (is_long_tycon so)
        → Applied ((i, s.Reserved w.KwLParen) ∷ ts) r (es ++ e ∷ []) (l ∷ [])
    further : {i : ℕ} {so : Sort} {ts r : List Numbered} {es : List TyExp} {cs : List ℕ}
        → Applied ts ((i, so) ∷ r) es cs → IsTrue (is_long_tycon so) → Applied ts r es (cs ++ i ∷ [])

  -- unary, where it is no constructor and no `( ty , ty {, ty} ) longtycon`:
  -- a type variable; { }; { lab : ty {, lab : ty} }; ( ty )
  pub data Unary : List Numbered → List Numbered → TyExp → Type 0 where
    variable : {i : ℕ} {r : List Numbered} → Unary ((i, s.Variable) ∷ r) r (ty.Var i)
    no_fields : {i j : ℕ} {r : List Numbered}
        → Unary ((i, s.Reserved w.KwLBrace) ∷ (j, s.Reserved w.KwRBrace) ∷ r) r (ty.Fields [])
    fields : {i j : ℕ} {ts r : List Numbered} {fs : List FieldExp}
        → Fields ts ((j, s.Reserved w.KwRBrace) ∷ r) fs
        → Unary ((i, s.Reserved w.KwLBrace) ∷ ts) r (ty.Fields fs)
    parens : {i j : ℕ} {ts r : List Numbered} {e : TyExp} → Ty ts ((j, s.Reserved w.KwRParen) ∷ r) e
        → Unary ((i, s.Reserved w.KwLParen) ∷ ts) r e

  -- lab : ty {, lab : ty}
  pub data Fields : List Numbered → List Numbered → List FieldExp → Type 0 where
    one_field : {i c : ℕ} {so : Sort} {ts r : List Numbered} {e : TyExp} → IsTrue (is_label so) → Ty ts r e
        → Fields ((i, so) ∷ (c, s.Reserved w.KwColon) ∷ ts) r (field i e ∷ [])
    more_fields : {i j c : ℕ} {so : Sort} {ts m r : List Numbered} {fs : List FieldExp} {e : TyExp}
        → Fields ts ((j, s.Reserved w.KwComma) ∷ (i, so) ∷ (c, s.Reserved w.KwColon) ∷ m) fs
        → IsTrue (is_label so) → Ty m r e
        → Fields ts r (fs ++ field i e ∷ [])

  -- ty {, ty}
  pub data Types : List Numbered → List Numbered → List TyExp → Type 0 where
    one_type : {ts r : List Numbered} {e : TyExp} → Ty ts r e → Types ts r (e ∷ [])
    more_types : {i : ℕ} {ts m r : List Numbered} {es : List TyExp} {e : TyExp}
        → Types ts ((i, s.Reserved w.KwComma) ∷ m) es → Ty m r e → Types ts r (es ++ e ∷ [])
