-- A reader of types that takes one token at a time, and settles nothing before the token that settles it.
use Rattle.std.specs.Prelude.{ℕ, ◌+◌, Bool, true, false, List, [], ◌∷◌, ◌++◌, length, Option, Some, None, option_and_then, reverse, if◌then◌else◌}
use Rattle.sig_base.specs.declared.word.Word.TheVariants as w
use Rattle.sig_base.specs.Stacks.{last_of, before_last}
use Rattle.ty_parser.specs.declared.sort.Sort.{Sort}
use Rattle.ty_parser.specs.declared.sort.Sort.TheVariants as s
use Rattle.ty_parser.specs.declared.tree.TyExp.{TyExp}
use Rattle.ty_parser.specs.declared.tree.TyExp.TheVariants as ty
use Rattle.ty_parser.specs.declared.tree.FieldExp.{FieldExp}
use Rattle.ty_parser.specs.declared.reader.LevelSize.{LevelSize}
use Rattle.ty_parser.specs.declared.reader.Opening.{Opening}
use Rattle.ty_parser.specs.declared.reader.Opening.TheVariants as opening
use Rattle.ty_parser.specs.machine.Operands.{Operand}
use Rattle.ty_parser.specs.machine.Operands as operand
use Rattle.ty_parser.specs.declared.reader.Stage.{Stage}
use Rattle.ty_parser.specs.declared.reader.Stage.TheVariants as stage
use Rattle.ty_parser.specs.declared.reader.Reader.{Reader}
use Rattle.ty_parser.specs.Grammar.{Numbered, of_parts, field}
use Rattle.ty_parser.specs.Sorts.{is_label, is_long_tycon}

-- what was read of a type before its last operand: the sides before arrows, and after them the components before stars
pub record Level : Type 0 where
  pub sides : List TyExp
  pub parts : List TyExp

-- what is open, with the level in which it was opened
pub data Opened : Type 0 where
  -- a parenthesis, and the types before commas
  Parens : Level → List TyExp → Opened
  -- a brace, the fields before commas, and the label of the field that is read
  Braces : Level → List FieldExp → ℕ → Opened

-- the innermost level, and what is open around it, the innermost first
pub record Stack : Type 0 where
  pub outer : List Opened
  pub level : Level

pub data State : Type 0 where
  -- an operand is wanted, or there is one that may go on
  Want : Stack → State
  Have : Stack → Operand → State
  -- after a left brace
  Brace : Stack → State
  -- after a comma in braces, and after a label, with the fields before
  Label : Stack → List FieldExp → State
  Colon : Stack → List FieldExp → ℕ → State
  -- after arguments in parentheses, which want a constructor
  Tycon : Stack → List TyExp → State

-- a level of which nothing is read
abbrev pub fresh : Level
fresh = record { sides = []; parts = [] }

abbrev pub stack : List Opened → Level → Stack
stack ls l = record { outer = ls; level = l }

-- a level of this size, the last of the types, and the types before it
abbrev pub level_of : LevelSize → List TyExp → Level
level_of l es = record { sides = last_of l.sides (before_last l.parts es); parts = last_of l.parts es }

abbrev pub before_level : LevelSize → List TyExp → List TyExp
before_level l es = before_last l.sides (before_last l.parts es)

-- what is open, the innermost first, over the types and the fields that were read in it
abbrev pub opened_of : List Opening → List TyExp → List FieldExp → List Opened
opened_of [] es fs = []
opened_of (opening.Parens l n ∷ ls) es fs = Parens (level_of l (before_last n es)) (last_of n es) ∷ opened_of ls (before_level l (before_last n es)) fs
opened_of (opening.Braces l n i ∷ ls) es fs = Braces (level_of l es) (last_of n fs) i ∷ opened_of ls (before_level l es) (before_last n fs)

-- the levels of what is open, the outermost first, and of the level of this size, over the types and the fields that were read
abbrev pub levels_of : List Opening → LevelSize → List TyExp → List FieldExp → Stack
levels_of ls l es fs = stack (opened_of (reverse ls) (before_level l es) fs) (level_of l es)

-- the levels that a reader holds, over these fields
abbrev pub levels_over : Reader → List FieldExp → Stack
levels_over r fs = levels_of r.around r.level r.types fs

-- the levels that a reader holds
abbrev pub stack_of : Reader → Stack
stack_of r = levels_over r r.fields

-- the state that a reader is in
abbrev pub state_at : Stage → Reader → State
state_at stage.Wants r = Want (stack_of r)
state_at stage.HasType r = Have (stack_of r) (operand.Alone r.operand)
state_at stage.HasApplied r = Have (stack_of r) (operand.Applied r.arguments r.constructors)
state_at stage.AfterBrace r = Brace (stack_of r)
state_at (stage.WantsLabel n) r = Label (levels_over r (before_last n r.fields)) (last_of n r.fields)
state_at (stage.WantsColon n i) r = Colon (levels_over r (before_last n r.fields)) (last_of n r.fields) i
state_at stage.WantsTycon r = Tycon (stack_of r) r.arguments

abbrev pub state_of : Reader → State
state_of r = state_at r.stage r

-- how many braces are open of which no field is read
abbrev pub braces_of : Stage → ℕ
braces_of stage.Wants = 0
braces_of stage.HasType = 0
braces_of stage.HasApplied = 0
braces_of stage.AfterBrace = 1
braces_of (stage.WantsLabel n) = 1
braces_of (stage.WantsColon n i) = 1
braces_of stage.WantsTycon = 0

-- the state after a token, where it can stand there
abbrev pub taken : {S : Type 0} → Bool → S → Option S
taken true st = Some st
taken false st = None

-- the state before a type
abbrev pub start : State
start = Want (stack [] fresh)

-- the operand as a type
abbrev pub tree_of : Operand → TyExp
tree_of (operand.Alone e) = e
tree_of (operand.Applied es cs) = ty.Apply es cs

-- a tuple of these components, the last of them apart
abbrev pub tuple_of : List TyExp → TyExp → TyExp
tuple_of es e = of_parts ty.Tuple (es ++ e ∷ [])

-- a function type of these sides, the last of them apart
abbrev pub arrows_of : List TyExp → TyExp → TyExp
arrows_of xs x = of_parts ty.Arrows (xs ++ x ∷ [])

-- the operand after a constructor
unfoldable pub with_constructor : Operand → ℕ → Operand
with_constructor (operand.Alone e) i = operand.Applied (e ∷ []) (i ∷ [])
with_constructor (operand.Applied es cs) i = operand.Applied es (cs ++ i ∷ [])

-- the levels after a star
unfoldable pub with_part : Stack → TyExp → Stack
with_part k e = stack k.outer (record { sides = k.level.sides; parts = k.level.parts ++ e ∷ [] })

-- the levels after an arrow
unfoldable pub with_side : Stack → TyExp → Stack
with_side k e = stack k.outer (record { sides = k.level.sides ++ tuple_of k.level.parts e ∷ []; parts = [] })

-- the levels after a left parenthesis
unfoldable pub inside : Stack → Stack
inside k = stack (Parens k.level [] ∷ k.outer) fresh

-- the levels after a label and its colon
unfoldable pub inside_field : Stack → List FieldExp → ℕ → Stack
inside_field k fs i = stack (Braces k.level fs i ∷ k.outer) fresh

-- the level as a type
unfoldable pub whole : Level → TyExp → TyExp
whole l e = arrows_of l.sides (tuple_of l.parts e)

-- the state after a comma
unfoldable pub comma : List Opened → TyExp → Option State
comma [] e = None
comma (Parens l es ∷ ls) e = Some (Want (stack (Parens l (es ++ e ∷ []) ∷ ls) fresh))
comma (Braces l fs i ∷ ls) e = Some (Label (stack ls l) (fs ++ field i e ∷ []))

-- the state after the parentheses around types, the last of them apart
unfoldable pub enclosed : Stack → List TyExp → TyExp → State
enclosed k [] e = Have k (operand.Alone e)
enclosed k es e = Tycon k (es ++ e ∷ [])

-- the state after a right parenthesis
unfoldable pub right_paren : List Opened → TyExp → Option State
right_paren (Parens l es ∷ ls) e = Some (enclosed (stack ls l) es e)
right_paren _ e = None

-- the state after a right brace
unfoldable pub right_brace : List Opened → TyExp → Option State
right_brace (Braces l fs i ∷ ls) e = Some (Have (stack ls l) (operand.Alone (ty.Fields (fs ++ field i e ∷ []))))
right_brace _ e = None

-- the state after a token that begins an operand and is no constructor
unfoldable pub begin : Stack → ℕ → Sort → Option State
begin k i s.Variable = Some (Have k (operand.Alone (ty.Var i)))
begin k i (s.Reserved w.KwLParen) = Some (Want (inside k))
begin k i (s.Reserved w.KwLBrace) = Some (Brace k)
begin k i _ = None

-- the state after a token where an operand is wanted
unfoldable pub want : Stack → ℕ → Sort → Option State
want k i so = if is_long_tycon so then Some (Have k (operand.Applied [] (i ∷ []))) else begin k i so

-- the state after a token behind an operand that is no constructor
unfoldable pub leave : Stack → TyExp → Sort → Option State
leave k e s.Star = Some (Want (with_part k e))
leave k e (s.Reserved w.KwArrow) = Some (Want (with_side k e))
leave k e (s.Reserved w.KwComma) = comma k.outer (whole k.level e)
leave k e (s.Reserved w.KwRParen) = right_paren k.outer (whole k.level e)
leave k e (s.Reserved w.KwRBrace) = right_brace k.outer (whole k.level e)
leave k e _ = None

-- the state after a token where there is an operand
unfoldable pub have : Stack → Operand → ℕ → Sort → Option State
have k a i so = if is_long_tycon so then Some (Have k (with_constructor a i)) else leave k (tree_of a) so

unfoldable pub no_fields : Stack → Sort → Option State
no_fields k (s.Reserved w.KwRBrace) = Some (Have k (operand.Alone (ty.Fields [])))
no_fields k _ = None

-- the state after a token behind a left brace
unfoldable pub brace : Stack → ℕ → Sort → Option State
brace k i so = if is_label so then Some (Colon k [] i) else no_fields k so

-- the state after a token behind a comma in braces
unfoldable pub label : Stack → List FieldExp → ℕ → Sort → Option State
label k fs i so = if is_label so then Some (Colon k fs i) else None

-- the state after a token behind a label
unfoldable pub colon : Stack → List FieldExp → ℕ → Sort → Option State
colon k fs i (s.Reserved w.KwColon) = Some (Want (inside_field k fs i))
colon k fs i _ = None

-- the state after a token behind arguments in parentheses
unfoldable pub tycon : Stack → List TyExp → ℕ → Sort → Option State
tycon k es i so = if is_long_tycon so then Some (Have k (operand.Applied es (i ∷ []))) else None

-- the state after a token, if it can stand there
abbrev pub step : State → Numbered → Option State
step (Want k) t = want k t.0 t.1
step (Have k a) t = have k a t.0 t.1
step (Brace k) t = brace k t.0 t.1
step (Label k fs) t = label k fs t.0 t.1
step (Colon k fs i) t = colon k fs i t.1
step (Tycon k es) t = tycon k es t.0 t.1

-- the state after some tokens, by a machine's steps
abbrev pub run : {S : Type 0} → (S → Numbered → Option S) → S → List Numbered → Option S
run go st [] = Some st
run go st (t ∷ ts) = option_and_then (λ st'. run go st' ts) (go st t)

-- a type may end only where nothing is open
unfoldable pub closed : List Opened → TyExp → Option TyExp
closed [] e = Some e
closed (l ∷ ls) e = None

-- the type that was read, if it may end there
abbrev pub finish : State → Option TyExp
finish (Have k a) = closed k.outer (whole k.level (tree_of a))
finish _ = None

-- how many parentheses and braces are open
unfoldable pub depth : State → ℕ
depth (Want k) = length k.outer
depth (Have k a) = length k.outer
depth (Brace k) = length k.outer + 1
depth (Label k fs) = length k.outer + 1
depth (Colon k fs i) = length k.outer + 1
depth (Tycon k es) = length k.outer
