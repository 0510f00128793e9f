-- What the machine reads, the grammar has.
use Rattle.std.proofs.Common.{◌≡◌, ℕ, Bool, true, false, List, [], ◌∷◌, ◌++◌, Option, Some, None, refl, subst}
use Rattle.std.specs.Prelude.{IsTrue, IfSome, option_and_then, if◌then◌else◌}
use Rattle.sig_base.specs.declared.word.Word.TheVariants as w
use Rattle.ty_parser.specs.declared.sort.Sort.{Sort}
use Rattle.ty_parser.specs.declared.sort.Sort.TheVariants as s
use Rattle.ty_parser.specs.declared.tree.TyExp.{TyExp}
use Rattle.ty_parser.specs.declared.tree.FieldExp.{FieldExp}
use Rattle.ty_parser.specs.machine.Operands.{Operand}
use Rattle.ty_parser.specs.machine.Operands as operand
use Rattle.ty_parser.specs.Sorts.{is_label, is_long_tycon}
use Rattle.ty_parser.specs.Grammar as grammar
use Rattle.ty_parser.specs.Grammar.{Numbered, field, Ty, sides, Sides, one_side, more_sides, Tuple, parts, Parts, one_part, more_parts, App, alone, applied, Applied, to_none, to_one, to_more, further, Unary, variable, fields, parens, Fields, one_field, more_fields, Types, one_type, more_types}
use Rattle.ty_parser.specs.machine.Machine.{Parens, Braces, Level, Opened, Stack, State, Want, Have, Brace, Label, Colon, Tycon, stack, start, tree_of, with_constructor, tuple_of, with_part, with_side, inside, inside_field, whole, comma, enclosed, right_paren, right_brace, begin, want, leave, have, no_fields, brace, label, colon, tycon, step, run, closed, finish}
use Rattle.ty_parser.proofs.Runs.{if_some-and_then}

-- no parts, or parts and a star
pub data PartsTo : List Numbered → List Numbered → List TyExp → Type 0 where
  no_parts : {ts : List Numbered} → PartsTo ts ts []
  some_parts : {i : ℕ} {ts r : List Numbered} {es : List TyExp} → Parts ts ((i, s.Star) ∷ r) es → PartsTo ts r es

-- no sides, or sides and an arrow
pub data SidesTo : List Numbered → List Numbered → List TyExp → Type 0 where
  no_sides : {ts : List Numbered} → SidesTo ts ts []
  some_sides : {i : ℕ} {ts r : List Numbered} {xs : List TyExp} → Sides ts ((i, s.Reserved w.KwArrow) ∷ r) xs → SidesTo ts r xs

-- no types, or types and a comma
pub data TypesTo : List Numbered → List Numbered → List TyExp → Type 0 where
  no_types : {ts : List Numbered} → TypesTo ts ts []
  some_types : {i : ℕ} {ts r : List Numbered} {es : List TyExp} → Types ts ((i, s.Reserved w.KwComma) ∷ r) es → TypesTo ts r es

-- a label, with fields and a comma before it or not
pub data FieldsTo : List Numbered → List Numbered → List FieldExp → ℕ → Type 0 where
  first_field : {j : ℕ} {so : Sort} {r : List Numbered} → IsTrue (is_label so) → FieldsTo ((j, so) ∷ r) r [] j
  next_field : {i j : ℕ} {so : Sort} {ts r : List Numbered} {fs : List FieldExp} → Fields ts ((i, s.Reserved w.KwComma) ∷ (j, so) ∷ r) fs → IsTrue (is_label so) → FieldsTo ts r fs j

-- the level holds what stands between the two
pub record LevelTo (ts r : List Numbered) (l : Level) : Type 0 where
  pub between : List Numbered
  pub sides_to : SidesTo ts between l.sides
  pub parts_to : PartsTo between r l.parts

-- what is open, each with the level before it, is what stands between the two
pub data OuterTo : List Numbered → List Numbered → List Opened → Type 0 where
  outermost : {ts : List Numbered} → OuterTo ts ts []
  in_parens : {i : ℕ} {ts m q r : List Numbered} {l : Level} {ls : List Opened} {es : List TyExp} → OuterTo ts m ls → LevelTo m ((i, s.Reserved w.KwLParen) ∷ q) l → TypesTo q r es → OuterTo ts r (Parens l es ∷ ls)
  in_braces : {h i c : ℕ} {ts m q r : List Numbered} {l : Level} {ls : List Opened} {fs : List FieldExp} → OuterTo ts m ls → LevelTo m ((h, s.Reserved w.KwLBrace) ∷ q) l → FieldsTo q ((c, s.Reserved w.KwColon) ∷ r) fs i → OuterTo ts r (Braces l fs i ∷ ls)

pub record StackTo (ts r : List Numbered) (k : Stack) : Type 0 where
  pub from : List Numbered
  pub outer_to : OuterTo ts from k.outer
  pub level_to : LevelTo from r k.level

-- the operand is what stands between the two
abbrev pub OperandTo : List Numbered → List Numbered → Operand → Type 0
OperandTo ts r (operand.Alone e) = Unary ts r e
OperandTo ts r (operand.Applied es cs) = Applied ts r es cs

pub record HaveTo (ts r : List Numbered) (k : Stack) (a : Operand) : Type 0 where
  pub from : List Numbered
  pub stack_to : StackTo ts from k
  pub operand_to : OperandTo from r a

-- the same, with fields and a comma after a left brace
pub record LabelTo (ts r : List Numbered) (k : Stack) (fs : List FieldExp) : Type 0 where
  pub left : ℕ
  pub comma : ℕ
  pub from : List Numbered
  pub stack_to : StackTo ts ((left, s.Reserved w.KwLBrace) ∷ from) k
  pub fields_to : Fields from ((comma, s.Reserved w.KwComma) ∷ r) fs

-- the same, with a label
pub record ColonTo (ts r : List Numbered) (k : Stack) (fs : List FieldExp) (i : ℕ) : Type 0 where
  pub left : ℕ
  pub from : List Numbered
  pub stack_to : StackTo ts ((left, s.Reserved w.KwLBrace) ∷ from) k
  pub fields_to : FieldsTo from r fs i

-- the same, with two types or more in parentheses
pub record TyconTo (ts r : List Numbered) (k : Stack) (es : List TyExp) : Type 0 where
  pub left : ℕ
  pub comma : ℕ
  pub right : ℕ
  pub from : List Numbered
  pub between : List Numbered
  pub before : List TyExp
  pub last : TyExp
  pub stack_to : StackTo ts ((left, s.Reserved w.KwLParen) ∷ from) k
  pub types_to : Types from ((comma, s.Reserved w.KwComma) ∷ between) before
  pub last_to : Ty between ((right, s.Reserved w.KwRParen) ∷ r) last
  pub arguments : before ++ last ∷ [] ≡ es

-- what was read of ts up to r has led to the state
abbrev pub StateTo : List Numbered → List Numbered → State → Type 0
StateTo ts r (Want k) = StackTo ts r k
StateTo ts r (Have k a) = HaveTo ts r k a
StateTo ts r (Brace k) = (i : ℕ) × StackTo ts ((i, s.Reserved w.KwLBrace) ∷ r) k
StateTo ts r (Label k fs) = LabelTo ts r k fs
StateTo ts r (Colon k fs i) = ColonTo ts r k fs i
StateTo ts r (Tycon k es) = TyconTo ts r k es

fresh_to : {ts m : List Numbered} {ls : List Opened} → OuterTo ts m ls → StackTo ts m (stack ls (record { sides = []; parts = [] }))
fresh_to outer = record { from = _; outer_to = outer; level_to = record { between = _; sides_to = no_sides; parts_to = no_parts } }

pub start_to : (ts : List Numbered) → StateTo ts ts start
start_to ts = fresh_to outermost

operand_app : {ts r : List Numbered} (a : Operand) → OperandTo ts r a → App ts r (tree_of a)
operand_app (operand.Alone e) to = alone to
operand_app (operand.Applied es cs) to = applied to

parts_join : {ts m r : List Numbered} {es : List TyExp} {e : TyExp} → PartsTo ts m es → App m r e → Parts ts r (es ++ e ∷ [])
parts_join no_parts a = one_part a
parts_join (some_parts d) a = more_parts d a

sides_join : {ts m r : List Numbered} {xs : List TyExp} {x : TyExp} → SidesTo ts m xs → Tuple m r x → Sides ts r (xs ++ x ∷ [])
sides_join no_sides d = one_side d
sides_join (some_sides d) t = more_sides d t

types_join : {ts m r : List Numbered} {es : List TyExp} {e : TyExp} → TypesTo ts m es → Ty m r e → Types ts r (es ++ e ∷ [])
types_join no_types t = one_type t
types_join (some_types d) t = more_types d t

fields_join : {c i : ℕ} {ts m r : List Numbered} {fs : List FieldExp} {e : TyExp} → FieldsTo ts ((c, s.Reserved w.KwColon) ∷ m) fs i → Ty m r e → Fields ts r (fs ++ field i e ∷ [])
fields_join (first_field named) t = one_field named t
fields_join (next_field d named) t = more_fields d named t

level_sides : {ts m r : List Numbered} (l : Level) {e : TyExp} → LevelTo ts m l → App m r e → Sides ts r (l.sides ++ tuple_of l.parts e ∷ [])
level_sides l to a = sides_join to.sides_to (parts (parts_join to.parts_to a))

level_type : {ts m r : List Numbered} (l : Level) {e : TyExp} → LevelTo ts m l → App m r e → Ty ts r (whole l e)
unfolding whole
level_type l to a = sides (level_sides l to a)

comma_sound : {j : ℕ} {ts m r : List Numbered} {e : TyExp} (ls : List Opened) → OuterTo ts m ls → Ty m ((j, s.Reserved w.KwComma) ∷ r) e → IfSome (comma ls e) (StateTo ts r)
unfolding comma
comma_sound [] to t = tt
comma_sound (Parens l es ∷ ls) (in_parens outer level d) t = fresh_to (in_parens outer level (some_types (types_join d t)))
comma_sound (Braces l fs i ∷ ls) (in_braces outer level d) t = record { left = _; comma = _; from = _; stack_to = record { from = _; outer_to = outer; level_to = level }; fields_to = fields_join d t }

types_some : {ts r : List Numbered} {es : List TyExp} → Types ts r es → es ≡ [] → ⊥
types_some (one_type d) e = cc
types_some (more_types {es = []} d t) e = cc
types_some (more_types {es = x ∷ es} d t) e = cc

right_paren_sound : {j : ℕ} {ts m r : List Numbered} {e : TyExp} (ls : List Opened) → OuterTo ts m ls → Ty m ((j, s.Reserved w.KwRParen) ∷ r) e → IfSome (right_paren ls e) (StateTo ts r)
unfolding right_paren enclosed
right_paren_sound [] to t = tt
right_paren_sound (Parens l [] ∷ ls) (in_parens outer level no_types) t =
    record { from = _; stack_to = record { from = _; outer_to = outer; level_to = level }; operand_to = parens t }
right_paren_sound (Parens l [] ∷ ls) (in_parens outer level (some_types d)) t = absurd (types_some d refl)
right_paren_sound (Parens l (x ∷ es) ∷ ls) (in_parens outer level (some_types d)) t =
    record { left = _; comma = _; right = _; from = _; between = _; before = _; last = _; stack_to = record { from = _; outer_to = outer; level_to = level }; types_to = d; last_to = t; arguments = refl }
right_paren_sound (Braces l fs i ∷ ls) to t = tt

right_brace_sound : {j : ℕ} {ts m r : List Numbered} {e : TyExp} (ls : List Opened) → OuterTo ts m ls → Ty m ((j, s.Reserved w.KwRBrace) ∷ r) e → IfSome (right_brace ls e) (StateTo ts r)
unfolding right_brace
right_brace_sound [] to t = tt
right_brace_sound (Parens l es ∷ ls) to t = tt
right_brace_sound (Braces l fs i ∷ ls) (in_braces outer level d) t =
    record { from = _; stack_to = record { from = _; outer_to = outer; level_to = level }; operand_to = fields (fields_join d t) }

-- a state where it may be had, and else another
pub if_some-or : {A : Type 0} (P : A → Type 0) (b : Bool) (a : A) (o : Option A) → (IsTrue b → P a) → IfSome o P → IfSome (if b then Some a else o) P
if_some-or P true a o h g = h refl
if_some-or P false a o h g = g

begin_sound : {ts r : List Numbered} (k : Stack) (i : ℕ) (so : Sort) → StackTo ts ((i, so) ∷ r) k → IfSome (begin k i so) (StateTo ts r)
unfolding begin inside
begin_sound k i s.Variable to = record { from = _; stack_to = to; operand_to = variable }
begin_sound k i (s.Reserved w.KwLParen) to = fresh_to (in_parens to.outer_to to.level_to no_types)
begin_sound k i (s.Reserved w.KwLBrace) to = (i, to)
begin_sound k i _ to = tt

want_sound : {ts r : List Numbered} (k : Stack) (i : ℕ) (so : Sort) → StackTo ts ((i, so) ∷ r) k → IfSome (want k i so) (StateTo ts r)
unfolding want
want_sound {ts = ts} {r = r} k i so to =
    if_some-or (StateTo ts r) (is_long_tycon so) (Have k (operand.Applied [] (i ∷ []))) (begin k i so) (λ named. record { from = _; stack_to = to; operand_to = to_none named }) (begin_sound k i so to)

constructor_sound : (i : ℕ) (so : Sort) (ts r : List Numbered) (a : Operand) → IsTrue (is_long_tycon so) → OperandTo ts ((i, so) ∷ r) a → OperandTo ts r (with_constructor a i)
unfolding with_constructor
constructor_sound i so ts r (operand.Alone e) named to = to_one to named
constructor_sound i so ts r (operand.Applied es cs) named to = further to named

leave_sound : {ts m r : List Numbered} {e : TyExp} (k : Stack) (i : ℕ) (so : Sort) → StackTo ts m k → App m ((i, so) ∷ r) e → IfSome (leave k e so) (StateTo ts r)
unfolding leave with_part with_side
leave_sound k i s.Star to a =
    let l = to.level_to in
    record { from = _; outer_to = to.outer_to; level_to = record { between = _; sides_to = l.sides_to; parts_to = some_parts (parts_join l.parts_to a) } }
leave_sound k i (s.Reserved w.KwArrow) to a =
    record { from = _; outer_to = to.outer_to; level_to = record { between = _; sides_to = some_sides (level_sides k.level to.level_to a); parts_to = no_parts } }
leave_sound k i (s.Reserved w.KwComma) to a = comma_sound k.outer to.outer_to (level_type k.level to.level_to a)
leave_sound k i (s.Reserved w.KwRParen) to a = right_paren_sound k.outer to.outer_to (level_type k.level to.level_to a)
leave_sound k i (s.Reserved w.KwRBrace) to a = right_brace_sound k.outer to.outer_to (level_type k.level to.level_to a)
leave_sound k i _ to a = tt

have_sound : {ts r : List Numbered} (k : Stack) (a : Operand) (i : ℕ) (so : Sort) → HaveTo ts ((i, so) ∷ r) k a → IfSome (have k a i so) (StateTo ts r)
unfolding have
have_sound {ts = ts} {r = r} k a i so to =
    if_some-or (StateTo ts r) (is_long_tycon so) (Have k (with_constructor a i)) (leave k (tree_of a) so)
    (λ named. record { from = _; stack_to = to.stack_to; operand_to = constructor_sound i so _ _ a named to.operand_to })
    (leave_sound k i so to.stack_to (operand_app a to.operand_to))

no_fields_sound : {ts r : List Numbered} (h i : ℕ) (k : Stack) (so : Sort) → StackTo ts ((h, s.Reserved w.KwLBrace) ∷ (i, so) ∷ r) k → IfSome (no_fields k so) (StateTo ts r)
unfolding no_fields
no_fields_sound h i k (s.Reserved w.KwRBrace) to = record { from = _; stack_to = to; operand_to = grammar.no_fields }
no_fields_sound h i k _ to = tt

brace_sound : {ts r : List Numbered} (h : ℕ) (k : Stack) (i : ℕ) (so : Sort) → StackTo ts ((h, s.Reserved w.KwLBrace) ∷ (i, so) ∷ r) k → IfSome (brace k i so) (StateTo ts r)
unfolding brace
brace_sound {ts = ts} {r = r} h k i so to =
    if_some-or (StateTo ts r) (is_label so) (Colon k [] i) (no_fields k so) (λ named. record { left = h; from = _; stack_to = to; fields_to = first_field named }) (no_fields_sound h i k so to)

label_sound : {ts r : List Numbered} (k : Stack) (fs : List FieldExp) (i : ℕ) (so : Sort) → LabelTo ts ((i, so) ∷ r) k fs → IfSome (label k fs i so) (StateTo ts r)
unfolding label
label_sound {ts = ts} {r = r} k fs i so to =
    if_some-or (StateTo ts r) (is_label so) (Colon k fs i) None (λ named. record { left = to.left; from = to.from; stack_to = to.stack_to; fields_to = next_field to.fields_to named }) tt

colon_sound : {ts r : List Numbered} (k : Stack) (fs : List FieldExp) (i c : ℕ) (so : Sort) → ColonTo ts ((c, so) ∷ r) k fs i → IfSome (colon k fs i so) (StateTo ts r)
unfolding colon inside_field
colon_sound k fs i c (s.Reserved w.KwColon) to = fresh_to (in_braces to.stack_to.outer_to to.stack_to.level_to to.fields_to)
colon_sound k fs i c _ to = tt

tycon_applied : {i : ℕ} {so : Sort} {ts r : List Numbered} (k : Stack) (es : List TyExp) (to : TyconTo ts ((i, so) ∷ r) k es) → IsTrue (is_long_tycon so) → HaveTo ts r k (operand.Applied es (i ∷ []))
tycon_applied {i = i} {so = so} {ts = ts} {r = r} k es to named =
    let P : List TyExp → Type 0 = λ es. HaveTo ts r k (operand.Applied es (i ∷ [])) in
    subst P to.arguments (record { from = _; stack_to = to.stack_to; operand_to = to_more to.types_to to.last_to named })

tycon_sound : {ts r : List Numbered} (k : Stack) (es : List TyExp) (i : ℕ) (so : Sort) → TyconTo ts ((i, so) ∷ r) k es → IfSome (tycon k es i so) (StateTo ts r)
unfolding tycon
tycon_sound {ts = ts} {r = r} k es i so to = if_some-or (StateTo ts r) (is_long_tycon so) (Have k (operand.Applied es (i ∷ []))) None (λ named. tycon_applied k es to named) tt

pub step_sound : (ts r : List Numbered) (st : State) (t : Numbered) → StateTo ts (t ∷ r) st → IfSome (step st t) (StateTo ts r)
step_sound ts r (Want k) t to = want_sound k t.0 t.1 to
step_sound ts r (Have k a) t to = have_sound k a t.0 t.1 to
step_sound ts r (Brace k) t to = brace_sound to.0 k t.0 t.1 to.1
step_sound ts r (Label k fs) t to = label_sound k fs t.0 t.1 to
step_sound ts r (Colon k fs i) t to = colon_sound k fs i t.0 t.1 to
step_sound ts r (Tycon k es) t to = tycon_sound k es t.0 t.1 to

pub run_sound : (ts : List Numbered) (st : State) (r : List Numbered) → StateTo ts r st → IfSome (run step st r) (StateTo ts [])
run_sound ts st [] to = to
run_sound ts st (t ∷ r) to = if_some-and_then (λ st'. run step st' r) (step st t) (StateTo ts r) (StateTo ts []) (step_sound ts r st t to) (λ st' to'. run_sound ts st' r to')

closed_sound : {ts m r : List Numbered} {e : TyExp} (ls : List Opened) → OuterTo ts m ls → Ty m r e → IfSome (closed ls e) (Ty ts r)
unfolding closed
closed_sound [] outermost d = d
closed_sound (l ∷ ls) to d = tt

-- what may end is a type
pub finish_sound : (ts r : List Numbered) (st : State) → StateTo ts r st → IfSome (finish st) (Ty ts r)
finish_sound ts r (Have k a) to = closed_sound k.outer to.stack_to.outer_to (level_type k.level to.stack_to.level_to (operand_app a to.operand_to))
finish_sound ts r _ to = tt

pub parse_sound : (ts : List Numbered) → IfSome (option_and_then finish (run step start ts)) (Ty ts [])
parse_sound ts =
    if_some-and_then finish (run step start ts) (StateTo ts []) (Ty ts []) (run_sound ts start ts (start_to ts)) (λ st to. finish_sound ts [] st to)
