-- What the grammar has, the machine reads.
use Rattle.std.proofs.Common.{◌≡◌, ℕ, List, [], ◌∷◌, ◌++◌, Option, Some, None, refl, ap, ◌∙◌}
use Rattle.std.specs.Prelude.{IsTrue, option_and_then, if◌then◌else◌}
use Rattle.ty_parser.specs.declared.sort.Sort.{Sort}
use Rattle.ty_parser.specs.declared.tree.TyExp.{TyExp}
use Rattle.ty_parser.specs.declared.tree.TyExp.TheVariants as ty
use Rattle.ty_parser.specs.declared.tree.FieldExp.{FieldExp}
use Rattle.ty_parser.specs.machine.Operands.{Operand}
use Rattle.ty_parser.specs.machine.Operands as operand
use Rattle.ty_parser.specs.Sorts.{is_label, is_long_tycon}
use Rattle.ty_parser.specs.Grammar.{Numbered, of_parts, field, Ty, sides, Sides, one_side, more_sides, Tuple, parts, Parts, one_part, more_parts, App, alone, applied, Applied, to_none, to_one, to_more, further, Unary, variable, no_fields, fields, parens, Fields, one_field, more_fields, Types, one_type, more_types}
use Rattle.ty_parser.specs.machine.Machine as machine
use Rattle.ty_parser.specs.machine.Machine.{Parens, Braces, Level, Opened, Stack, State, Want, Have, Label, Colon, Tycon, fresh, stack, start, tree_of, with_constructor, tuple_of, with_part, with_side, inside, inside_field, whole, comma, enclosed, right_paren, right_brace, begin, want, leave, have, brace, label, colon, tycon, step, run, closed, finish}

-- reading the tokens up to the rest leads from one state to the other
pub data Steps : State → List Numbered → State → List Numbered → Type 0 where
  here : {st : State} {ts : List Numbered} → Steps st ts st ts
  next : {st st' st'' : State} {t : Numbered} {ts r : List Numbered} → step st t ≡ Some st' → Steps st' ts st'' r → Steps st (t ∷ ts) st'' r

pub steps-trans : {st st' st'' : State} {ts m r : List Numbered} → Steps st ts st' m → Steps st' m st'' r → Steps st ts st'' r
steps-trans here d = d
steps-trans (next e c) d = next e (steps-trans c d)

-- a run goes as the steps go
pub steps-run : {st st' : State} {ts r : List Numbered} → Steps st ts st' r → run step st ts ≡ run step st' r
steps-run here = refl
steps-run (next {ts = ts} e d) = ap (option_and_then (λ st'. run step st' ts)) e ∙ steps-run d

-- so does the run of another machine, whose states have these inside and which goes on by their steps
pub steps-run_within : {S : Type 0} (go : S → Numbered → Option S) (within : State → S) → ((st st' : State) (t : Numbered) → step st t ≡ Some st' → go (within st) t ≡ Some (within st')) → {st st' : State} {ts r : List Numbered} → Steps st ts st' r → run go (within st) ts ≡ run go (within st') r
steps-run_within go within follows here = refl
steps-run_within go within follows (next {st = st} {st' = st'} {t = t} {ts = ts} e d) = ap (option_and_then (λ x. run go x ts)) (follows st st' t e) ∙ steps-run_within go within follows d

-- a constructor can stand where it may
module _ (i : ℕ) (so : Sort) (named : IsTrue (is_long_tycon so)) where
  pub want_tycon : (k : Stack) → want k i so ≡ Some (Have k (operand.Applied [] (i ∷ [])))
  unfolding want
  want_tycon k = ap (λ b. if b then Some (Have k (operand.Applied [] (i ∷ []))) else begin k i so) named

  pub have_tycon : (k : Stack) (a : Operand) → have k a i so ≡ Some (Have k (with_constructor a i))
  unfolding have
  have_tycon k a = ap (λ b. if b then Some (Have k (with_constructor a i)) else leave k (tree_of a) so) named

  pub arguments_tycon : (k : Stack) (es : List TyExp) → tycon k es i so ≡ Some (Have k (operand.Applied es (i ∷ [])))
  unfolding tycon
  arguments_tycon k es = ap (λ b. if b then Some (Have k (operand.Applied es (i ∷ []))) else None) named

-- a label can stand where it may
module _ (i : ℕ) (so : Sort) (named : IsTrue (is_label so)) where
  pub brace_label : (k : Stack) → brace k i so ≡ Some (Colon k [] i)
  unfolding brace
  brace_label k = ap (λ b. if b then Some (Colon k [] i) else machine.no_fields k so) named

  pub comma_label : (k : Stack) (fs : List FieldExp) → label k fs i so ≡ Some (Colon k fs i)
  unfolding label
  comma_label k fs = ap (λ b. if b then Some (Colon k fs i) else None) named

-- parentheses around two types or more want a constructor
enclosed_more : (k : Stack) (es : List TyExp) (e f : TyExp) → enclosed k (es ++ e ∷ []) f ≡ Tycon k ((es ++ e ∷ []) ++ f ∷ [])
unfolding enclosed
enclosed_more k [] e f = refl
enclosed_more k (x ∷ es) e f = refl

enclosed_types : {ts r : List Numbered} {es : List TyExp} (k : Stack) (f : TyExp) → Types ts r es → enclosed k es f ≡ Tycon k (es ++ f ∷ [])
enclosed_types k f (one_type {e = e} d) = enclosed_more k [] e f
enclosed_types k f (more_types {es = es} {e = e} d t) = enclosed_more k es e f

abbrev pub level : List TyExp → List TyExp → Level
level xs es = record { sides = xs; parts = es }

abbrev tuple_tree : List TyExp → TyExp
tuple_tree es = of_parts ty.Tuple es

abbrev arrows_tree : List TyExp → TyExp
arrows_tree xs = of_parts ty.Arrows xs

-- from a state that wants an operand, the tokens up to the rest lead to one that has the app e
pub record AppSteps (k : Stack) (ts r : List Numbered) (e : TyExp) : Type 0 where
  pub last : Operand
  pub tree : tree_of last ≡ e
  pub steps : Steps (Want k) ts (Have k last) r

-- the same, from a level's beginning or after an arrow, to the parts es
pub record PartsSteps (ls : List Opened) (xs : List TyExp) (ts r : List Numbered) (es : List TyExp) : Type 0 where
  pub before : List TyExp
  pub last : Operand
  pub trees : before ++ tree_of last ∷ [] ≡ es
  pub steps : Steps (Want (stack ls (level xs []))) ts (Have (stack ls (level xs before)) last) r

-- the same, from a level's beginning, to the sides xs
pub record SidesSteps (ls : List Opened) (ts r : List Numbered) (xs : List TyExp) : Type 0 where
  pub before : List TyExp
  pub parts : List TyExp
  pub last : Operand
  pub trees : before ++ tuple_of parts (tree_of last) ∷ [] ≡ xs
  pub steps : Steps (Want (stack ls fresh)) ts (Have (stack ls (level before parts)) last) r

-- the same, to a type that may end there
pub record TypeSteps (ls : List Opened) (ts r : List Numbered) (e : TyExp) : Type 0 where
  pub sides : List TyExp
  pub parts : List TyExp
  pub last : Operand
  pub tree : whole (level sides parts) (tree_of last) ≡ e
  pub steps : Steps (Want (stack ls fresh)) ts (Have (stack ls (level sides parts)) last) r

-- the same, from a left parenthesis, to the types es
pub record TypesSteps (l : Level) (ls : List Opened) (ts r : List Numbered) (es : List TyExp) : Type 0 where
  pub before : List TyExp
  pub sides : List TyExp
  pub parts : List TyExp
  pub last : Operand
  pub trees : before ++ whole (level sides parts) (tree_of last) ∷ [] ≡ es
  pub steps : Steps (Want (stack (Parens l [] ∷ ls) fresh)) ts (Have (stack (Parens l before ∷ ls) (level sides parts)) last) r

-- the same, from a left brace, to the fields fs
pub record FieldsSteps (l : Level) (ls : List Opened) (ts r : List Numbered) (fs : List FieldExp) : Type 0 where
  pub before : List FieldExp
  pub label : ℕ
  pub sides : List TyExp
  pub parts : List TyExp
  pub last : Operand
  pub trees : before ++ field label (whole (level sides parts) (tree_of last)) ∷ [] ≡ fs
  pub steps : Steps (machine.Brace (stack ls l)) ts (Have (stack (Braces l before label ∷ ls) (level sides parts)) last) r

mutual
  unfolding with_constructor with_part with_side inside inside_field comma right_paren right_brace enclosed begin want leave have machine.no_fields brace colon whole

  pub unary_steps : {ts r : List Numbered} {e : TyExp} (k : Stack) → Unary ts r e → Steps (Want k) ts (Have k (operand.Alone e)) r
  unary_steps k variable = next refl here
  unary_steps k no_fields = next refl (next refl here)
  unary_steps k (fields d) =
      let h = fields_steps k.level k.outer d in
      next refl (steps-trans h.steps (next (ap (λ fs. Some (Have k (operand.Alone (ty.Fields fs)))) h.trees) here))
  unary_steps k (parens d) =
      let h = type_steps (Parens k.level [] ∷ k.outer) d in
      next refl (steps-trans h.steps (next (ap (λ e. Some (Have k (operand.Alone e))) h.tree) here))

  pub applied_steps : {ts r : List Numbered} {us : List TyExp} {cs : List ℕ} (k : Stack) → Applied ts r us cs → Steps (Want k) ts (Have k (operand.Applied us cs)) r
  applied_steps k (to_none {i = i} {so = so} named) = next (want_tycon i so named k) here
  applied_steps k (to_one {i = i} {so = so} {e = e} d named) = steps-trans (unary_steps k d) (next (have_tycon i so named k (operand.Alone e)) here)
  applied_steps k (to_more {l = i} {so = so} {es = es} {e = e} d t named) =
      let h = types_steps k.level k.outer d in
      let g = type_steps (Parens k.level es ∷ k.outer) t in
      next refl (steps-trans h.steps (next (ap (λ es. Some (Want (stack (Parens k.level es ∷ k.outer) fresh))) h.trees)
      (steps-trans g.steps (next (ap (λ e. Some (enclosed k es e)) g.tree ∙ ap Some (enclosed_types k e d)) (next (arguments_tycon i so named k (es ++ e ∷ [])) here)))))
  applied_steps k (further {i = i} {so = so} {es = es} {cs = cs} d named) = steps-trans (applied_steps k d) (next (have_tycon i so named k (operand.Applied es cs)) here)

  pub app_steps : {ts r : List Numbered} {e : TyExp} (k : Stack) → App ts r e → AppSteps k ts r e
  app_steps k (alone d) = record { last = _; tree = refl; steps = unary_steps k d }
  app_steps k (applied d) = record { last = _; tree = refl; steps = applied_steps k d }

  pub parts_steps : {ts r : List Numbered} {es : List TyExp} (ls : List Opened) (xs : List TyExp) → Parts ts r es → PartsSteps ls xs ts r es
  parts_steps ls xs (one_part d) =
      let h = app_steps (stack ls (level xs [])) d in
      record { before = []; last = h.last; trees = ap (λ e. e ∷ []) h.tree; steps = h.steps }
  parts_steps ls xs (more_parts {es = es} p d) =
      let g = parts_steps ls xs p in
      let h = app_steps (stack ls (level xs es)) d in
      record {
        before = es;
        last = h.last;
        trees = ap (λ e. es ++ e ∷ []) h.tree;
        steps = steps-trans g.steps (next (ap (λ es. Some (Want (stack ls (level xs es)))) g.trees) h.steps);
      }

  pub tuple_steps : {ts r : List Numbered} {e : TyExp} (ls : List Opened) (xs : List TyExp) → Tuple ts r e → (es : List TyExp) × (a : Operand) × (tuple_of es (tree_of a) ≡ e) × Steps (Want (stack ls (level xs []))) ts (Have (stack ls (level xs es)) a) r
  tuple_steps ls xs (parts d) = let h = parts_steps ls xs d in (h.before, h.last, ap tuple_tree h.trees, h.steps)

  pub sides_steps : {ts r : List Numbered} {xs : List TyExp} (ls : List Opened) → Sides ts r xs → SidesSteps ls ts r xs
  sides_steps ls (one_side d) =
      let h = tuple_steps ls [] d in
      record { before = []; parts = h.0; last = h.1; trees = ap (λ x. x ∷ []) h.2; steps = h.3 }
  sides_steps ls (more_sides {xs = xs} p d) =
      let g = sides_steps ls p in
      let h = tuple_steps ls xs d in
      record {
        before = xs;
        parts = h.0;
        last = h.1;
        trees = ap (λ x. xs ++ x ∷ []) h.2;
        steps = steps-trans g.steps (next (ap (λ xs. Some (Want (stack ls (level xs [])))) g.trees) h.3);
      }

  pub type_steps : {ts r : List Numbered} {e : TyExp} (ls : List Opened) → Ty ts r e → TypeSteps ls ts r e
  type_steps ls (sides d) =
      let h = sides_steps ls d in
      record { sides = h.before; parts = h.parts; last = h.last; tree = ap arrows_tree h.trees; steps = h.steps }

  pub types_steps : {ts r : List Numbered} {es : List TyExp} (l : Level) (ls : List Opened) → Types ts r es → TypesSteps l ls ts r es
  types_steps l ls (one_type d) =
      let h = type_steps (Parens l [] ∷ ls) d in
      record { before = []; sides = h.sides; parts = h.parts; last = h.last; trees = ap (λ e. e ∷ []) h.tree; steps = h.steps }
  types_steps l ls (more_types {es = es} p d) =
      let g = types_steps l ls p in
      let h = type_steps (Parens l es ∷ ls) d in
      record {
        before = es;
        sides = h.sides;
        parts = h.parts;
        last = h.last;
        trees = ap (λ e. es ++ e ∷ []) h.tree;
        steps = steps-trans g.steps (next (ap (λ es. Some (Want (stack (Parens l es ∷ ls) fresh))) g.trees) h.steps);
      }

  pub fields_steps : {ts r : List Numbered} {fs : List FieldExp} (l : Level) (ls : List Opened) → Fields ts r fs → FieldsSteps l ls ts r fs
  fields_steps l ls (one_field {i = i} {so = so} named d) =
      let h = type_steps (Braces l [] i ∷ ls) d in
      record {
        before = [];
        label = i;
        sides = h.sides;
        parts = h.parts;
        last = h.last;
        trees = ap (λ e. field i e ∷ []) h.tree;
        steps = next (brace_label i so named (stack ls l)) (next refl h.steps);
      }
  fields_steps l ls (more_fields {i = i} {so = so} {fs = fs} p named d) =
      let g = fields_steps l ls p in
      let h = type_steps (Braces l fs i ∷ ls) d in
      record {
        before = fs;
        label = i;
        sides = h.sides;
        parts = h.parts;
        last = h.last;
        trees = ap (λ e. fs ++ field i e ∷ []) h.tree;
        steps = steps-trans g.steps (next (ap (λ fs. Some (Label (stack ls l) fs)) g.trees) (next (comma_label i so named (stack ls l) fs) (next refl h.steps)));
      }

-- the machine reads a type, whatever follows, and may end there
pub type_read : {ts r : List Numbered} {e : TyExp} → Ty ts r e → (st : State) × Steps start ts st r × (finish st ≡ Some e)
unfolding closed
type_read d = let h = type_steps [] d in (_, h.steps, ap Some h.tree)
