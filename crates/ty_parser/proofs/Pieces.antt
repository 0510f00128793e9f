-- What a token does to what is open, the last of a reader's list.
use Rattle.std.proofs.Common.{◌≡◌, ℕ, ◌+◌, ◌-◌, get_or, Bool, true, false, not, List, [], ◌∷◌, ◌++◌, Option, Some, None, is_some, Result, Ok, Err, length, refl, ap, sym, ◌∙◌, reverse, arith}
use Rattle.std.specs.Prelude.{IsTrue, ◌↔◌, slice_get, OnOk}
use Rattle.sig_base.specs.declared.no_memory.NoMemory.{NoMemory}
use Rattle.std.proofs.lemmas.Bool.{false≢true}
use Rattle.std.proofs.lemmas.List.{reverse-append, reverse-reverse, length-reverse, get_or-reverse}
use Rattle.std.proofs.lemmas.Option.{slice_get-get_or}
use Rattle.ty_parser.specs.declared.tree.TyExp.{TyExp}
use Rattle.ty_parser.specs.declared.tree.FieldExp.{FieldExp}
use Rattle.ty_parser.specs.declared.reader.LevelSize.{LevelSize}
use Rattle.ty_parser.specs.declared.reader.Opening.{Opening}
use Rattle.ty_parser.specs.declared.reader.Opening.TheVariants as opening
use Rattle.ty_parser.specs.declared.reader.Stage.{Stage}
use Rattle.ty_parser.specs.declared.reader.Stage.TheVariants as stage
use Rattle.ty_parser.specs.declared.reader.Reader.{Reader}
use Rattle.ty_parser.specs.declared.tree.TyExp.TheVariants as ty
use Rattle.ty_parser.specs.machine.Operands as operand
use Rattle.ty_parser.specs.Grammar.{field, of_parts}
use Rattle.sig_base.specs.Stacks.{last_of, before_last}
use Rattle.ty_parser.specs.machine.Machine.{Parens, State, Want, Have, Label, Tycon, Stack, stack, fresh, level_of, before_level, opened_of, levels_of, tuple_of, with_part, with_side, inside, enclosed, comma, right_paren, right_brace, closed, depth, state_at, braces_of}
use Rattle.sig_base.proofs.Stacks.{last_of-none, before_last-none, before_last-all}

-- the last of a list is the first of it from the end
last_open : (ls : List Opening) → slice_get ls (length ls - 1) ≡ slice_get (reverse ls) 0
last_open [] = refl
last_open (l ∷ ls) =
    let some = length-reverse (l ∷ ls) in
    let same : length (l ∷ ls) - 1 - 0 ≡ length (l ∷ ls) - 1 = omega arith in
    slice_get-get_or (l ∷ ls) (length (l ∷ ls) - 1) l (omega arith)
    ∙ sym (slice_get-get_or (reverse (l ∷ ls)) 0 l (omega (arith, some)) ∙ ap Some (get_or-reverse (l ∷ ls) 0 l (omega arith) ∙ ap (λ n. get_or (l ∷ ls) n l) same))

abbrev pub is_parens : Option Opening → Bool
is_parens None = false
is_parens (Some (opening.Parens l n)) = true
is_parens (Some (opening.Braces l n i)) = false

abbrev pub is_braces : Option Opening → Bool
is_braces None = false
is_braces (Some (opening.Parens l n)) = false
is_braces (Some (opening.Braces l n i)) = true

module _ (es : List TyExp) (fs : List FieldExp) (e : TyExp) where
  paren_is : (ls : List Opening) → is_parens (slice_get ls 0) ≡ is_some (right_paren (opened_of ls es fs) e)
  unfolding right_paren
  paren_is [] = refl
  paren_is (opening.Parens l n ∷ ls) = refl
  paren_is (opening.Braces l n i ∷ ls) = refl

  brace_is : (ls : List Opening) → is_braces (slice_get ls 0) ≡ is_some (right_brace (opened_of ls es fs) e)
  unfolding right_brace
  brace_is [] = refl
  brace_is (opening.Parens l n ∷ ls) = refl
  brace_is (opening.Braces l n i ∷ ls) = refl

  module _ (ls items : List Opening) (last : Option Opening) (is : last ≡ slice_get items (length items - 1)) (same : items ≡ ls) where
    pub right_paren_is : is_parens last ≡ is_some (right_paren (opened_of (reverse ls) es fs) e)
    right_paren_is = ap is_parens (is ∙ last_open items) ∙ paren_is (reverse items) ∙ ap (λ ls. is_some (right_paren (opened_of (reverse ls) es fs) e)) same

    pub right_brace_is : is_braces last ≡ is_some (right_brace (opened_of (reverse ls) es fs) e)
    right_brace_is = ap is_braces (is ∙ last_open items) ∙ brace_is (reverse items) ∙ ap (λ ls. is_some (right_brace (opened_of (reverse ls) es fs) e)) same

  comma_any : (ls : List Opening) → (ls ≡ [] → ⊥) → is_some (comma (opened_of ls es fs) e) ≡ true
  unfolding comma
  comma_any [] some = absurd (some refl)
  comma_any (opening.Parens l n ∷ ls) some = refl
  comma_any (opening.Braces l n i ∷ ls) some = refl

  comma_empty : (ls : List Opening) → ls ≡ [] → is_some (comma (opened_of (reverse ls) es fs) e) ≡ false
  unfolding comma
  comma_empty ls empty = ap (λ ls. is_some (comma (opened_of (reverse ls) es fs) e)) empty

  pub comma_is : (ls : List Opening) (empty : Bool) → (IsTrue empty ↔ (ls ≡ [])) → not empty ≡ is_some (comma (opened_of (reverse ls) es fs) e)
  comma_is ls true h = sym (comma_empty ls (h.0 refl))
  comma_is ls false h = sym (comma_any (reverse ls) (λ none. false≢true (h.1 (sym (reverse-reverse ls) ∙ ap reverse none))))

-- as many are open as are held
pub opened_length : (ls : List Opening) (es : List TyExp) (fs : List FieldExp) → length (opened_of ls es fs) ≡ length ls
opened_length [] es fs = refl
opened_length (opening.Parens l n ∷ ls) es fs = let rest = opened_length ls (before_level l (before_last n es)) fs in omega (arith, rest)
opened_length (opening.Braces l n i ∷ ls) es fs = let rest = opened_length ls (before_level l es) (before_last n fs) in omega (arith, rest)

pub around_length : (ls : List Opening) (es : List TyExp) (fs : List FieldExp) → length (opened_of (reverse ls) es fs) ≡ length ls
around_length ls es fs = opened_length (reverse ls) es fs ∙ length-reverse ls

-- a phrase of more than one part
pub of_more : (node : List TyExp → TyExp) (es : List TyExp) (e : TyExp) → (es ≡ [] → ⊥) → of_parts node (es ++ e ∷ []) ≡ node (es ++ e ∷ [])
of_more node [] e some = absurd (some refl)
of_more node (x ∷ []) e some = refl
of_more node (x ∷ y ∷ es) e some = refl

pub of_one : (node : List TyExp → TyExp) (es : List TyExp) (e : TyExp) → es ≡ [] → e ≡ of_parts node (es ++ e ∷ [])
of_one node es e none = sym (ap (λ es. of_parts node (es ++ e ∷ [])) none)

-- a level of nothing
pub fresh_level : (l : LevelSize) (es : List TyExp) → l ≡ record { sides = 0; parts = 0 } → level_of l es ≡ fresh
fresh_level l es e =
    ap (λ l. level_of l es) e ∙ (λ i. record { sides = last_of-none (before_last 0 es) i; parts = last_of-none es i })

pub fresh_before : (l : LevelSize) (es : List TyExp) → l ≡ record { sides = 0; parts = 0 } → before_level l es ≡ es
fresh_before l es e = ap (λ l. before_level l es) e ∙ before_last-none (before_last 0 es) ∙ before_last-none es

pub opened_is : (ls ls' : List Opening) (o : Opening) (l : LevelSize) (es : List TyExp) (fs : List FieldExp) → ls' ≡ ls ++ o ∷ [] → l ≡ record { sides = 0; parts = 0 }
    → levels_of ls' l es fs ≡ stack (opened_of (o ∷ reverse ls) es fs) fresh
opened_is ls ls' o l es fs pushed none =
    let outer = ap reverse pushed ∙ reverse-append ls (o ∷ []) in
    λ i. stack (opened_of (outer i) (fresh_before l es none i) fs) (fresh_level l es none i)

-- a level with one part more, and with one side more
pub with_part_is : (ls : List Opening) (l : LevelSize) (es es' : List TyExp) (fs : List FieldExp) (e : TyExp) (n : ℕ)
    → last_of n es' ≡ last_of l.parts es ++ e ∷ [] → before_last n es' ≡ before_last l.parts es
    → levels_of ls (record { sides = l.sides; parts = n }) es' fs ≡ with_part (levels_of ls l es fs) e
unfolding with_part
with_part_is ls l es es' fs e n last before =
    λ i. stack (opened_of (reverse ls) (before_last l.sides (before i)) fs) (record { sides = last_of l.sides (before i); parts = last i })

pub with_side_is : (ls : List Opening) (l : LevelSize) (es es' es'' : List TyExp) (fs : List FieldExp) (e side : TyExp) (n : ℕ)
    → es' ≡ before_last l.parts es → side ≡ tuple_of (last_of l.parts es) e
    → last_of n es'' ≡ last_of l.sides es' ++ side ∷ [] → before_last n es'' ≡ before_last l.sides es'
    → levels_of ls (record { sides = n; parts = 0 }) es'' fs ≡ with_side (levels_of ls l es fs) e
unfolding with_side
with_side_is ls l es es' es'' fs e side n rest side_is last_is before_is =
    let all = before_last-none es'' in
    let before = ap (before_last n) all ∙ before_is ∙ ap (before_last l.sides) rest in
    let last = ap (last_of n) all ∙ last_is ∙ (λ i. last_of l.sides (rest i) ++ side_is i ∷ []) in
    λ i. stack (opened_of (reverse ls) (before i) fs) (record { sides = last i; parts = last_of-none es'' i })

-- nothing is open
module _ (ls : List Opening) (empty : ls ≡ []) (es : List TyExp) (fs : List FieldExp) (e : TyExp) where
  pub comma_none : None ≡ comma (opened_of (reverse ls) es fs) e
  unfolding comma
  comma_none = sym (ap (λ ls. comma (opened_of (reverse ls) es fs) e) empty)

  pub right_paren_none : None ≡ right_paren (opened_of (reverse ls) es fs) e
  unfolding right_paren
  right_paren_none = sym (ap (λ ls. right_paren (opened_of (reverse ls) es fs) e) empty)

  pub right_brace_none : None ≡ right_brace (opened_of (reverse ls) es fs) e
  unfolding right_brace
  right_brace_none = sym (ap (λ ls. right_brace (opened_of (reverse ls) es fs) e) empty)

-- this is open
module _ (ls rest : List Opening) (last o : Opening) (popped : ls ≡ rest ++ last ∷ []) (is : last ≡ o) (es es' : List TyExp) (same : es' ≡ es) (fs : List FieldExp) where
  pub last_is : opened_of (reverse ls) es fs ≡ opened_of (o ∷ reverse rest) es' fs
  last_is =
      let outer = ap reverse popped ∙ reverse-append rest (last ∷ []) ∙ ap (λ l. l ∷ reverse rest) is in
      λ i. opened_of (outer i) (sym same i) fs

-- a parenthesis is open, and the level in it is one type
module _ (ls rest : List Opening) (last : Opening) (l : LevelSize) (n : ℕ) (popped : ls ≡ rest ++ last ∷ []) (is : last ≡ opening.Parens l n) (es es' : List TyExp) (same : es' ≡ es) (fs : List FieldExp) (e f : TyExp) (whole_is : e ≡ f) where
  pub comma_parens : (es'' : List TyExp) (more : ℕ) (st : State) → last_of more es'' ≡ last_of n es' ++ e ∷ [] → before_last more es'' ≡ before_last n es'
      → st ≡ Want (stack (opened_of (opening.Parens l more ∷ reverse rest) es'' fs) fresh) → Some st ≡ comma (opened_of (reverse ls) es fs) f
  unfolding comma
  comma_parens es'' more st one_more before st_is =
      let arguments = one_more ∙ ap (λ e. last_of n es' ++ e ∷ []) whole_is in
      ap Some st_is
      ∙ (λ i. Some (Want (stack (Parens (level_of l (before i)) (arguments i) ∷ opened_of (reverse rest) (before_level l (before i)) fs) fresh)))
      ∙ sym (ap (λ ls. comma ls f) (last_is ls rest last (opening.Parens l n) popped is es es' same fs))

  pub right_paren_parens : (st : State) → st ≡ enclosed (levels_of rest l (before_last n es') fs) (last_of n es') e → Some st ≡ right_paren (opened_of (reverse ls) es fs) f
  unfolding right_paren
  right_paren_parens st st_is =
      ap Some (st_is ∙ ap (enclosed (levels_of rest l (before_last n es') fs) (last_of n es')) whole_is)
      ∙ sym (ap (λ ls. right_paren ls f) (last_is ls rest last (opening.Parens l n) popped is es es' same fs))

module _ (ls rest : List Opening) (last : Opening) (l : LevelSize) (n : ℕ) (popped : ls ≡ rest ++ last ∷ []) (is : last ≡ opening.Parens l n) (es : List TyExp) (fs : List FieldExp) (f : TyExp) where
  pub right_brace_parens : None ≡ right_brace (opened_of (reverse ls) es fs) f
  unfolding right_brace
  right_brace_parens = sym (ap (λ ls. right_brace ls f) (last_is ls rest last (opening.Parens l n) popped is es es refl fs))

-- a brace is open, and the level in it is one type
module _ (ls rest : List Opening) (last : Opening) (l : LevelSize) (n i : ℕ) (popped : ls ≡ rest ++ last ∷ []) (is : last ≡ opening.Braces l n i) (es es' : List TyExp) (same : es' ≡ es) (fs fs' : List FieldExp) (e f : TyExp) (whole_is : e ≡ f)
    (more : ℕ) (one_more : last_of more fs' ≡ last_of n fs ++ field i e ∷ []) (before_is : before_last more fs' ≡ before_last n fs) where
  fields_is : last_of more fs' ≡ last_of n fs ++ field i f ∷ []
  fields_is = one_more ∙ ap (λ e. last_of n fs ++ field i e ∷ []) whole_is

  pub comma_braces : Some (Label (levels_of rest l es' (before_last more fs')) (last_of more fs')) ≡ comma (opened_of (reverse ls) es fs) f
  unfolding comma
  comma_braces =
      (λ j. Some (Label (levels_of rest l es' (before_is j)) (fields_is j)))
      ∙ sym (ap (λ ls. comma ls f) (last_is ls rest last (opening.Braces l n i) popped is es es' same fs))

  pub right_brace_braces : (gs : List FieldExp) (fs'' : List FieldExp) → gs ≡ last_of more fs' → fs'' ≡ before_last more fs'
      → Some (Have (levels_of rest l es' fs'') (operand.Alone (ty.Fields gs))) ≡ right_brace (opened_of (reverse ls) es fs) f
  unfolding right_brace
  right_brace_braces gs fs'' gs_is rest_is =
      let all = gs_is ∙ fields_is in
      let below = rest_is ∙ before_is in
      (λ j. Some (Have (levels_of rest l es' (below j)) (operand.Alone (ty.Fields (all j)))))
      ∙ sym (ap (λ ls. right_brace ls f) (last_is ls rest last (opening.Braces l n i) popped is es es' same fs))

module _ (ls rest : List Opening) (last : Opening) (l : LevelSize) (n i : ℕ) (popped : ls ≡ rest ++ last ∷ []) (is : last ≡ opening.Braces l n i) (es : List TyExp) (fs : List FieldExp) (f : TyExp) where
  pub right_paren_braces : None ≡ right_paren (opened_of (reverse ls) es fs) f
  unfolding right_paren
  right_paren_braces = sym (ap (λ ls. right_paren ls f) (last_is ls rest last (opening.Braces l n i) popped is es es refl fs))

-- what comes of types in parentheses, the last of them apart
module _ (ls : List Opening) (l : LevelSize) (n : ℕ) (es : List TyExp) (fs : List FieldExp) (e : TyExp) where
  pub enclosed_one : last_of n es ≡ [] → Have (levels_of ls l es fs) (operand.Alone e) ≡ enclosed (levels_of ls l (before_last n es) fs) (last_of n es) e
  unfolding enclosed
  enclosed_one none =
      ap (λ es. Have (levels_of ls l es fs) (operand.Alone e)) (sym (before_last-all n es none))
      ∙ sym (ap (λ args. enclosed (levels_of ls l (before_last n es) fs) args e) none)

  some_enclosed : (k : Stack) (args : List TyExp) → (args ≡ [] → ⊥) → enclosed k args e ≡ Tycon k (args ++ e ∷ [])
  unfolding enclosed
  some_enclosed k [] some = absurd (some refl)
  some_enclosed k (x ∷ args) some = refl

  pub enclosed_more : (es' es'' : List TyExp) (more : ℕ) (args : List TyExp) → (last_of n es ≡ [] → ⊥)
      → last_of more es' ≡ last_of n es ++ e ∷ [] → before_last more es' ≡ before_last n es → args ≡ last_of more es' → es'' ≡ before_last more es'
      → Tycon (levels_of ls l es'' fs) args ≡ enclosed (levels_of ls l (before_last n es) fs) (last_of n es) e
  enclosed_more es' es'' more args some last before as_is rest_is =
      let all = as_is ∙ last in
      let below = rest_is ∙ before in
      (λ i. Tycon (levels_of ls l (below i) fs) (all i)) ∙ sym (some_enclosed (levels_of ls l (before_last n es) fs) (last_of n es) some)

-- a type may end where nothing is open
pub closed_none : (ls : List Opening) (es : List TyExp) (fs : List FieldExp) (e : TyExp) → (ls ≡ [] → ⊥) → None ≡ closed (opened_of (reverse ls) es fs) e
unfolding closed
closed_none ls es fs e some = open_closed (reverse ls) (λ none. some (sym (reverse-reverse ls) ∙ ap reverse none))
  where
    open_closed : (ls : List Opening) → (ls ≡ [] → ⊥) → None ≡ closed (opened_of ls es fs) e
    open_closed [] some = absurd (some refl)
    open_closed (opening.Parens l n ∷ ls) some = refl
    open_closed (opening.Braces l n i ∷ ls) some = refl

pub closed_some : (ls : List Opening) (es : List TyExp) (fs : List FieldExp) (e f : TyExp) → ls ≡ [] → e ≡ f → Some e ≡ closed (opened_of (reverse ls) es fs) f
unfolding closed
closed_some ls es fs e f empty same = ap Some same ∙ sym (ap (λ ls. closed (opened_of (reverse ls) es fs) f) empty)

-- what is open is held, or is a brace of which no field is read
pub depth_is : (st : Stage) (r : Reader) → depth (state_at st r) ≡ length r.around + braces_of st
unfolding depth
depth_is stage.Wants r = let held = around_length r.around (before_level r.level r.types) r.fields in omega (arith, held)
depth_is stage.HasType r = let held = around_length r.around (before_level r.level r.types) r.fields in omega (arith, held)
depth_is stage.HasApplied r = let held = around_length r.around (before_level r.level r.types) r.fields in omega (arith, held)
depth_is stage.AfterBrace r = let held = around_length r.around (before_level r.level r.types) r.fields in omega (arith, held)
depth_is (stage.WantsLabel n) r = let held = around_length r.around (before_level r.level r.types) (before_last n r.fields) in omega (arith, held)
depth_is (stage.WantsColon n i) r = let held = around_length r.around (before_level r.level r.types) (before_last n r.fields) in omega (arith, held)
depth_is stage.WantsTycon r = let held = around_length r.around (before_level r.level r.types) r.fields in omega (arith, held)

-- the levels inside a parenthesis
pub inside_is : (r : Result Unit NoMemory) (ls : List Opening) (l : LevelSize) (es : List TyExp) (fs : List FieldExp) (st : State)
    → OnOk r (st ≡ Want (stack (opened_of (opening.Parens l 0 ∷ reverse ls) es fs) fresh)) → OnOk r (st ≡ Want (inside (levels_of ls l es fs)))
unfolding inside
inside_is (Ok x) ls l es fs st st_is =
    let before = before_last-none es in
    st_is ∙ (λ i. Want (stack (Parens (level_of l (before i)) (last_of-none es i) ∷ opened_of (reverse ls) (before_level l (before i)) fs) fresh))
inside_is (Err e) ls l es fs st st_is = tt
