-- The machine of types reads their grammar.
use Rattle.std.proofs.Common.{◌≡◌, ℕ, ◌+◌, List, [], ◌∷◌, Some, None, refl, ap, sym, ◌∙◌, append-nil, length, arith}
use Rattle.std.specs.Prelude.{IfSome, IsTrue, option_and_then}
use Rattle.std.specs.List.{enumerate_from}
use Rattle.sig_base.specs.declared.word.Word.TheVariants as w
use Rattle.ty_parser.specs.declared.sort.Sort.{Sort}
use Rattle.ty_parser.specs.declared.sort.Sort.TheVariants as s
use Rattle.ty_parser.specs.declared.tree.TyExp.{TyExp}
use Rattle.ty_parser.specs.machine.Operands as operand
use Rattle.ty_parser.specs.declared.tree.FieldExp.{FieldExp}
use Rattle.ty_parser.specs.Sorts.{is_label, is_long_tycon}
use Rattle.ty_parser.specs.Grammar.{Numbered, Ty}
use Rattle.ty_parser.specs.Phrases.{PhraseFrom, opens, closes}
use Rattle.ty_parser.specs.machine.Machine.{Parens, Braces, Opened, Stack, State, Want, Have, Brace, Label, Colon, Tycon, start, tree_of, with_constructor, with_part, with_side, inside, inside_field, whole, comma, enclosed, right_paren, right_brace, begin, want, leave, have, no_fields, brace, label, colon, tycon, step, run, finish, depth}
use Rattle.ty_parser.proofs.Complete.{steps-run, type_read}
use Rattle.ty_parser.proofs.Sound.{parse_sound, if_some-or}
use Rattle.ty_parser.proofs.Closing.{completes}
use Rattle.ty_parser.proofs.Viable.{Reading}

pub parse_complete : {ts : List Numbered} {e : TyExp} → Ty ts [] e → option_and_then finish (run step start ts) ≡ Some e
parse_complete d = let h = type_read d in ap (option_and_then finish) (steps-run h.1) ∙ h.2

-- what a token does to how many are open
abbrev pub Deepens : Sort → ℕ → State → Type 0
Deepens so old st = opens so + old ≡ closes so + depth st

-- a label opens and closes nothing, nor does a constructor
label_depth : (so : Sort) (n : ℕ) → IsTrue (is_label so) → opens so + n ≡ closes so + n
label_depth (s.Reserved word) n named = cc
label_depth s.Variable n named = cc
label_depth _ n named = refl

tycon_depth : (so : Sort) (n : ℕ) → IsTrue (is_long_tycon so) → opens so + n ≡ closes so + n
tycon_depth (s.Reserved word) n named = cc
tycon_depth _ n named = refl

begin_depth : (k : Stack) (i : ℕ) (so : Sort) → IfSome (begin k i so) (Deepens so (length k.outer))
unfolding begin inside depth
begin_depth k i s.Variable = refl
begin_depth k i (s.Reserved w.KwLParen) = omega arith
begin_depth k i (s.Reserved w.KwLBrace) = omega arith
begin_depth k i _ = tt

comma_depth : (ls : List Opened) (e : TyExp) → IfSome (comma ls e) (Deepens (s.Reserved w.KwComma) (length ls))
unfolding comma depth
comma_depth [] e = tt
comma_depth (Parens l es ∷ ls) e = omega arith
comma_depth (Braces l fs i ∷ ls) e = omega arith

right_paren_depth : (ls : List Opened) (e : TyExp) → IfSome (right_paren ls e) (Deepens (s.Reserved w.KwRParen) (length ls))
unfolding right_paren enclosed depth
right_paren_depth [] e = tt
right_paren_depth (Parens l [] ∷ ls) e = omega arith
right_paren_depth (Parens l (x ∷ es) ∷ ls) e = omega arith
right_paren_depth (Braces l fs i ∷ ls) e = tt

right_brace_depth : (ls : List Opened) (e : TyExp) → IfSome (right_brace ls e) (Deepens (s.Reserved w.KwRBrace) (length ls))
unfolding right_brace depth
right_brace_depth [] e = tt
right_brace_depth (Parens l es ∷ ls) e = tt
right_brace_depth (Braces l fs i ∷ ls) e = omega arith

leave_depth : (k : Stack) (e : TyExp) (so : Sort) → IfSome (leave k e so) (Deepens so (length k.outer))
unfolding leave with_part with_side depth
leave_depth k e s.Star = refl
leave_depth k e (s.Reserved w.KwArrow) = refl
leave_depth k e (s.Reserved w.KwComma) = comma_depth k.outer (whole k.level e)
leave_depth k e (s.Reserved w.KwRParen) = right_paren_depth k.outer (whole k.level e)
leave_depth k e (s.Reserved w.KwRBrace) = right_brace_depth k.outer (whole k.level e)
leave_depth k e _ = tt

no_fields_depth : (k : Stack) (so : Sort) → IfSome (no_fields k so) (Deepens so (length k.outer + 1))
unfolding no_fields depth
no_fields_depth k (s.Reserved w.KwRBrace) = omega arith
no_fields_depth k _ = tt

colon_depth : (k : Stack) (fs : List FieldExp) (i : ℕ) (so : Sort) → IfSome (colon k fs i so) (Deepens so (length k.outer + 1))
unfolding colon inside_field depth
colon_depth k fs i (s.Reserved w.KwColon) = omega arith
colon_depth k fs i _ = tt

pub step_depth : (st : State) (i : ℕ) (so : Sort) → IfSome (step st (i, so)) (λ st'. opens so + depth st ≡ closes so + depth st')
unfolding want have brace label tycon depth
step_depth (Want k) i so = if_some-or (Deepens so (length k.outer)) (is_long_tycon so) (Have k (operand.Applied [] (i ∷ []))) (begin k i so) (tycon_depth so (length k.outer)) (begin_depth k i so)
step_depth (Have k a) i so = if_some-or (Deepens so (length k.outer)) (is_long_tycon so) (Have k (with_constructor a i)) (leave k (tree_of a) so) (tycon_depth so (length k.outer)) (leave_depth k (tree_of a) so)
step_depth (Brace k) i so = if_some-or (Deepens so (length k.outer + 1)) (is_label so) (Colon k [] i) (no_fields k so) (label_depth so (length k.outer + 1)) (no_fields_depth k so)
step_depth (Label k fs) i so = if_some-or (Deepens so (length k.outer + 1)) (is_label so) (Colon k fs i) None (label_depth so (length k.outer + 1)) tt
step_depth (Colon k fs j) i so = colon_depth k fs j so
step_depth (Tycon k es) i so = if_some-or (Deepens so (length k.outer)) (is_long_tycon so) (Have k (operand.Applied es (i ∷ []))) None (tycon_depth so (length k.outer)) tt

pub start_depth : depth start ≡ 0
unfolding depth
start_depth = refl

abbrev pub types : ℕ → Reading
types first = record {
  State = State;
  Tree = TyExp;
  first = first;
  phrase = PhraseFrom first;
  step = step;
  start = start;
  finish = finish;
  depth = depth;
  complete = λ ss e d. parse_complete d;
  sound = λ ss. parse_sound (enumerate_from first ss);
  completes = λ n st.
      let h = completes n st in
      let to_end = ap (run step st) (sym (append-nil (enumerate_from n h.more))) ∙ steps-run (h.steps []) in
      (h.more, h.tree, ap (option_and_then finish) to_end ∙ h.finished);
  start_depth = start_depth;
  step_depth = step_depth;
}
