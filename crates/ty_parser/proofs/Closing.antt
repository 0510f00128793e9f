-- Each state can go on to the end of a type.
use Rattle.std.proofs.Common.{◌≡◌, ℕ, ◌+◌, List, [], ◌∷◌, ◌++◌, Some, refl}
use Rattle.std.specs.List.{enumerate_from}
use Rattle.sig_base.specs.declared.word.Word.TheVariants as w
use Rattle.ty_parser.specs.declared.sort.Sort.{Sort}
use Rattle.ty_parser.specs.declared.sort.Sort.TheVariants as s
use Rattle.ty_parser.specs.declared.tree.TyExp.{TyExp}
use Rattle.ty_parser.specs.declared.tree.TyExp.TheVariants as ty
use Rattle.ty_parser.specs.machine.Operands.{Operand}
use Rattle.ty_parser.specs.machine.Operands as operand
use Rattle.ty_parser.specs.declared.tree.FieldExp.{FieldExp}
use Rattle.ty_parser.specs.Grammar.{Numbered, field}
use Rattle.ty_parser.specs.machine.Machine.{Parens, Braces, Level, Opened, Stack, State, Want, Have, Brace, Label, Colon, Tycon, stack, tree_of, inside_field, whole, enclosed, right_paren, right_brace, want, leave, have, no_fields, brace, label, colon, tycon, step, closed, finish}
use Rattle.ty_parser.proofs.Complete.{Steps, here, next}

-- further sorts, numbered from n, with which the state comes to the end of a type, whatever follows
pub record Completes (n : ℕ) (st : State) : Type 0 where
  pub more : List Sort
  pub last : State
  pub tree : TyExp
  pub steps : (r : List Numbered) → Steps st (enumerate_from n more ++ r) last r
  pub finished : finish last ≡ Some tree

-- one more sort leads to a state that can go on
goes_on : (n : ℕ) (st st' : State) (so : Sort) → step st (n, so) ≡ Some st' → Completes (n + 1) st' → Completes n st
goes_on n st st' so e h = record { more = so ∷ h.more; last = h.last; tree = h.tree; steps = λ r. next e (h.steps r); finished = h.finished }

mutual
  unfolding enclosed right_paren right_brace leave have closed tycon

  have_completes : (n : ℕ) (ls : List Opened) (l : Level) (a : Operand) → Completes n (Have (stack ls l) a)
  have_completes n [] l a = record { more = []; last = _; tree = _; steps = λ r. here; finished = refl }
  have_completes n (Parens o [] ∷ ls) l a = goes_on n _ _ (s.Reserved w.KwRParen) refl (have_completes (n + 1) ls o (operand.Alone (whole l (tree_of a))))
  have_completes n (Parens o (e ∷ es) ∷ ls) l a =
      goes_on n _ _ (s.Reserved w.KwRParen) refl (goes_on (n + 1) _ _ s.Alphanumeric refl (have_completes (n + 1 + 1) ls o (operand.Applied ((e ∷ es) ++ whole l (tree_of a) ∷ []) ((n + 1) ∷ []))))
  have_completes n (Braces o fs i ∷ ls) l a = goes_on n _ _ (s.Reserved w.KwRBrace) refl (have_completes (n + 1) ls o (operand.Alone (ty.Fields (fs ++ field i (whole l (tree_of a)) ∷ []))))

want_completes : (n : ℕ) (k : Stack) → Completes n (Want k)
unfolding want
want_completes n k = goes_on n _ _ s.Alphanumeric refl (have_completes (n + 1) k.outer k.level (operand.Applied [] (n ∷ [])))

colon_completes : (n : ℕ) (k : Stack) (fs : List FieldExp) (i : ℕ) → Completes n (Colon k fs i)
unfolding colon
colon_completes n k fs i = goes_on n _ _ (s.Reserved w.KwColon) refl (want_completes (n + 1) (inside_field k fs i))

-- each state can go on to the end of a type
pub completes : (n : ℕ) (st : State) → Completes n st
unfolding brace no_fields label tycon
completes n (Want k) = want_completes n k
completes n (Have k a) = have_completes n k.outer k.level a
completes n (Brace k) = goes_on n _ _ (s.Reserved w.KwRBrace) refl (have_completes (n + 1) k.outer k.level (operand.Alone (ty.Fields [])))
completes n (Label k fs) = goes_on n _ _ s.Alphanumeric refl (colon_completes (n + 1) k fs n)
completes n (Colon k fs i) = colon_completes n k fs i
completes n (Tycon k es) = goes_on n _ _ s.Alphanumeric refl (have_completes (n + 1) k.outer k.level (operand.Applied es (n ∷ [])))
