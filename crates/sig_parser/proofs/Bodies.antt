-- The bodies and the bindings that a reading holds, where one more is begun, ended or added to.
use Rattle.std.proofs.Common.{◌≡◌, ℕ, List, [], ◌∷◌, ◌++◌, Bool, None, Result, Ok, Err, reverse, refl, ap, sym, ◌∙◌}
use Rattle.std.specs.Prelude.{IfOk}
use Rattle.sig_base.specs.declared.no_memory.NoMemory.{NoMemory}
use Rattle.std.proofs.lemmas.List.{reverse-append, reverse-reverse}
use Rattle.ty_parser.specs.declared.sort.Sort.{Sort}
use Rattle.ty_parser.specs.declared.sort.Sort.TheVariants as s
use Rattle.sig_base.specs.declared.word.Word.TheVariants as w
use Rattle.ty_parser.specs.machine.Machine.{taken}
use Rattle.sig_base.specs.Stacks.{last_of, before_last}
use Rattle.sig_parser.specs.declared.tree.TopDec.{TopDec}
use Rattle.sig_parser.specs.declared.tree.Bind.{Bind}
use Rattle.sig_parser.specs.declared.tree.Spec.{Spec}
use Rattle.sig_parser.specs.declared.point.Level as held
use Rattle.sig_parser.specs.machine.Goals.{Level}
use Rattle.sig_parser.specs.machine.Machine.{State, level, with_spec, item, spec_item, top_item}
use Rattle.sig_parser.specs.machine.Views.{levels_of, goal_of, before_goal}

-- the innermost body, the last of those that are held
module _ (ls rest : List held.Level) (last l : held.Level) (popped : ls ≡ rest ++ last ∷ []) (is : last ≡ l) (xs : List Spec) (bs : List Bind) where
  pub last_body : levels_of (reverse ls) xs bs ≡ levels_of (l ∷ reverse rest) xs bs
  last_body = ap (λ ls. levels_of ls xs bs) (ap reverse popped ∙ reverse-append rest (last ∷ []) ∙ ap (λ l. l ∷ reverse rest) is)

  -- one specification more
  pub with_spec_is : (ls' : List held.Level) (xs' : List Spec) (x : Spec) (n : ℕ) → last_of n xs' ≡ last_of l.specs xs ++ x ∷ [] → before_last n xs' ≡ before_last l.specs xs
      → ls' ≡ rest ++ record { goal = l.goal; first = l.first; specs = n } ∷ []
      → levels_of (reverse ls') xs' bs ≡ with_spec (levels_of (reverse ls) xs bs) x
  unfolding with_spec
  with_spec_is ls' xs' x n more before back =
      let outer = ap reverse back ∙ reverse-append rest (record { goal = l.goal; first = l.first; specs = n } ∷ []) in
      (λ i. levels_of (outer i) xs' bs)
      ∙ (λ i. level (goal_of l.goal bs) l.first (more i) ∷ levels_of (reverse rest) (before i) (before_goal l.goal bs))
      ∙ sym (ap (λ ls. with_spec ls x) last_body)

-- no body is open
pub no_body : (ls : List held.Level) (xs : List Spec) (bs : List Bind) → ls ≡ [] → levels_of (reverse ls) xs bs ≡ []
no_body ls xs bs empty = ap (λ ls. levels_of (reverse ls) xs bs) empty

pub with_spec_none : (ls ls' : List held.Level) (xs : List Spec) (bs : List Bind) (x : Spec) → ls ≡ [] → ls' ≡ [] → levels_of (reverse ls') xs bs ≡ with_spec (levels_of (reverse ls) xs bs) x
unfolding with_spec
with_spec_none ls ls' xs bs x empty still = no_body ls' xs bs still ∙ sym (ap (λ ls. with_spec ls x) (no_body ls xs bs empty))

-- no body ends
pub none_ended : (ls : List held.Level) (xs : List Spec) (bs : List Bind) (decs : List TopDec) → ls ≡ [] → None ≡ item decs (levels_of (reverse ls) xs bs) (s.Reserved w.KwEnd)
unfolding top_item
none_ended ls xs bs decs empty = sym (ap (λ ls. item decs ls (s.Reserved w.KwEnd)) (no_body ls xs bs empty))

-- inside of a body
pub inner_is : (ls : List held.Level) (xs : List Spec) (bs : List Bind) (decs : List TopDec) (so : Sort) (r : Result Bool NoMemory) (st : State) → (ls ≡ [] → ⊥)
    → IfOk r (λ can. (l : Level) (ks : List Level) → levels_of (reverse ls) xs bs ≡ l ∷ ks → taken can st ≡ spec_item decs l ks so)
    → IfOk r (λ can. taken can st ≡ item decs (levels_of (reverse ls) xs bs) so)
inner_is ls xs bs decs so (Err e) st some h = tt
inner_is ls xs bs decs so (Ok can) st some h = by_levels (reverse ls) (λ none. some (sym (reverse-reverse ls) ∙ ap reverse none)) h
  where
    by_levels : (ms : List held.Level) → (ms ≡ [] → ⊥) → ((l : Level) (ks : List Level) → levels_of ms xs bs ≡ l ∷ ks → taken can st ≡ spec_item decs l ks so) → taken can st ≡ item decs (levels_of ms xs bs) so
    by_levels [] some h = absurd (some refl)
    by_levels (l ∷ ms) some h = h _ _ refl
