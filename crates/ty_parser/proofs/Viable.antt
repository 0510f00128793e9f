-- A machine that reads the phrases of a grammar goes on exactly as far as a phrase begins, and knows how deep it is.
use Rattle.std.proofs.Common.{◌≡◌, ℕ, ◌+◌, ◌<◌, ◌≤◌, List, [], ◌∷◌, ◌++◌, length, get_or, take, drop, Option, Some, None, refl, ap, sym, ◌∙◌, subst, arith, below_more}
use Rattle.std.specs.Prelude.{IfSome, option_and_then, slice_get, sum_by}
use Rattle.std.specs.List.{enumerate_from}
use Rattle.std.proofs.lemmas.List.{take_more, length-take-le, take-append-drop}
use Rattle.std.proofs.lemmas.List.Sums.{sum_by-append}
use Rattle.std.proofs.lemmas.Option.{slice_get-get_or}
use Rattle.std.proofs.Math.Seq.{take-length}
use Rattle.sig_base.specs.declared.word.Word.TheVariants as w
use Rattle.ty_parser.specs.declared.sort.Sort.{Sort}
use Rattle.ty_parser.specs.declared.sort.Sort.TheVariants as s
use Rattle.ty_parser.specs.Grammar.{Numbered}
use Rattle.ty_parser.specs.Phrases.{Begins, Reaches, StopsAt, most_open, opens, closes, TooDeepAt, IsShallow}
use Rattle.ty_parser.specs.machine.Machine.{run}
use Rattle.ty_parser.proofs.Runs.{of_some, if_some-and_then, if_some-map, run-append, enumerate_from-append}

-- a machine that reads exactly the phrases whose first token has a number, each state of which can go on to the end of one, and which counts what is open
pub record Reading : Type 1 where
  pub State : Type 0
  pub Tree : Type 0
  pub first : ℕ
  pub phrase : List Sort → Tree → Type 0
  pub step : State → Numbered → Option State
  pub start : State
  pub finish : State → Option Tree
  pub depth : State → ℕ
  pub complete : (ss : List Sort) (e : Tree) → phrase ss e → option_and_then finish (run step start (enumerate_from first ss)) ≡ Some e
  pub sound : (ss : List Sort) → IfSome (option_and_then finish (run step start (enumerate_from first ss))) (phrase ss)
  pub completes : (n : ℕ) (st : State) → (more : List Sort) × (e : Tree) × (option_and_then finish (run step st (enumerate_from n more)) ≡ Some e)
  pub start_depth : depth start ≡ 0
  pub step_depth : (st : State) (i : ℕ) (so : Sort) → IfSome (step st (i, so)) (λ st'. opens so + depth st ≡ closes so + depth st')

module _ (m : Reading) where
  -- the state after these sorts
  abbrev pub reads : List Sort → Option m.State
  reads ss = run m.step m.start (enumerate_from m.first ss)

  -- one list of sorts has at most one tree
  pub one_tree : (ss : List Sort) (e f : m.Tree) → m.phrase ss e → m.phrase ss f → e ≡ f
  one_tree ss e f d g = let a = m.complete ss e d in let b = m.complete ss f g in cc

  pub reads-append : (ss more : List Sort) → reads (ss ++ more) ≡ option_and_then (λ st. run m.step st (enumerate_from (m.first + length ss) more)) (reads ss)
  reads-append ss more = ap (run m.step m.start) (enumerate_from-append m.first ss more) ∙ run-append m.step m.start (enumerate_from m.first ss) (enumerate_from (m.first + length ss) more)

  pub begins : (ss : List Sort) (st : m.State) → reads ss ≡ Some st → Begins m.phrase ss
  begins ss st e =
      let h = m.completes (m.first + length ss) st in
      let all : option_and_then m.finish (reads (ss ++ h.0)) ≡ Some h.1 =
      ap (option_and_then m.finish) (reads-append ss h.0 ∙ ap (option_and_then (λ st'. run m.step st' (enumerate_from (m.first + length ss) h.0))) e) ∙ h.2 in
      (h.0, h.1, of_some (m.phrase (ss ++ h.0)) _ h.1 all (m.sound (ss ++ h.0)))

  pub not_begins : (ss : List Sort) → reads ss ≡ None → Begins m.phrase ss → ⊥
  not_begins ss e (more, f, d) =
      let none : option_and_then m.finish (reads (ss ++ more)) ≡ None =
      ap (option_and_then m.finish) (reads-append ss more ∙ ap (option_and_then (λ st'. run m.step st' (enumerate_from (m.first + length ss) more))) e) in
      let some = m.complete (ss ++ more) f d in
      cc

  -- what is open was opened and not closed
  run_depth : (n : ℕ) (ss : List Sort) (st : m.State) → IfSome (run m.step st (enumerate_from n ss)) (λ st'. sum_by opens ss + m.depth st ≡ sum_by closes ss + m.depth st')
  run_depth n [] st = refl
  run_depth n (so ∷ ss) st =
      if_some-and_then (λ st'. run m.step st' (enumerate_from (n + 1) ss)) (m.step st (n, so)) (λ st'. opens so + m.depth st ≡ closes so + m.depth st') _ (m.step_depth st n so) (λ st' one.
      if_some-map _ _ (run m.step st' (enumerate_from (n + 1) ss)) (λ st'' rest.
      let l = sum_by-append opens (so ∷ []) ss in
      let r = sum_by-append closes (so ∷ []) ss in
      omega (arith, one, rest, l, r)) (run_depth (n + 1) ss st'))

  read_depth : (ss : List Sort) (st : m.State) → reads ss ≡ Some st → sum_by opens ss ≡ sum_by closes ss + m.depth st
  read_depth ss st e =
      let counted = of_some (λ st'. sum_by opens ss + m.depth m.start ≡ sum_by closes ss + m.depth st') _ st e (run_depth m.first ss m.start) in
      omega (arith, counted, m.start_depth)

  -- a phrase begins with each front of it
  pub phrase_begins : (ss : List Sort) (k : ℕ) (f : m.Tree) → m.phrase ss f → Begins m.phrase (take k ss)
  phrase_begins ss k f d = (drop k ss, f, subst (λ (xs : List Sort). m.phrase xs f) (sym (take-append-drop k ss)) d)

-- the first so many sorts, none of them too deep, have led to the state, where so many tokens are open before all of them
pub record ReadTo (m : Reading) (outside : ℕ) (ss : List Sort) (i : ℕ) (st : m.State) : Type 0 where
  pub reads_is : reads m (take i ss) ≡ Some st
  pub counts : sum_by opens (take i ss) ≡ sum_by closes (take i ss) + m.depth st
  pub low : outside + m.depth st ≤ most_open
  pub shallow : IsShallow m.phrase outside ss i

pub start_read : (m : Reading) (outside : ℕ) (ss : List Sort) (st : m.State) → outside ≤ most_open → st ≡ m.start → ReadTo m outside ss 0 st
start_read m outside ss st le e =
    let none : m.depth st ≡ 0 = ap m.depth e ∙ m.start_depth in
    record { reads_is = ap Some (sym e); counts = omega (arith, none); low = omega (arith, none, le); shallow = λ k lt. absurd (omega (arith, lt)) }

pub opens_one : (so : Sort) → opens so ≤ 1
opens_one (s.Reserved w.KwLParen) = omega arith
opens_one (s.Reserved w.KwLBrace) = omega arith
opens_one (s.Reserved w.KwSig) = omega arith
opens_one _ = omega arith

-- what opens does not close
opening_only : (so : Sort) → opens so ≡ 1 → closes so ≡ 0
opening_only (s.Reserved w.KwLParen) e = refl
opening_only (s.Reserved w.KwLBrace) e = refl
opening_only (s.Reserved w.KwSig) e = refl
opening_only _ e = absurd (omega (arith, e))

module _ (m : Reading) (outside : ℕ) (ss : List Sort) (i : ℕ) (so : Sort) (st : m.State) (in_range : i < length ss) (is : so ≡ get_or ss i s.Variable) (to : ReadTo m outside ss i st) where
  front_more : take (i + 1) ss ≡ take i ss ++ so ∷ []
  front_more = take_more ss i s.Variable in_range ∙ ap (λ x. take i ss ++ x ∷ []) (sym is)

  there : slice_get ss i ≡ Some so
  there = slice_get-get_or ss i s.Variable in_range ∙ ap Some (sym is)

  pub reads_more : reads m (take (i + 1) ss) ≡ m.step st (m.first + i, so)
  reads_more =
      let len : m.first + length (take i ss) ≡ m.first + i = omega (arith, length-take-le i ss (omega arith)) in
      ap (reads m) front_more ∙ reads-append m (take i ss) (so ∷ [])
      ∙ ap (λ n. option_and_then (λ st'. run m.step st' (enumerate_from n (so ∷ []))) (reads m (take i ss))) len
      ∙ ap (option_and_then (λ st'. run m.step st' (enumerate_from (m.first + i) (so ∷ [])))) to.reads_is
      ∙ last (m.step st (m.first + i, so))
    where
      last : (o : Option m.State) → option_and_then (λ st'. Some st') o ≡ o
      last None = refl
      last (Some st') = refl

  module _ (st' : m.State) (e : m.step st (m.first + i, so) ≡ Some st') where
    deepens : opens so + m.depth st ≡ closes so + m.depth st'
    deepens = of_some (λ x. opens so + m.depth st ≡ closes so + m.depth x) _ st' e (m.step_depth st (m.first + i) so)

    counts_more : sum_by opens (take (i + 1) ss) ≡ sum_by closes (take (i + 1) ss) + m.depth st'
    counts_more =
        let l = ap (sum_by opens) front_more ∙ sum_by-append opens (take i ss) (so ∷ []) in
        let r = ap (sum_by closes) front_more ∙ sum_by-append closes (take i ss) (so ∷ []) in
        omega (arith, l, r, deepens, to.counts)

    -- the token can stand there, and is not too deep
    pub step_read : outside + m.depth st' ≤ most_open → ReadTo m outside ss (i + 1) st'
    step_read low = record {
      reads_is = reads_more ∙ e;
      counts = counts_more;
      low = low;
      shallow = below_more _ _ to.shallow (λ deep.
          let at = there in
          let found = deep.there in
          let same : deep.sort ≡ so = cc in
          let one : opens so ≡ 1 = sym (ap opens same) ∙ deep.opening in
          omega (arith, one, opening_only so one, deepens, deep.open_before, to.counts, low));
    }

    -- the token can stand there, and is too deep
    pub step_deep : most_open < outside + m.depth st' → TooDeepAt m.phrase outside ss i × IsShallow m.phrase outside ss i
    step_deep high =
        let few = opens_one so in
        let one : opens so ≡ 1 = omega (arith, few, deepens, to.low, high) in (
          record {
            sort = so;
            there = there;
            opening = one;
            allowed = begins m _ st' (reads_more ∙ e);
            open_before = omega (arith, one, opening_only so one, deepens, to.counts, to.low, high);
          },
          to.shallow,
        )

  -- the token cannot stand there
  module _ (e : m.step st (m.first + i, so) ≡ None) where
    pub step_reaches : Reaches m.phrase ss i
    step_reaches = record { within = omega arith; front = begins m _ st to.reads_is; next = λ _. not_begins m _ (reads_more ∙ e) }

    pub step_stops : StopsAt m.phrase ss i × IsShallow m.phrase outside ss i
    step_stops = (record { reaches = step_reaches; no_phrase = λ f d. not_begins m _ (reads_more ∙ e) (phrase_begins m ss (i + 1) f d) }, to.shallow)

module _ (m : Reading) (outside : ℕ) (ss : List Sort) (i : ℕ) (st : m.State) (to : ReadTo m outside ss i st) where
  -- what was read may end here, or not
  pub finish_found : (f : m.Tree) → m.finish st ≡ Some f → m.phrase (take i ss) f
  finish_found f e = of_some (m.phrase (take i ss)) _ f (ap (option_and_then m.finish) to.reads_is ∙ e) (m.sound (take i ss))

  pub finish_none : m.finish st ≡ None → (f : m.Tree) → m.phrase (take i ss) f → ⊥
  finish_none e f d =
      let none : option_and_then m.finish (reads m (take i ss)) ≡ None = ap (option_and_then m.finish) to.reads_is ∙ e in
      let some = m.complete (take i ss) f d in
      cc

  module _ (at_end : i ≡ length ss) where
    all : take i ss ≡ ss
    all = ap (λ n. take n ss) at_end ∙ take-length ss

    pub end_reaches : Reaches m.phrase ss i
    end_reaches = record { within = omega (arith, at_end); front = begins m _ st to.reads_is; next = λ lt. absurd (omega (arith, at_end, lt)) }

    pub end_stops : m.finish st ≡ None → StopsAt m.phrase ss i × IsShallow m.phrase outside ss i
    end_stops e = (record { reaches = end_reaches; no_phrase = λ f d. finish_none e f (subst (λ (xs : List Sort). m.phrase xs f) (sym all) d) }, to.shallow)

    pub end_found : (f : m.Tree) → m.finish st ≡ Some f → m.phrase ss f × IsShallow m.phrase outside ss (length ss)
    end_found f e = (subst (λ (xs : List Sort). m.phrase xs f) all (finish_found f e), subst (IsShallow m.phrase outside ss) at_end to.shallow)
