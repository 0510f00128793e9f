-- Reading a file: the invariant of the loop, and what each way on or out gives.
use Rattle.std.proofs.Common.{◌≡◌, ℕ, ◌+◌, ◌<◌, ◌≤◌, Bool, true, false, List, length, get_or, Option, Some, None, Result, Ok, Err, refl, ap, sym, ◌∙◌, subst, arith}
use Rattle.std.specs.Prelude.{◌⊎◌, IfOk, IfErr}
use Rattle.std.proofs.lemmas.List.{get_or-map, length-map}
use Rattle.sml_lexer.specs.declared.token.Token.{Token}
use Rattle.ty_parser.specs.declared.sort.Sort.{Sort}
use Rattle.ty_parser.specs.declared.sort.Sort.TheVariants as s
use Rattle.ty_parser.specs.declared.tree.ParseRefusal.{ParseRefusal}
use Rattle.ty_parser.specs.declared.tree.ParseRefusal.TheVariants as refusal
use Rattle.ty_parser.specs.Sorts.{sort_of, sorts_of}
use Rattle.ty_parser.specs.Phrases.{StopsAt, TooDeepAt, IsShallow, Refuses, Tells, most_open, opens, closes}
use Rattle.ty_parser.proofs.Runs.{of_some}
use Rattle.ty_parser.proofs.Outcomes as outcomes
use Rattle.ty_parser.proofs.Outcomes.{Gives, gives_tokens, shallow_sorts}
use Rattle.ty_parser.proofs.Viable.{ReadTo, opens_one, start_read, step_read, step_deep, step_stops, end_stops, end_found, one_tree}
use Rattle.sig_parser.specs.declared.tree.SourceFile.{SourceFile}
use Rattle.sig_parser.specs.Files.{File}
use Rattle.ty_parser.specs.machine.Machine.{taken}
use Rattle.sig_parser.specs.machine.Machine as machine
use Rattle.sig_parser.specs.machine.Machine.{State, start, step, finish, depth}
use Rattle.sig_parser.proofs.Depth.{step_depth}
use Rattle.sig_parser.proofs.Files.{files}

-- the first so many tokens, none of them too deep, have led to the state
pub record FileRead (bytes : List ℕ) (ts : List Token) (i : ℕ) (st : State) : Type 0 where
  pub read : ReadTo files 0 (sorts_of bytes ts) i st

pub start_file : (bytes : List ℕ) (ts : List Token) (st : State) → st ≡ start → FileRead bytes ts 0 st
start_file bytes ts st e = record { read = start_read files 0 (sorts_of bytes ts) st (omega arith) e }

-- the token at the place
module _ (bytes : List ℕ) (ts : List Token) (i : ℕ) (st : State) (d : Token) (so : Sort) (to : FileRead bytes ts i st) (lt : i < length ts) (is : so ≡ sort_of bytes (get_or ts i d)) where
  there : i < length (sorts_of bytes ts)
  there = omega (arith, lt, length-map ts (sort_of bytes))

  sort_there : so ≡ get_or (sorts_of bytes ts) i s.Variable
  sort_there = is ∙ sym (get_or-map (sort_of bytes) ts i d s.Variable lt)

  here : (o : Option State) → step st (i, so) ≡ o → step st (0 + i, so) ≡ o
  here o e =
      let same : 0 + i ≡ i = omega arith in
      ap (λ n. step st (n, so)) same ∙ e

  module _ (st' : State) (e : Some st' ≡ step st (i, so)) where
    pub file_low : depth st' ≤ most_open + 1
    file_low =
        let few = opens_one so in
        let deepens = of_some (λ x. opens so + depth st ≡ closes so + depth x) _ st' (sym e) (step_depth st i so) in
        let low = to.read.low in
        omega (arith, few, deepens, low)

    pub file_read : depth st' ≤ most_open → FileRead bytes ts (i + 1) st'
    file_read low = record { read = step_read files 0 _ i so st there sort_there to.read st' (here (Some st') (sym e)) (omega (arith, low)) }

    pub file_deep : most_open < depth st' → TooDeepAt File 0 (sorts_of bytes ts) i × IsShallow File 0 (sorts_of bytes ts) i
    file_deep high = step_deep files 0 _ i so st there sort_there to.read st' (here (Some st') (sym e)) (omega (arith, high))

  pub file_stops : step st (i, so) ≡ None → StopsAt File (sorts_of bytes ts) i × IsShallow File 0 (sorts_of bytes ts) i
  file_stops e = step_stops files 0 _ i so st there sort_there to.read (here None e)

-- the end of the tokens
module _ (bytes : List ℕ) (ts : List Token) (i : ℕ) (st : State) (to : FileRead bytes ts i st) (e : i ≡ length ts) where
  all : i ≡ length (sorts_of bytes ts)
  all = omega (arith, e, length-map ts (sort_of bytes))

  pub file_ends : finish st ≡ None → StopsAt File (sorts_of bytes ts) i × IsShallow File 0 (sorts_of bytes ts) i
  file_ends none = end_stops files 0 (sorts_of bytes ts) i st to.read all none

  pub file_found : (f : SourceFile) → finish st ≡ Some f → File (sorts_of bytes ts) f × IsShallow File 0 (sorts_of bytes ts) (length ts)
  file_found f found =
      let h = end_found files 0 (sorts_of bytes ts) i st to.read all f found in
      (h.0, subst (IsShallow File 0 (sorts_of bytes ts)) (length-map ts (sort_of bytes)) h.1)

-- a token leads to no more than one open token more
pub step_low : (st : State) (i : ℕ) (so : Sort) (st' : State) → depth st ≤ most_open → Some st' ≡ step st (i, so) → depth st' ≤ most_open + 1
step_low st i so st' low e =
    let few = opens_one so in
    let deepens = of_some (λ x. opens so + depth st ≡ closes so + depth x) _ st' (sym e) (step_depth st i so) in
    omega (arith, few, deepens, low)

-- the token is refused where it cannot stand there, and where it is too deep
module _ (st : State) (i : ℕ) (so : Sort) (st' : State) (can : Bool) (e : taken can st' ≡ step st (i, so)) where
  pub step_none : can ≡ false → step st (i, so) ≡ None
  step_none h = sym e ∙ ap (λ can. taken can st') h

  pub step_some : can ≡ true → Some st' ≡ step st (i, so)
  step_some h = sym (ap (λ can. taken can st') h) ∙ e

  pub step_too_deep : can ≡ true → most_open < depth st' → machine.Tells st i so (refusal.TooDeep i)
  step_too_deep h high = (refl, st', sym (step_some h), high)

pub read_low : (bytes : List ℕ) (ts : List Token) (i : ℕ) (st : State) → FileRead bytes ts i st → depth st ≤ most_open
read_low bytes ts i st to = let low = to.read.low in omega (arith, low)

-- what one step gives
module _ (bytes : List ℕ) (ts : List Token) (i : ℕ) (st : State) (d : Token) (so : Sort) (to : FileRead bytes ts i st) (lt : i < length ts) (is : so ≡ sort_of bytes (get_or ts i d)) where
  refused_by : (e : ParseRefusal) → machine.Tells st i so e → Tells File (sorts_of bytes ts) e
  refused_by (refusal.Syntax k) h =
      let P : ℕ → Type 0 = λ k. StopsAt File (sorts_of bytes ts) k × IsShallow File 0 (sorts_of bytes ts) k in
      subst P (sym h.0) (file_stops bytes ts i st d so to lt is h.1)
  refused_by (refusal.TooDeep k) h =
      let P : ℕ → Type 0 = λ k. TooDeepAt File 0 (sorts_of bytes ts) k × IsShallow File 0 (sorts_of bytes ts) k in
      subst P (sym h.0) (file_deep bytes ts i st d so to lt is h.1 (sym h.2) h.3)
  refused_by refusal.NoMemory h = tt

  pub file_refused : (r : Result SourceFile ParseRefusal) (e f : ParseRefusal) → machine.Tells st i so e → r ≡ Err f → f ≡ e → IfErr r (λ e. Tells File (sorts_of bytes ts) e)
  file_refused r e f h refused same =
      let P : Result SourceFile ParseRefusal → Type 0 = λ r. IfErr r (λ e. Tells File (sorts_of bytes ts) e) in
      subst P (sym (refused ∙ ap Err same)) (refused_by e h)

  pub file_next : (st' : State) → step st (i, so) ≡ Some st' → depth st' ≤ most_open → FileRead bytes ts (i + 1) st'
  file_next st' h low = file_read bytes ts i st d so to lt is st' (sym h) low

-- what the end gives
module _ (bytes : List ℕ) (ts : List Token) (i : ℕ) (st : State) (to : FileRead bytes ts i st) (e : i ≡ length ts) where
  end_refused_by : (r : ParseRefusal) → machine.TellsEnd st i r → Tells File (sorts_of bytes ts) r
  end_refused_by (refusal.Syntax k) h =
      let P : ℕ → Type 0 = λ k. StopsAt File (sorts_of bytes ts) k × IsShallow File 0 (sorts_of bytes ts) k in
      subst P (sym h.0) (file_ends bytes ts i st to e h.1)
  end_refused_by (refusal.TooDeep k) h = absurd h
  end_refused_by refusal.NoMemory h = tt

  pub end_tree : (r : Result SourceFile ParseRefusal) → IfOk r (λ f. finish st ≡ Some f) → IfOk r (λ f. File (sorts_of bytes ts) f)
  end_tree (Ok f) h = (file_found bytes ts i st to e f h).0
  end_tree (Err r) h = tt

  pub end_shallow : (r : Result SourceFile ParseRefusal) → IfOk r (λ f. finish st ≡ Some f) → IfOk r (λ _. IsShallow File 0 (sorts_of bytes ts) (length ts))
  end_shallow (Ok f) h = (file_found bytes ts i st to e f h).1
  end_shallow (Err r) h = tt

  pub end_refused : (r : Result SourceFile ParseRefusal) → IfErr r (λ r. machine.TellsEnd st i r) → IfErr r (λ r. Tells File (sorts_of bytes ts) r)
  end_refused (Ok f) h = tt
  end_refused (Err r) h = end_refused_by r h

-- what reading gives is the one thing that it can give
module _ (bytes : List ℕ) (ts : List Token) (r : Result SourceFile ParseRefusal)
    (tree : IfOk r (λ f. File (sorts_of bytes ts) f)) (shallow : IfOk r (λ _. IsShallow File 0 (sorts_of bytes ts) (length ts)))
    (refused : IfErr r (λ e. Tells File (sorts_of bytes ts) e)) where
  gives : Gives File (λ f. f) (sorts_of bytes ts) r
  gives = gives_tokens File (λ f. f) bytes ts r tree shallow refused

  pub only_tree : (f : SourceFile) → File (sorts_of bytes ts) f → IsShallow File 0 (sorts_of bytes ts) (length ts)
      → (r ≡ Ok f) ⊎ (r ≡ Err refusal.NoMemory)
  only_tree f d low =
      outcomes.only_tree File (λ f. f) (sorts_of bytes ts) (one_tree files (sorts_of bytes ts)) (λ f. f) r (itself r) gives f d (shallow_sorts File bytes ts low)
    where
      itself : (r : Result SourceFile ParseRefusal) → IfOk r (λ f. f ≡ f)
      itself (Ok f) = refl
      itself (Err e) = tt

  pub only_refusal : (due : ParseRefusal) → Refuses File (sorts_of bytes ts) due → (r ≡ Err due) ⊎ (r ≡ Err refusal.NoMemory)
  only_refusal = outcomes.only_refusal File (λ f. f) (sorts_of bytes ts) r gives
