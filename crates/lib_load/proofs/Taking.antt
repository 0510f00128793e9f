-- Files that are read and taken in turn.
use Rattle.std.proofs.Common.{◌≡◌, ℕ, suc, ◌+◌, ◌<◌, ◌≤◌, List, [], ◌∷◌, ◌++◌, length, take, drop, get_or, sym, ap, subst, ◌∙◌, refl, arith, take-append-drop, drop-cons}
use Rattle.std.specs.Prelude.{Option, Some, None, Result, Ok, Err, IsErrAnd}
use Rattle.std.proofs.lemmas.List.{take_all, take_more, length-take-le, length-append}
use Rattle.std.proofs.lemmas.Option.{slice_get-get_or}
use Rattle.std.proofs.lemmas.Result.{err_from_is_err_and}
use Rattle.sig_base.proofs.Counts.{Rose-since}
use Rattle.sig_base.specs.Faults.{NoneFell, Rose}
use Rattle.sig_base.specs.FileMap.{FileMap}
use Rattle.type_core.specs.declared.library.Library.{Library}
use Rattle.elab_rules.specs.Library.{Basis, empty_basis}
use Rattle.lib_load.specs.declared.refusals.LoadRefusal.{LoadRefusal}
use Rattle.lib_load.specs.declared.refusals.LoadRefusal.TheVariants as refusal
use Rattle.lib_load.specs.Given.{AreHeld, FromGiven, GaveThese, Given, Gives, file_limit, held, unread}
use Rattle.lib_load.specs.Given as given
use Rattle.lib_load.specs.Loading.{FailsAt, IfReadFault, IsAnswer, IsDecided, Loads, LoadsTold, TakesFile, TakesFiles, accepted, failed, in_turn, library_of, long, most_files, none, refused, too_many, whole}
use Rattle.lib_load.proofs.Held.{takes_held}

-- as many were read as were accepted
all_read : {before count : ℕ} {basis after : Basis} {givens : List Given} (outcome : Result Basis LoadRefusal) → outcome ≡ Ok after → TakesFiles before basis count outcome givens → length givens ≡ count
all_read outcome is none = omega arith
all_read outcome is (refused x) = absurd cc
all_read outcome is (accepted x rest) = let more = all_read outcome is rest in omega (arith, more)

-- where the first files are accepted, what comes of the others over them comes of all
taken_on : {before count : ℕ} {basis after : Basis} {givens : List Given} (accepts : Result Basis LoadRefusal) (left : ℕ) (outcome : Result Basis LoadRefusal) (more : List Given) → accepts ≡ Ok after
    → TakesFiles before basis count accepts givens → TakesFiles (before + count) after left outcome more → TakesFiles before basis (count + left) outcome (givens ++ more)
taken_on {before = before} {after = after} accepts left outcome more is (none {basis = basis}) rest =
    let same : before + 0 ≡ before = omega arith in
    let all : left ≡ 0 + left = omega arith in
    let there : after ≡ basis = cc in
    subst (λ n. TakesFiles before basis n outcome more) all (subst (λ b. TakesFiles before b left outcome more) there (subst (λ n. TakesFiles n after left outcome more) same rest))
taken_on accepts left outcome more is (refused x) rest = absurd cc
taken_on {before = before} {basis = basis} {after = after} accepts left outcome more is (accepted {left = count} {given = given} {givens = givens} x others) rest =
    let next : before + suc count ≡ before + 1 + count = omega arith in
    let all : suc (count + left) ≡ suc count + left = omega arith in
    subst (λ n. TakesFiles before basis n outcome (given ∷ givens ++ more)) all (accepted x (taken_on accepts left outcome more is others (subst (λ n. TakesFiles n after left outcome more) next rest)))

-- a refusal of the first file is one of it and all others
taken_alone : (before : ℕ) (basis : Basis) (left : ℕ) (r : LoadRefusal) (outcome : Result Basis LoadRefusal) (count : ℕ) (givens : List Given) → outcome ≡ Err r → count ≡ 1 → TakesFiles before basis count outcome givens
    → TakesFiles before basis (suc left) outcome givens
taken_alone before basis left r outcome count givens is one none = absurd cc
taken_alone before basis left r outcome count givens is one (refused x) = refused x
taken_alone before basis left r outcome count givens is one (accepted x none) = absurd cc
taken_alone before basis left r outcome count givens is one (accepted x (refused y)) = absurd (omega (arith, one))
taken_alone before basis left r outcome count givens is one (accepted x (accepted y rest)) = absurd (omega (arith, one))

-- a file that couldn't be read isn't accepted
unread_accepted_not : {before : ℕ} {basis : Basis} (outcome : Result Basis LoadRefusal) (after : Basis) → outcome ≡ Ok after → TakesFile before basis unread outcome → ⊥
unread_accepted_not outcome after is failed = absurd cc

-- the answer decides what comes of files, want of memory aside
pub decided_answers : (r : LoadRefusal) → IsDecided {A = Basis} (Err r) → IsAnswer {A = Basis} (Err r)
decided_answers refusal.TooManyFiles decided = tt
decided_answers (refusal.ReadFault place) decided = tt
decided_answers (refusal.TooLong place) decided = tt
decided_answers (refusal.Bad place line col fault) decided = tt
decided_answers refusal.NotAnIndex decided = tt
decided_answers refusal.NoMemory decided = absurd decided

module _ {S : Type 0} (gives : Gives S) (faults : S → List ℕ → ℕ) where
  -- before the first file none was read
  pub taken_none : (paths : List (List ℕ)) (first : S) (basis : Basis) → basis ≡ empty_basis → FromGiven file_limit gives faults (take 0 paths) first first (TakesFiles 0 empty_basis 0 (Ok basis))
  taken_none paths first basis is = record { givens = []; gave = given.none; follows = rw is none }

  -- what was read at the first paths was read at them and more
  gave_wider : {first last : S} {paths : List (List ℕ)} {givens : List Given} (more : List (List ℕ)) → GaveThese file_limit gives faults first paths givens last → GaveThese file_limit gives faults first (paths ++ more) givens last
  gave_wider more given.none = given.none
  gave_wider more (given.failed rose) = given.failed rose
  gave_wider more (given.next here rest) = given.next here (gave_wider more rest)

  gave_few : {first last : S} {paths : List (List ℕ)} {givens : List Given} → GaveThese file_limit gives faults first paths givens last → length givens ≤ length paths
  gave_few given.none = omega arith
  gave_few (given.failed rose) = omega arith
  gave_few (given.next here rest) = omega (arith, gave_few rest)

  -- after the last file all were read
  pub all_accepted : (paths : List (List ℕ)) (i : ℕ) → length paths ≤ i → (first last : S) (basis : Basis) → FromGiven file_limit gives faults (take i paths) first last (TakesFiles 0 empty_basis i (Ok basis))
      → FromGiven file_limit gives faults paths first last (TakesFiles 0 empty_basis (length paths) (Ok basis))
  all_accepted paths i over first last basis so_far =
      let whole : take i paths ≡ paths = take_all i paths over in
      let many : i ≡ length paths = omega (arith, over, gave_few so_far.gave, ap length whole, all_read (Ok basis) refl so_far.follows) in
      let T : List (List ℕ) → ℕ → Type 0 = λ ps n. FromGiven file_limit gives faults ps first last (TakesFiles 0 empty_basis n (Ok basis)) in
      subst (λ n. T paths n) many (subst (λ ps. T ps i) whole so_far)

  -- where the first files are accepted, what was read at the others was read after them
  gave_on : {before count : ℕ} {basis after : Basis} (accepts : Result Basis LoadRefusal) {first between last : S} (paths others : List (List ℕ)) {givens : List Given} (more : List Given) → accepts ≡ Ok after → count ≡ length paths
      → TakesFiles before basis count accepts givens → GaveThese file_limit gives faults first paths givens between → GaveThese file_limit gives faults between others more last → GaveThese file_limit gives faults first (paths ++ others) (givens ++ more) last
  gave_on accepts [] others more is many none given.none rest = rest
  gave_on accepts (path ∷ paths) others more is many none given.none rest = absurd (omega (arith, many))
  gave_on accepts paths others more is many (refused x) gave rest = absurd cc
  gave_on accepts [] others more is many (accepted x y) gave rest = absurd (omega (arith, many))
  gave_on accepts (path ∷ paths) others more is many (accepted {after = after} x y) (given.failed rose) rest = absurd (unread_accepted_not (Ok after) after refl x)
  gave_on accepts (path ∷ paths) others more is many (accepted x y) (given.next here there) rest = given.next here (gave_on accepts paths others more is (omega (arith, many)) y there rest)

  -- the files before a place were read and are accepted, and then the one there was read, at this path
  module _ (paths : List (List ℕ)) (i : ℕ) (d path : List ℕ) (at : path ≡ get_or paths i d) (within : i < length paths) (basis : Basis) (first now : S)
      (so_far : FromGiven file_limit gives faults (take i paths) first now (TakesFiles 0 empty_basis i (Ok basis))) where
    joined : (others : List (List ℕ)) (left : ℕ) (outcome : Result Basis LoadRefusal) (last : S) → FromGiven file_limit gives faults others now last (TakesFiles i basis left outcome)
        → FromGiven file_limit gives faults (take i paths ++ others) first last (TakesFiles 0 empty_basis (i + left) outcome)
    joined others left outcome last step =
        let long : i ≡ length (take i paths) = omega (arith, length-take-le i paths (omega (arith, within))) in
        let from : 0 + i ≡ i = omega arith in
        record {
          givens = so_far.givens ++ step.givens;
          gave = gave_on (Ok basis) (take i paths) others step.givens refl long so_far.follows so_far.gave step.gave;
          follows = taken_on (Ok basis) left outcome step.givens refl so_far.follows (subst (λ n. TakesFiles n basis left outcome step.givens) (sym from) step.follows);
        }

    pub taken_more : (after : Basis) (last : S) → FromGiven file_limit gives faults (path ∷ []) now last (TakesFiles i basis 1 (Ok after)) → FromGiven file_limit gives faults (take (i + 1) paths) first last (TakesFiles 0 empty_basis (i + 1) (Ok after))
    taken_more after last step =
        let T : List (List ℕ) → Type 0 = λ ps. FromGiven file_limit gives faults ps first last (TakesFiles 0 empty_basis (i + 1) (Ok after)) in
        let split : take i paths ++ path ∷ [] ≡ take (i + 1) paths = ap (λ p. take i paths ++ p ∷ []) at ∙ sym (take_more paths i d within) in
        subst T split (joined (path ∷ []) 1 (Ok after) last step)

    taken_no_further : (r : LoadRefusal) (last : S) → FromGiven file_limit gives faults (path ∷ []) now last (TakesFiles i basis 1 (Err r)) → FromGiven file_limit gives faults paths first last (TakesFiles 0 empty_basis (length paths) (Err r))
    taken_no_further r last step =
        let rest = drop (suc i) paths in
        let split : take i paths ++ path ∷ rest ≡ paths = ap (λ p. take i paths ++ p ∷ rest) at ∙ ap (λ ps. take i paths ++ ps) (sym (drop-cons paths i d within)) ∙ take-append-drop i paths in
        let long : i + suc (length rest) ≡ length paths =
        omega (arith, ap length split, length-append {A = List ℕ} (take i paths) (path ∷ rest), length-take-le i paths (omega (arith, within))) in
        let T : List (List ℕ) → ℕ → Type 0 = λ ps n. FromGiven file_limit gives faults ps first last (TakesFiles 0 empty_basis n (Err r)) in
        subst (λ ps. T ps (length paths)) split (subst (λ n. T (take i paths ++ path ∷ rest) n) long (joined (path ∷ rest) (suc (length rest)) (Err r) last (record {
          givens = step.givens;
          gave = gave_wider rest step.gave;
          follows = taken_alone i basis (length rest) r (Err r) 1 step.givens refl refl step.follows;
        })))

    -- the refusal of the file is handed on
    pub refusal_taken : (result : Result Basis LoadRefusal) (r : LoadRefusal) (last : S) → IsErrAnd result (λ other. other ≡ r)
        → (IsAnswer {A = Basis} (Err r) → FromGiven file_limit gives faults (path ∷ []) now last (TakesFiles i basis 1 (Err r))) → IsAnswer result → FromGiven file_limit gives faults paths first last (TakesFiles 0 empty_basis (length paths) result)
    refusal_taken result r last handed here answers =
        let from = err_from_is_err_and result handed in
        let same : result ≡ Err r = from.1 ∙ ap (λ e. Err e) from.2 in
        let T : Result Basis LoadRefusal → Type 0 = λ o. FromGiven file_limit gives faults paths first last (TakesFiles 0 empty_basis (length paths) o) in
        let A : Result Basis LoadRefusal → Type 0 = λ o. IsAnswer o in
        subst T (sym same) (taken_no_further r last (here (subst A same answers)))

  -- all files are taken, of which there aren't too many
  module _ (paths all : List (List ℕ)) (same : all ≡ paths) (few : length paths ≤ most_files) (first last : S) (outcome : Result Basis LoadRefusal) (answer : Result Library LoadRefusal) (is : answer ≡ library_of outcome)
      (taken : FromGiven file_limit gives faults all first last (TakesFiles 0 empty_basis (length all) outcome)) where
    of_all : FromGiven file_limit gives faults paths first last (TakesFiles 0 empty_basis (length paths) outcome)
    of_all = subst (λ ps. FromGiven file_limit gives faults ps first last (TakesFiles 0 empty_basis (length ps) outcome)) same taken

    pub all_loaded : FromGiven file_limit gives faults paths first last (Loads (length paths) answer)
    all_loaded = let found = of_all in record { givens = found.givens; gave = found.gave; follows = subst (λ o. Loads (length paths) o found.givens) (sym is) (in_turn few found.follows) }

    pub all_told : (files : S → Option FileMap) → IsDecided outcome
        → ((told : FileMap) (paths : List (List ℕ)) (first last : S) (givens : List Given) → files first ≡ Some told → GaveThese file_limit gives faults first paths givens last → AreHeld file_limit told paths givens) → LoadsTold (files first) paths answer
    all_told files decided are = by (files first) refl
      where
        by : (told : Option FileMap) → files first ≡ told → LoadsTold told paths answer
        by None there = tt
        by (Some map) there =
            let found = of_all in
            subst (λ o. Loads (length paths) o (held file_limit map paths)) (sym is) (in_turn few (takes_held map 0 empty_basis (length paths) outcome found.givens paths refl found.follows (are map paths first last found.givens there found.gave) decided))

-- nothing is read of too many files
pub none_read : {S : Type 0} (gives : Gives S) (faults : S → List ℕ → ℕ) (paths : List (List ℕ)) (files : S) → most_files < length paths
    → FromGiven file_limit gives faults paths files files (Loads (length paths) (Err refusal.TooManyFiles))
none_read gives faults paths files many = record { givens = []; gave = given.none; follows = too_many many }

pub many_told : (told : Option FileMap) (paths : List (List ℕ)) → most_files < length paths → LoadsTold told paths (Err refusal.TooManyFiles)
many_told None paths many = tt
many_told (Some files) paths many = too_many many

-- a fault of reading the file at a place is handed on
module _ (paths : List (List ℕ)) (i : ℕ) (d path : List ℕ) (at : path ≡ get_or paths i d) (within : i < length paths) (first then last : List ℕ → ℕ) (none_fell : NoneFell first then) where
  abbrev FaultHere : ℕ → Type 0
  FaultHere place = (place ≡ i) × Rose (then path) (last path)

  fault_at : (place : ℕ) → FaultHere place → FailsAt paths first last place
  fault_at place (is, rose) = record {
    path = path;
    there = rw (is, at) (slice_get-get_or paths i d within);
    rose = Rose-since (first path) (then path) (last path) (none_fell path) rose;
  }

  fault_on : (r : LoadRefusal) → IfReadFault {A = Basis} (Err r) FaultHere → IfReadFault {A = Basis} (Err r) (FailsAt paths first last)
  fault_on refusal.TooManyFiles here = tt
  fault_on (refusal.ReadFault place) here = fault_at place here
  fault_on (refusal.TooLong place) here = tt
  fault_on (refusal.Bad place line col fault) here = tt
  fault_on refusal.NotAnIndex here = tt
  fault_on refusal.NoMemory here = tt

  pub fault_taken : (result : Result Basis LoadRefusal) (r : LoadRefusal) → IsErrAnd result (λ other. other ≡ r) → IfReadFault {A = Basis} (Err r) FaultHere → IfReadFault result (FailsAt paths first last)
  fault_taken result r handed here =
      let from = err_from_is_err_and result handed in
      let same : result ≡ Err r = from.1 ∙ ap (λ e. Err e) from.2 in
      let F : Result Basis LoadRefusal → Type 0 = λ o. IfReadFault o (FailsAt paths first last) in
      subst F (sym same) (fault_on r here)
