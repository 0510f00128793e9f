-- Names that are joined one after the other, where they are still free.
use Rattle.std.proofs.Common.{◌≡◌, ℕ, zero, suc, ◌<◌, ◌≤◌, ◌==◌, ◌&&◌, ◌||◌, Bool, true, false, not, min, nat_le, if◌then◌else◌, List, [], ◌∷◌, ◌++◌, length, slice_get, refl, sym, ap, ap₂, ◌∙◌, subst, arith, append-nil}
use Rattle.std.specs.List.{All, filter}
use Rattle.std.proofs.lemmas.Bool.{and_from, eq-eqb, eqb-true, leb-false, leb-true, ne_eqb}
use Rattle.std.proofs.lemmas.List.Elements.{All-cons, All-head, All-nil, All-tail, All-weaker}
use Rattle.type_core.specs.declared.names.Equality.{Equality}
use Rattle.type_core.specs.declared.names.TypeName.{TypeName}
use Rattle.type_core.specs.InitialNames.{initial_names}
use Rattle.type_core.specs.Types.{IsOver}
use Rattle.elab_env.specs.declared.realization.Realization.{Realization}
use Rattle.elab_env.specs.Names.{arity_of, equality_at, is_described, is_own, joined_equality, with_equality}
use Rattle.elab_env.specs.Sound.{AreRealizations, IsRealization}
use Rattle.elab_env.specs.Table.{Table, is_free, is_realized}
use Rattle.elab_env.proofs.NameLists.{keeps_settled, still_over, still_realizations}
use Rattle.elab_rules.specs.declared.progress.Progress.{Progress}
use Rattle.elab_rules.specs.Environments.{Environment}
use Rattle.elab_rules.specs.Joining.{joined_table}
use Rattle.elab_rules.specs.Sharing.{all_joined, distinct, joined, joined_to, least_of, without_number}
use Rattle.elab_rules.specs.Standing.{AreOver}
use Rattle.elab_rules.specs.States.{State}
use Rattle.elab_rules.specs.Views.{body_at, entries_at, gone_of, state_of}
use Rattle.elab_rules.specs.Wheres.{types_of}
use Rattle.elab_rules.proofs.Gone.{realized_more}
use Rattle.elab_rules.proofs.Least.{least_is, least_of_all}
use Rattle.elab_realizing.specs.InTurn.{joined_in_turn}
use Rattle.elab_realizing.proofs.Joined.{joined_names}
use Rattle.elab_realizing.proofs.JoinedNames.{is_realization, joined_entries, joined_flags, joined_realizations, joining_one, same_state}
use Rattle.elab_phrases.proofs.Staying.{all_by}

-- ---- lists of numbers
filter_twice : (f g h : ℕ → Bool) → ((m : ℕ) → h m ≡ (f m && g m)) → (ns : List ℕ) → filter f (filter g ns) ≡ filter h ns
filter_twice f g h both [] = refl
filter_twice f g h both (n ∷ ns) = by_case (filter_twice f g h both ns) (g n) ∙ ap (λ b. if b then n ∷ filter h ns else filter h ns) (sym (both n))
  where
    kept : filter f (filter g ns) ≡ filter h ns → (c : Bool) → (if c then n ∷ filter f (filter g ns) else filter f (filter g ns)) ≡ (if (c && true) then n ∷ filter h ns else filter h ns)
    kept rest true = ap (λ ms. n ∷ ms) rest
    kept rest false = rest

    dropped : (c : Bool) → filter h ns ≡ (if (c && false) then n ∷ filter h ns else filter h ns)
    dropped true = refl
    dropped false = refl

    by_case : filter f (filter g ns) ≡ filter h ns → (b : Bool) → filter f (if b then n ∷ filter g ns else filter g ns) ≡ (if (f n && b) then n ∷ filter h ns else filter h ns)
    by_case rest true = kept rest (f n)
    by_case rest false = rest ∙ dropped (f n)

filter_all : (f : ℕ → Bool) (ns : List ℕ) → All (λ n. f n ≡ true) ns → filter f ns ≡ ns
filter_all f [] all = refl
filter_all f (n ∷ ns) all =
    ap (λ b. if b then n ∷ filter f ns else filter f ns) (All-head (λ m. f m ≡ true) n ns all)
    ∙ ap (λ rest. n ∷ rest) (filter_all f ns (All-tail (λ m. f m ≡ true) n ns all))

filtered_all : (P : ℕ → Type 0) (f : ℕ → Bool) (ns : List ℕ) → All P ns → All P (filter f ns)
filtered_all P f [] all = All-nil P
filtered_all P f (n ∷ ns) all = by_case (filtered_all P f ns (All-tail P n ns all)) (f n)
  where
    by_case : All P (filter f ns) → (b : Bool) → All P (if b then n ∷ filter f ns else filter f ns)
    by_case rest true = All-cons P n (filter f ns) (All-head P n ns all) rest
    by_case rest false = rest

distinct_all : (P : ℕ → Type 0) (ns : List ℕ) → All P ns → All P (distinct ns)
distinct_all P [] all = All-nil P
distinct_all P (n ∷ ns) all = All-cons P n (without_number n (distinct ns)) (All-head P n ns all) (filtered_all P (λ m. not (m == n)) (distinct ns) (distinct_all P ns (All-tail P n ns all)))

-- ---- tables
same_table : (a b : Table) → a.names ≡ b.names → a.realizations ≡ b.realizations → a ≡ b
same_table a b e f = λ i. record { names = e i; realizations = f i }

chosen : {A : Type 0} (b : Bool) (x y : A) → b ≡ true → (if b then x else y) ≡ x
chosen true x y e = refl
chosen false x y e = cc

-- a name joined to itself changes nothing
pub joined_itself : (kept : ℕ) (table : Table) → joined_table kept kept table ≡ table
joined_itself kept table =
    same_table (joined_table kept kept table) table (chosen (kept == kept) table.names _ (eq-eqb kept kept refl))
    (ap (λ rs. table.realizations ++ rs) (chosen (kept == kept) [] _ (eq-eqb kept kept refl)) ∙ append-nil table.realizations)

pub settled_own : (at : ℕ) (equality : Equality) (names : List TypeName) (n : ℕ) → is_own (slice_get (with_equality at equality names) n) ≡ is_own (slice_get names n)
settled_own at equality [] n = refl
settled_own zero equality (name ∷ names) zero = refl
settled_own zero equality (name ∷ names) (suc n) = refl
settled_own (suc at) equality (name ∷ names) zero = refl
settled_own (suc at) equality (name ∷ names) (suc n) = settled_own at equality names n

pub settled_arity : (at : ℕ) (equality : Equality) (names : List TypeName) (n : ℕ) → arity_of (slice_get (with_equality at equality names) n) ≡ arity_of (slice_get names n)
settled_arity at equality [] n = refl
settled_arity zero equality (name ∷ names) zero = refl
settled_arity zero equality (name ∷ names) (suc n) = refl
settled_arity (suc at) equality (name ∷ names) zero = refl
settled_arity (suc at) equality (name ∷ names) (suc n) = settled_arity at equality names n

-- what is known while names are joined to one
record CanJoin (kept : ℕ) (table : Table) (env : Environment) : Type 0 where
  realizations : AreRealizations table.names table.realizations
  free : is_free table kept ≡ true
  over : AreOver table.names env

abbrev state_at : Table → ℕ → State
state_at table weight = record { names = table.names; gone = gone_of table; weight = weight }

abbrev view : Environment → ℕ → Table → Environment × State
view env weight table = (entries_at table env, state_at table weight)

module _ (kept n : ℕ) (table : Table) (env : Environment) (weight : ℕ) (less : kept < n) (can : CanJoin kept table env) (free : is_free table n ≡ true) (same : arity_of (slice_get table.names kept) ≡ arity_of (slice_get table.names n)) where
  abbrev later : Table
  later = joined_table kept n table

  abbrev r : Realization
  r = joining_one kept n table.names

  abbrev equality : Equality
  equality = joined_equality (equality_at table.names kept) (equality_at table.names n)

  names_are : later.names ≡ with_equality kept equality table.names
  names_are = joined_names table.names kept n less

  realizations_are : later.realizations ≡ table.realizations ++ r ∷ []
  realizations_are = joined_realizations kept n table less free can.free same

  later_free : (m : ℕ) → is_free later m ≡ (is_free table m && not (m == n))
  later_free m =
      ap₂ (λ d z. d && not z)
      (ap (λ names. is_described names m) names_are ∙ ap (λ b. nat_le (length initial_names) m && b) (settled_own kept equality table.names m))
      (ap (λ rs. is_realized rs m) realizations_are ∙ realized_more table.realizations r m)
      ∙ regrouped (is_described table.names m) (is_realized table.realizations m) (m == n)
    where
      regrouped : (d z b : Bool) → (d && not (z || b)) ≡ ((d && not z) && not b)
      regrouped false z b = refl
      regrouped true true b = refl
      regrouped true false b = refl

  later_arity : (m : ℕ) → arity_of (slice_get later.names m) ≡ arity_of (slice_get table.names m)
  later_arity m = ap (λ names. arity_of (slice_get names m)) names_are ∙ settled_arity kept equality table.names m

  can_later : CanJoin kept later env
  can_later = record {
    realizations = subst (λ names. AreRealizations names later.realizations) (sym names_are)
        (still_realizations table.names (with_equality kept equality table.names) (keeps_settled kept equality table.names) later.realizations
        (subst (AreRealizations table.names) (sym realizations_are)
        (all_by (IsRealization table.names) table.realizations (r ∷ []) can.realizations (is_realization kept n table less free can.free same, tt))));
    free = later_free kept ∙ and_from _ _ can.free (ap not (ne_eqb kept n (λ e. omega (arith, less, e))));
    over = subst (λ names. AreOver names env) (sym names_are)
        (All-weaker (IsOver table.names) (IsOver (with_equality kept equality table.names)) (still_over table.names (with_equality kept equality table.names) (keeps_settled kept equality table.names)) (types_of env) can.over);
  }

  view_later : view env weight later ≡ joined_to kept n (entries_at table env) (state_at table weight)
  view_later =
      ap₂ (λ a b. (a, b)) (joined_entries kept n table less free can.free same env can.realizations can.over)
      (same_state _ _ names_are (joined_flags kept n table less free can.free same) refl)

-- ---- all of them
-- the kept name itself is passed over
passed_over : (kept : ℕ) (f : ℕ → Bool) (ns : List ℕ) (s : Environment × State) → all_joined kept (filter f (without_number kept ns)) s ≡ all_joined kept (filter f ns) s
passed_over kept f [] s = refl
passed_over kept f (n ∷ ns) s = by_case (λ t. passed_over kept f ns t) (n == kept) refl
  where
    skipped : (n == kept) ≡ true → (c : Bool) → all_joined kept (filter f ns) s ≡ all_joined kept (if c then n ∷ filter f ns else filter f ns) s
    skipped is true = ap (λ b. all_joined kept (filter f ns) (if b then s else joined_to kept n s.0 s.1)) (sym is)
    skipped is false = refl

    taken : ((t : Environment × State) → all_joined kept (filter f (without_number kept ns)) t ≡ all_joined kept (filter f ns) t) → (c : Bool)
        → all_joined kept (if c then n ∷ filter f (without_number kept ns) else filter f (without_number kept ns)) s ≡ all_joined kept (if c then n ∷ filter f ns else filter f ns) s
    taken rest true = rest (if n == kept then s else joined_to kept n s.0 s.1)
    taken rest false = rest s

    by_case : ((t : Environment × State) → all_joined kept (filter f (without_number kept ns)) t ≡ all_joined kept (filter f ns) t) → (b : Bool) → (n == kept) ≡ b
        → all_joined kept (filter f (if not b then n ∷ without_number kept ns else without_number kept ns)) s ≡ all_joined kept (if f n then n ∷ filter f ns else filter f ns) s
    by_case rest true is = rest s ∙ skipped is (f n)
    by_case rest false is = taken rest (f n)

abbrev SameArity : ℕ → Table → ℕ → Type 0
SameArity kept table n = arity_of (slice_get table.names kept) ≡ arity_of (slice_get table.names n)

-- the first of the names, where it isn't free any more, is the kept one, or is joined
module _ (kept n : ℕ) (ns : List ℕ) (table : Table) (env : Environment) (weight : ℕ) (can : CanJoin kept table env) (least : All (λ m. kept ≤ m) (n ∷ ns)) (arity : All (SameArity kept table) (n ∷ ns))
    (rest : (t : Table) → CanJoin kept t env → All (SameArity kept t) ns → all_joined kept (filter (is_free t) (distinct ns)) (view env weight t) ≡ view env weight (joined_in_turn kept ns t)) where
  abbrev Goal : Bool → Type 0
  Goal b = all_joined kept (if b then n ∷ filter (is_free table) (without_number n (distinct ns)) else filter (is_free table) (without_number n (distinct ns))) (view env weight table)
      ≡ view env weight (joined_in_turn kept ns (if b then joined_table kept n table else table))

  abbrev tail_arity : All (SameArity kept table) ns
  tail_arity = All-tail (SameArity kept table) n ns arity

  and_true : (b : Bool) → b ≡ (b && true)
  and_true true = refl
  and_true false = refl

  dropped : is_free table n ≡ false → (m : ℕ) → is_free table m ≡ (is_free table m && not (m == n))
  dropped is m = by_same (m == n) refl
    where
      by_same : (b : Bool) → (m == n) ≡ b → is_free table m ≡ (is_free table m && not b)
      by_same false e = and_true (is_free table m)
      by_same true e =
          let none : is_free table m ≡ false = ap (is_free table) (eqb-true m n e) ∙ is in
          none ∙ sym (ap (λ b. b && false) none)

  gone : is_free table n ≡ false → Goal false
  gone is =
      ap (λ ms. all_joined kept ms (view env weight table)) (filter_twice (is_free table) (λ m. not (m == n)) (is_free table) (dropped is) (distinct ns))
      ∙ rest table can tail_arity

  itself : n ≡ kept → Goal true
  itself same =
      ap (λ b. all_joined kept (filter (is_free table) (without_number n (distinct ns))) (if b then view env weight table else joined_to kept n (view env weight table).0 (view env weight table).1)) (eq-eqb n kept same)
      ∙ ap (λ m. all_joined kept (filter (is_free table) (without_number m (distinct ns))) (view env weight table)) same
      ∙ passed_over kept (is_free table) (distinct ns) (view env weight table)
      ∙ rest table can tail_arity
      ∙ ap (λ t. view env weight (joined_in_turn kept ns t)) (sym (ap (λ m. joined_table kept m table) same ∙ joined_itself kept table))

  other : kept < n → is_free table n ≡ true → Goal true
  other less is =
      let same = All-head (SameArity kept table) n ns arity in
      let later : Table = joined_table kept n table in
      ap (λ b. all_joined kept (filter (is_free table) (without_number n (distinct ns))) (if b then view env weight table else joined_to kept n (view env weight table).0 (view env weight table).1)) (ne_eqb n kept (λ e. omega (arith, less, e)))
      ∙ ap₂ (λ ms s. all_joined kept ms s) (filter_twice (is_free table) (λ m. not (m == n)) (is_free later) (later_free kept n table env weight less can is same) (distinct ns)) (sym (view_later kept n table env weight less can is same))
      ∙ rest later (can_later kept n table env weight less can is same)
      (All-weaker (SameArity kept table) (SameArity kept later)
      (λ m e. later_arity kept n table env weight less can is same kept ∙ e ∙ sym (later_arity kept n table env weight less can is same m)) ns tail_arity)

  by_free : (b : Bool) → is_free table n ≡ b → Goal b
  by_free false is = gone is
  by_free true is = by_least (nat_le n kept) refl
    where
      by_least : (c : Bool) → nat_le n kept ≡ c → Goal true
      by_least true e = itself (let l = leb-true n kept e in let k = All-head (λ m. kept ≤ m) n ns least in omega (arith, l, k))
      by_least false e = other (leb-false n kept e) is

  first_in_turn : Goal (is_free table n)
  first_in_turn = by_free (is_free table n) refl

all_in_turn : (kept : ℕ) (ns : List ℕ) (table : Table) (env : Environment) (weight : ℕ) → CanJoin kept table env → All (λ n. kept ≤ n) ns → All (SameArity kept table) ns
    → all_joined kept (filter (is_free table) (distinct ns)) (view env weight table) ≡ view env weight (joined_in_turn kept ns table)
all_in_turn kept [] table env weight can least arity = refl
all_in_turn kept (n ∷ ns) table env weight can least arity =
    first_in_turn kept n ns table env weight can least arity (λ t c a. all_in_turn kept ns t env weight c (All-tail (λ m. kept ≤ m) n ns least) a)

-- the names are joined: by now the entries and the state are those of the definition
pub joined_by_turns : (p q : Progress) (first : ℕ) (others : List ℕ) (env : Environment) → AreRealizations p.table.names p.table.realizations → All (λ n. is_free p.table n ≡ true) (first ∷ others)
    → All (λ n. arity_of (slice_get p.table.names n) ≡ arity_of (slice_get p.table.names first)) others → q.table ≡ joined_in_turn (least_of first others) (first ∷ others) p.table → q.weight ≡ p.weight → AreOver p.table.names env
    → (body_at q env, state_of q) ≡ joined (first ∷ others) (body_at p env) (state_of p)
joined_by_turns p q first others env sound free arity table weight over =
    let kept : ℕ = least_of first others in
    let names : List TypeName = p.table.names in
    let to_first : All (λ n. arity_of (slice_get names n) ≡ arity_of (slice_get names first)) (first ∷ others) = All-cons (λ n. arity_of (slice_get names n) ≡ arity_of (slice_get names first)) first others refl arity in
    let kept_arity : arity_of (slice_get names kept) ≡ arity_of (slice_get names first) = least_is (λ n. arity_of (slice_get names n) ≡ arity_of (slice_get names first)) first others refl arity in
    let can : CanJoin kept p.table env = record {
      realizations = sound;
      free = least_is (λ n. is_free p.table n ≡ true) first others (All-head (λ n. is_free p.table n ≡ true) first others free) (All-tail (λ n. is_free p.table n ≡ true) first others free);
      over = over;
    } in
    ap₂ (λ t w. view env w t) table weight
    ∙ sym (all_in_turn kept (first ∷ others) p.table env p.weight can (least_of_all first others)
    (All-weaker (λ n. arity_of (slice_get names n) ≡ arity_of (slice_get names first)) (SameArity kept p.table) (λ n e. kept_arity ∙ sym e) (first ∷ others) to_first))
    ∙ ap (λ ms. all_joined kept ms (view env p.weight p.table)) (filter_all (is_free p.table) (distinct (first ∷ others)) (distinct_all (λ n. is_free p.table n ≡ true) (first ∷ others) free))
