-- One name after the other is joined, where it is still free.
use Rattle.std.proofs.Common.{◌≡◌, ℕ, ◌+◌, ◌<◌, ◌≤◌, ◌==◌, ◌&&◌, ◌||◌, Bool, true, false, true≢false, not, min, max, nat_le, if◌then◌else◌, List, [], ◌∷◌, ◌++◌, length, drop, get_or, slice_get, Result, Ok, Err, OnOk, refl, sym, ap, ap₂, ◌∙◌, subst, arith, append-nil}
use Rattle.std.specs.List.{All}
use Rattle.std.proofs.lemmas.Bool.{eq-eqb, ne_eqb}
use Rattle.std.proofs.lemmas.List.Elements.{All-cons, All-head, All-map, All-nil, All-tail}
use Rattle.type_core.specs.declared.names.Equality.{Equality}
use Rattle.type_core.specs.declared.names.TypeName.{TypeName}
use Rattle.type_core.specs.declared.ty.NameId.{NameId}
use Rattle.type_core.specs.InitialNames.{initial_names}
use Rattle.elab_env.specs.declared.realization.Realization.{Realization}
use Rattle.elab_env.specs.Names.{arity_of, equality_at, is_described, joined_equality, with_equality}
use Rattle.elab_env.specs.Parameters.{name_function}
use Rattle.elab_env.specs.Table.{Table, is_free, is_realized, joining, with_joined}
use Rattle.elab_rules.specs.declared.progress.Progress.{Progress}
use Rattle.elab_rules.specs.Joining.{IsJoined, joined_table}
use Rattle.elab_rules.specs.Sharing.{least_of}
use Rattle.elab_rules.specs.Standing.{Grew}
use Rattle.elab_rules.specs.Views.{numbers}
use Rattle.elab_rules.proofs.Gone.{realized_more}
use Rattle.elab_realizing.specs.InTurn.{joined_in_turn}
use Rattle.elab_realizing.proofs.JoinedAll.{joined_itself, settled_arity, settled_own}
use Rattle.elab_rules.proofs.Least.{least_is, least_of_all}
use Rattle.elab_rules.proofs.KeptNames.{Keeps, keeps_same, keeps_settled}
use Rattle.elab_types.proofs.Lists.{dropped}
use Rattle.elab_rules.proofs.Tracked.{AreAlike, alike_itself, settled_alike, tracked_alike}

-- ---- the cases of one turn
-- the kept name itself
pub itself_joined : (kept n : ℕ) (table : Table) → n ≡ kept → IsJoined kept n table table
itself_joined kept n table same = by_case (is_free table n)
  where
    by_case : (b : Bool) → table ≡ (if b then joined_table kept n table else table)
    by_case true = sym (ap (λ m. joined_table kept m table) same ∙ joined_itself kept table)
    by_case false = refl

-- a name that isn't free any more
pub gone_joined : (kept n : ℕ) (table : Table) → is_free table n ≡ false → IsJoined kept n table table
gone_joined kept n table gone = ap (λ b. if b then joined_table kept n table else table) (sym gone)

-- a free name
pub free_joined : (kept n : ℕ) (old new : Table) → is_free old n ≡ true → new.names ≡ with_joined kept n old.names → new.realizations ≡ old.realizations ++ joining old.names kept n → IsJoined kept n old new
free_joined kept n old new free names realizations =
    let same : new ≡ joined_table kept n old = λ i. record { names = names i; realizations = realizations i } in
    same ∙ ap (λ b. if b then joined_table kept n old else old) (sym free)

-- ---- what stays
or_nothing : (b : Bool) → (b || false) ≡ b
or_nothing true = refl
or_nothing false = refl

module _ (kept n : ℕ) (table : Table) where
  abbrev equality : Equality
  equality = joined_equality (equality_at table.names (min kept n)) (equality_at table.names (max kept n))

  abbrev names_if : Bool → List TypeName
  names_if b = if b then table.names else with_equality (min kept n) equality table.names

  abbrev r : Realization
  r = record { name = record { 0 = max kept n }; fun = name_function (min kept n) (arity_of (slice_get table.names kept)) }

  abbrev realized_if : Bool → List Realization
  realized_if b = if b then [] else r ∷ []

  described_if : (b : Bool) → is_described (names_if b) kept ≡ is_described table.names kept
  described_if true = refl
  described_if false = ap (λ own. nat_le (length initial_names) kept && own) (settled_own (min kept n) equality table.names kept)

  keeps_if : (b : Bool) → Keeps table.names (names_if b)
  keeps_if true = keeps_same table.names
  keeps_if false = keeps_settled (min kept n) equality table.names

  alike_if : (b : Bool) → AreAlike table.names (names_if b)
  alike_if true = alike_itself table.names
  alike_if false = settled_alike (min kept n) equality table.names

  arity_if : (b : Bool) (m : ℕ) → arity_of (slice_get (names_if b) m) ≡ arity_of (slice_get table.names m)
  arity_if true m = refl
  arity_if false m = settled_arity (min kept n) equality table.names m

  others_if : kept ≤ n → (b : Bool) → (kept == n) ≡ b → is_realized (table.realizations ++ realized_if b) kept ≡ is_realized table.realizations kept
  others_if least true is = ap (λ rs. is_realized rs kept) (append-nil table.realizations)
  others_if least false is =
      realized_more table.realizations r kept
      ∙ ap (λ b. is_realized table.realizations kept || b) (ne_eqb kept (max kept n) (λ same. true≢false (sym (eq-eqb kept n (omega (arith, least, same))) ∙ is)))
      ∙ or_nothing (is_realized table.realizations kept)

  later_if : (base : ℕ) → base ≤ n → (b : Bool) → All (λ s. base ≤ s.name.0) (realized_if b)
  later_if base later true = All-nil (λ (s : Realization). base ≤ s.name.0)
  later_if base later false = All-cons (λ (s : Realization). base ≤ s.name.0) r [] (omega (arith, later)) (All-nil (λ (s : Realization). base ≤ s.name.0))

  still_free : kept ≤ n → is_free table kept ≡ true → is_free (joined_table kept n table) kept ≡ true
  still_free least free = ap₂ (λ d z. d && not z) (described_if (kept == n)) (others_if least (kept == n) refl) ∙ free

-- the kept name stays free
pub kept_free : (kept n : ℕ) (old new : Table) → kept ≤ n → IsJoined kept n old new → is_free old kept ≡ true → is_free new kept ≡ true
kept_free kept n old new least joined free = by_case (is_free old n) joined
  where
    by_case : (b : Bool) → new ≡ (if b then joined_table kept n old else old) → is_free new kept ≡ true
    by_case true is = ap (λ t. is_free t kept) is ∙ still_free kept n old least free
    by_case false is = ap (λ t. is_free t kept) is ∙ free

-- names keep their arities
pub arities_kept : (kept n : ℕ) (old new : Table) → IsJoined kept n old new → (m : ℕ) → arity_of (slice_get new.names m) ≡ arity_of (slice_get old.names m)
arities_kept kept n old new joined m = by_case (is_free old n) joined
  where
    by_case : (b : Bool) → new ≡ (if b then joined_table kept n old else old) → arity_of (slice_get new.names m) ≡ arity_of (slice_get old.names m)
    by_case true is = ap (λ (t : Table). arity_of (slice_get t.names m)) is ∙ arity_if kept n old (kept == n) m
    by_case false is = ap (λ (t : Table). arity_of (slice_get t.names m)) is

-- no name before the base is realized
pub grew_joined : (base kept n : ℕ) (p q : Progress) → base ≤ n → IsJoined kept n p.table q.table → q.firsts ≡ p.firsts → q.external_weight ≡ p.external_weight → Grew base p q
grew_joined base kept n p q later joined firsts external = by_case (is_free p.table n) joined
  where
    grew : (names : List TypeName) (more : List Realization) → Keeps p.table.names names → AreAlike p.table.names names → All (λ s. base ≤ s.name.0) more
        → q.table.names ≡ names → q.table.realizations ≡ p.table.realizations ++ more → Grew base p q
    grew names more keeps alike all e h = record {
      names = subst (Keeps p.table.names) (sym e) keeps;
      tracked = tracked_alike p q (subst (AreAlike p.table.names) (sym e) alike) firsts external;
      more = more;
      realizations = h;
      later = all;
    }

    by_case : (b : Bool) → q.table ≡ (if b then joined_table kept n p.table else p.table) → Grew base p q
    by_case true is =
        let b : Bool = kept == n in
        grew (names_if kept n p.table b) (realized_if kept n p.table b) (keeps_if kept n p.table b) (alike_if kept n p.table b) (later_if kept n p.table base later b)
        (ap (λ (t : Table). t.names) is) (ap (λ (t : Table). t.realizations) is)
    by_case false is =
        grew p.table.names [] (keeps_same p.table.names) (alike_itself p.table.names) (All-nil (λ (s : Realization). base ≤ s.name.0))
        (ap (λ (t : Table). t.names) is) (ap (λ (t : Table). t.realizations) is ∙ sym (append-nil p.table.realizations))

-- ---- in turn
-- the first is joined
pub first_joined : (kept n : ℕ) (ns : List ℕ) (old new : Table) → IsJoined kept n old new → joined_in_turn kept ns new ≡ joined_in_turn kept (n ∷ ns) old
first_joined kept n ns old new joined = ap (joined_in_turn kept ns) joined

-- so is the one whose turn it is
pub next_joined : (kept : ℕ) (others : List NameId) (i : ℕ) (n d : NameId) (old new whole : Table) → i < length others → n ≡ get_or others i d → IsJoined kept n.0 old new
    → joined_in_turn kept (numbers (drop i others)) old ≡ whole → joined_in_turn kept (numbers (drop (i + 1) others)) new ≡ whole
next_joined kept others i n d old new whole within is joined so_far =
    first_joined kept n.0 (numbers (drop (i + 1) others)) old new joined
    ∙ sym (ap (λ ns. joined_in_turn kept (numbers ns) old) (dropped others i n d within is))
    ∙ so_far

-- ---- what two facts on an answer give
pub both_ok : {T E A B C : Type 0} (result : Result T E) → (A → B → C) → OnOk result A → OnOk result B → OnOk result C
both_ok (Ok t) f a b = f a b
both_ok (Err e) f a b = tt

-- ---- names by their numbers
all_names : (P : ℕ → Type 0) (ns : List NameId) → All P (numbers ns) → All (λ (n : NameId). P n.0) ns
all_names P [] all = All-nil (λ (n : NameId). P n.0)
all_names P (n ∷ ns) all = All-cons (λ (m : NameId). P m.0) n ns (All-head P n.0 (numbers ns) all) (all_names P ns (All-tail P n.0 (numbers ns) all))

-- the least is no greater than any
pub least_below_all : (first : NameId) (others : List NameId) (kept : ℕ) → kept ≡ least_of first.0 (numbers others) → All (λ (n : NameId). kept ≤ n.0) (first ∷ others)
least_below_all first others kept is = subst (λ k. All (λ (n : NameId). k ≤ n.0) (first ∷ others)) (sym is) (all_names (λ n. least_of first.0 (numbers others) ≤ n) (first ∷ others) (least_of_all first.0 (numbers others)))

-- what holds of all holds of the least
pub least_holds : (P : ℕ → Type 0) (first : NameId) (others : List NameId) (kept : ℕ) → kept ≡ least_of first.0 (numbers others) → All (λ (n : NameId). P n.0) (first ∷ others) → P kept
least_holds P first others kept is all =
    let Q = λ (n : NameId). P n.0 in
    subst P (sym is) (least_is P first.0 (numbers others) (All-head Q first others all) (All-map P (λ (n : NameId). n.0) others (All-tail Q first others all)))

-- where they have one arity, the least has it
pub least_alike : (names : List TypeName) (first : NameId) (others : List NameId) (kept : ℕ) → kept ≡ least_of first.0 (numbers others)
    → All (λ (n : NameId). arity_of (slice_get names n.0) ≡ arity_of (slice_get names first.0)) others → arity_of (slice_get names kept) ≡ arity_of (slice_get names first.0)
least_alike names first others kept is alike =
    least_holds (λ n. arity_of (slice_get names n) ≡ arity_of (slice_get names first.0)) first others kept is
    (All-cons (λ (n : NameId). arity_of (slice_get names n.0) ≡ arity_of (slice_get names first.0)) first others refl alike)
