-- What stays as names are added, settled, realized and joined: what stands around, units, and what was described before.
use Rattle.std.proofs.Common.{◌≡◌, ℕ, zero, suc, ◌+◌, ◌<◌, ◌≤◌, ◌==◌, ◌&&◌, ◌||◌, Bool, true, false, not, if◌then◌else◌, List, [], ◌∷◌, ◌++◌, length, take, slice_get, nat_le, Option, Some, None, refl, sym, ap, ap₂, ◌∙◌, subst, arith, append-nil, append_assoc}
use Rattle.std.specs.List.{All, AllByRecursion, filter}
use Rattle.std.proofs.lemmas.List.Elements.{All-append, All-cons, All-head, All-nil, All-tail, All-weaker}
use Rattle.std.proofs.lemmas.Bool.{leb-false, leb-true, ne_eqb}
use Rattle.std.proofs.lemmas.Option.{slice_get_within}
use Rattle.type_core.specs.declared.names.TypeName.{TypeName}
use Rattle.type_core.specs.declared.ty.Ty.{Ty}
use Rattle.type_core.specs.InitialNames.{initial_names}
use Rattle.type_core.specs.Types.{IsOver, takes}
use Rattle.elab_env.specs.declared.realization.Realization.{Realization}
use Rattle.elab_env.specs.Avoids.{Avoids}
use Rattle.elab_env.specs.Names.{is_described, is_own}
use Rattle.elab_env.specs.Sound.{IsResolved}
use Rattle.elab_env.specs.Table.{is_realized}
use Rattle.elab_env.proofs.NameLists.{KeepsNames as TableKeeps, still_over}
use Rattle.elab_rules.specs.declared.detail.Detail.{Detail}
use Rattle.elab_rules.specs.declared.entry.UnitEntry.{UnitEntry}
use Rattle.elab_rules.specs.declared.progress.Progress.{Progress}
use Rattle.elab_rules.specs.Copies.{numbers_from}
use Rattle.elab_rules.specs.Details.{HasOwn}
use Rattle.elab_rules.specs.Environments.{Environment}
use Rattle.elab_rules.specs.Standing.{AreOver, Grew, IsMadeBelow, IsSettled, KeepsNames, Mentions}
use Rattle.elab_rules.specs.States.{is_free as is_free_in}
use Rattle.elab_rules.specs.Views.{state_of}
use Rattle.elab_rules.specs.Wheres.{types_of}
use Rattle.elab_rules.proofs.Gone.{free_is}
use Rattle.elab_rules.proofs.KeptNames.{Keeps, keeps_same, keeps_through}
use Rattle.elab_rules.proofs.LaterNames.{get_taken, length_taken, over_resolved}

-- ---- names that are kept
pub keeps_itself : (p : Progress) → KeepsNames p p
keeps_itself p = keeps_same p.table.names

pub keeps_twice : (p q r : Progress) → KeepsNames p q → KeepsNames q r → KeepsNames p r
keeps_twice p q r = keeps_through p.table.names q.table.names r.table.names

module _ (names more : List TypeName) (keeps : Keeps names more) where
  takes_later : (n count : ℕ) → takes (slice_get names n) count ≡ true → takes (slice_get more n) count ≡ true
  takes_later n count = by_name (slice_get names n) refl
    where
      by_name : (o : Option TypeName) → slice_get names n ≡ o → takes o count ≡ true → takes (slice_get more n) count ≡ true
      by_name None is e = cc
      by_name (Some name) is e = let k = keeps n name is in ap (λ o. takes o count) k.1.0 ∙ ap (λ m. m == count) k.1.1.arity ∙ e

  own_later : (n : ℕ) → is_own (slice_get names n) ≡ true → is_own (slice_get more n) ≡ true
  own_later n = by_name (slice_get names n) refl
    where
      by_name : (o : Option TypeName) → slice_get names n ≡ o → is_own o ≡ true → is_own (slice_get more n) ≡ true
      by_name None is e = cc
      by_name (Some name) is e = let k = keeps n name is in ap is_own k.1.0 ∙ ap not k.1.1.external ∙ e

  pub table_keeps : TableKeeps names more
  table_keeps = record { arities = takes_later; own = own_later }

  pub over_later : (env : Environment) → AreOver names env → AreOver more env
  over_later env = All-weaker (IsOver names) (IsOver more) (still_over names more table_keeps) (types_of env)

-- ---- names that are mentioned
pub mentions_itself : (p : Progress) → Mentions p p
mentions_itself p = record { names = keeps_itself p; tracked = λ t. t; realizations = refl }

pub mentions_twice : (p q r : Progress) → Mentions p q → Mentions q r → Mentions p r
mentions_twice p q r h k = record { names = keeps_twice p q r h.names k.names; tracked = λ t. k.tracked (h.tracked t); realizations = k.realizations ∙ h.realizations }

pub mentions_grew : (base : ℕ) (p q : Progress) → Mentions p q → Grew base p q
mentions_grew base p q h = record { names = h.names; tracked = h.tracked; more = []; realizations = h.realizations ∙ sym (append-nil p.table.realizations); later = All-nil (λ (r : Realization). base ≤ r.name.0) }

-- ---- how many names there are
no_name : (xs : List TypeName) (n : ℕ) → n < length xs → slice_get xs n ≡ None → ⊥
no_name [] n l e = omega (arith, l)
no_name (x ∷ xs) zero l e = cc
no_name (x ∷ xs) (suc n) l e = no_name xs n (omega (arith, l)) e

-- where each name of a list stands in another one, that is no shorter
no_shorter : (names more : List TypeName) → ((n : ℕ) (name : TypeName) → slice_get names n ≡ Some name → (later : TypeName) × (slice_get more n ≡ Some later)) → length names ≤ length more
no_shorter names more each = by_case (nat_le (length names) (length more)) refl
  where
    -- the first name that wouldn't be there
    missing : (o : Option TypeName) → slice_get names (length more) ≡ o → length more < length names → length names ≤ length more
    missing None is l = absurd (no_name names (length more) l is)
    missing (Some name) is l = let k = each (length more) name is in omega (arith, slice_get_within more (length more) k.0 k.1)

    by_case : (b : Bool) → nat_le (length names) (length more) ≡ b → length names ≤ length more
    by_case true is = leb-true _ _ is
    by_case false is = missing (slice_get names (length more)) refl (leb-false _ _ is)

pub grows : (p q : Progress) → KeepsNames p q → length p.table.names ≤ length q.table.names
grows p q keeps = no_shorter p.table.names q.table.names (λ n name at. let k = keeps n name at in (k.0, k.1.0))

-- the first names stay the first
pub taken_keeps : (base : ℕ) (names more : List TypeName) → Keeps names more → Keeps (take base names) (take base more)
taken_keeps base names more keeps n name at =
    let l : n < base = omega (arith, slice_get_within (take base names) n name at, length_taken base names) in
    let k = keeps n name (sym (get_taken base names n l) ∙ at) in
    (k.0, (get_taken base more n l ∙ k.1.0, k.1.1))

pub early_over_later : (base : ℕ) (p q : Progress) (env : Environment) → KeepsNames p q → AreOver (take base p.table.names) env → AreOver (take base q.table.names) env
early_over_later base p q env keeps = over_later (take base p.table.names) (take base q.table.names) (taken_keeps base p.table.names q.table.names keeps) env

-- ---- realizations of later names
pub all_by : {A : Type 0} (P : A → Type 0) (xs ys : List A) → AllByRecursion P xs → AllByRecursion P ys → AllByRecursion P (xs ++ ys)
all_by P [] ys h k = k
all_by P (x ∷ xs) ys h k = (h.0, all_by P xs ys h.1 k)

-- what was realized later isn't among the early names
pub not_realized_later : (rs more : List Realization) (base n : ℕ) → n < base → All (λ r. base ≤ r.name.0) more → is_realized (rs ++ more) n ≡ is_realized rs n
not_realized_later [] [] base n l later = refl
not_realized_later [] (r ∷ more) base n l later =
    ap₂ ◌||◌ (ne_eqb n r.name.0 (λ e. omega (arith, l, e, All-head (λ (s : Realization). base ≤ s.name.0) r more later)))
    (not_realized_later [] more base n l (All-tail (λ (s : Realization). base ≤ s.name.0) r more later))
not_realized_later (s ∷ rs) more base n l later = ap (λ b. (n == s.name.0) || b) (not_realized_later rs more base n l later)

described_later : (p q : Progress) (n : ℕ) → KeepsNames p q → n < length p.table.names → is_described q.table.names n ≡ is_described p.table.names n
described_later p q n keeps within = ap (λ b. nat_le (length initial_names) n && b) (by_name (slice_get p.table.names n) refl)
  where
    by_name : (o : Option TypeName) → slice_get p.table.names n ≡ o → is_own (slice_get q.table.names n) ≡ is_own o
    by_name None is = absurd (no_name p.table.names n within is)
    by_name (Some name) is = let k = keeps n name is in ap is_own k.1.0 ∙ ap not k.1.1.external

-- an early name is free as before
pub free_stays : (base : ℕ) (p q : Progress) (n : ℕ) → Grew base p q → n < base → n < length p.table.names → is_free_in (state_of q) n ≡ is_free_in (state_of p) n
free_stays base p q n grew early within =
    free_is q n
    ∙ ap₂ (λ b c. b && not c) (described_later p q n grew.names within) (ap (λ rs. is_realized rs n) grew.realizations ∙ not_realized_later p.table.realizations grew.more base n early grew.later)
    ∙ sym (free_is p n)

filters_agree : (f g : ℕ → Bool) (end from count : ℕ) → ((n : ℕ) → n < end → f n ≡ g n) → from + count ≤ end → filter f (numbers_from from count) ≡ filter g (numbers_from from count)
filters_agree f g end from zero same l = refl
filters_agree f g end from (suc count) same l =
    ap₂ (λ b rest. if b then from ∷ rest else rest) (same from (omega (arith, l))) (filters_agree f g end (from + 1) count same (omega (arith, l)))

-- the names of a unit that was made before stay its own
pub own_stays : (base : ℕ) (p q : Progress) (detail : Detail) (unit : UnitEntry) → Grew base p q → IsMadeBelow base unit → HasOwn (state_of p) detail unit → HasOwn (state_of q) detail unit
own_stays base p q detail unit grew below has = record {
  numbers = has.numbers ∙ sym (filters_agree (is_free_in (state_of q)) (is_free_in (state_of p)) (unit.first_name + unit.name_count) unit.first_name unit.name_count
      (λ n l. free_stays base p q n grew (omega (arith, l, below)) (omega (arith, l, has.made))) (omega arith));
  made = omega (arith, has.made, grows p q grew.names);
}

-- ---- what was settled stays so
pub settled_stays : (base : ℕ) (p q : Progress) (env : Environment) → Grew base p q → AreOver (take base p.table.names) env → IsSettled p.table env → IsSettled q.table env
settled_stays base p q env grew early h = record {
  over = over_later p.table.names q.table.names grew.names env h.over;
  resolved = subst (λ rs. All (IsResolved rs) (types_of env)) (sym grew.realizations) (both_resolved (types_of env) early h.resolved);
  is_closed = h.is_closed;
}
  where
    both_resolved : (ts : List Ty) → All (IsOver (take base p.table.names)) ts → All (IsResolved p.table.realizations) ts → All (IsResolved (p.table.realizations ++ grew.more)) ts
    both_resolved [] o r = All-nil (IsResolved (p.table.realizations ++ grew.more))
    both_resolved (t ∷ ts) o r =
        All-cons (IsResolved (p.table.realizations ++ grew.more)) t ts
        (all_by (λ (s : Realization). Avoids s.name.0 t) p.table.realizations grew.more (All-head (IsResolved p.table.realizations) t ts r)
        (over_resolved base (take base p.table.names) grew.more t (length_taken base p.table.names) grew.later (All-head (IsOver (take base p.table.names)) t ts o)))
        (both_resolved ts (All-tail (IsOver (take base p.table.names)) t ts o) (All-tail (IsResolved p.table.realizations) t ts r))

-- ---- names that are realized one after the other
pub grew_itself : (base : ℕ) (p : Progress) → Grew base p p
grew_itself base p = mentions_grew base p p (mentions_itself p)

pub grew_twice : (base : ℕ) (p q r : Progress) → Grew base p q → Grew base q r → Grew base p r
grew_twice base p q r h k = record {
  names = keeps_twice p q r h.names k.names;
  tracked = λ t. k.tracked (h.tracked t);
  more = h.more ++ k.more;
  realizations = k.realizations ∙ ap (λ rs. rs ++ k.more) h.realizations ∙ append_assoc p.table.realizations h.more k.more;
  later = All-append (λ r. base ≤ r.name.0) h.more k.more h.later k.later;
}

-- realized from a later number on is realized from an earlier one on
pub grew_from : (base later : ℕ) (p q : Progress) → base ≤ later → Grew later p q → Grew base p q
grew_from base later p q l h = record {
  names = h.names;
  tracked = h.tracked;
  more = h.more;
  realizations = h.realizations;
  later = All-weaker (λ (r : Realization). later ≤ r.name.0) (λ r. base ≤ r.name.0) (λ r m. omega (arith, l, m)) h.more h.later;
}
