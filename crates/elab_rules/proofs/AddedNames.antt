-- Names that are added to a table, and the numbers of names from elsewhere.
use Rattle.std.proofs.Common.{◌≡◌, ℕ, suc, ◌+◌, ◌<◌, ◌==◌, ◌&&◌, ◌||◌, Bool, true, false, true≢false, not, is_some, min, bytes_eq, nat_le, if◌then◌else◌, List, [], ◌∷◌, ◌++◌, length, map, slice_get, unwrap_or, Option, Some, None, Result, Ok, Err, OnOk, refl, sym, ap, ap₂, ◌∙◌, subst, arith}
use Rattle.std.specs.Option.{option_map}
use Rattle.std.proofs.lemmas.Bool.{and_from, and_parts, eq-eqb, eqb-true}
use Rattle.std.proofs.lemmas.Cmp.{nat_list_eq_equiv}
use Rattle.std.proofs.lemmas.List.{length_push}
use Rattle.std.proofs.lemmas.Option.{slice_get_within}
use Rattle.type_core.specs.declared.names.Equality.{Equality}
use Rattle.type_core.specs.declared.names.TypeName.{TypeName}
use Rattle.type_core.specs.declared.ty.NameId.{NameId}
use Rattle.type_core.specs.InitialNames.{initial_names}
use Rattle.type_core.specs.Types.{takes}
use Rattle.elab_env.specs.declared.realization.Realization.{Realization}
use Rattle.elab_env.specs.Names.{described, external, external_number, is_described, is_external, is_own, or_added, with_external}
use Rattle.elab_env.specs.Sound.{AreRealizations, IsSound}
use Rattle.elab_env.specs.Table.{Table, is_realized}
use Rattle.elab_env.proofs.Kept.{described_within}
use Rattle.elab_rules.specs.declared.progress.Progress.{Progress}
use Rattle.elab_rules.specs.declared.refusal.ElabRefusal.{ElabRefusal}
use Rattle.elab_rules.specs.declared.refusal.ElabRefusal.TheVariants.{Refused, NoMemory}
use Rattle.elab_rules.specs.declared.refusal.Why.TheVariants.{LibraryTooLarge}
use Rattle.elab_rules.specs.Copies.{numbers_from}
use Rattle.elab_rules.specs.Files.{is_first_part}
use Rattle.elab_rules.specs.LookUps.{external_named}
use Rattle.elab_rules.specs.Outcome.{Agrees, Outcome}
use Rattle.elab_types.specs.Outcome.{and_then, checked, failed}
use Rattle.elab_rules.specs.Standing.{Mentions}
use Rattle.elab_rules.specs.States.{State, weighed, with_name}
use Rattle.elab_rules.specs.Views.{GivesNumber, gone_of, state_of}
use Rattle.elab_types.specs.Places.{place_at}
use Rattle.elab_rules.proofs.Gone.{flags_more}
use Rattle.elab_rules.proofs.KeptNames.{Keeps, keeps_added, keeps_same}
use Rattle.elab_rules.proofs.PairedOutcomes.{first_same, second_same}
use Rattle.elab_rules.proofs.Tracked.{AreAlike, alike_itself, described_alike, tracked_alike, tracked_external}

-- ---- names that aren't gone
-- a name that wasn't described isn't realized
pub not_realized : (names : List TypeName) (rs : List Realization) (n : ℕ) → AreRealizations names rs → is_described names n ≡ false → is_realized rs n ≡ false
not_realized names [] n h undescribed = refl
not_realized names (r ∷ rs) n h undescribed = by_case (n == r.name.0) refl (not_realized names rs n h.1 undescribed)
  where
    by_case : (b : Bool) → (n == r.name.0) ≡ b → is_realized rs n ≡ false → (b || is_realized rs n) ≡ false
    by_case true is rest = absurd (true≢false (sym (ap (is_described names) (eqb-true n r.name.0 is) ∙ h.0.described) ∙ undescribed))
    by_case false is rest = rest

-- no name that isn't there was described
not_there : (names : List TypeName) (n : ℕ) → length names ≡ n → is_described names n ≡ false
not_there names n e = by_case (is_described names n) refl
  where
    by_case : (b : Bool) → is_described names n ≡ b → b ≡ false
    by_case true is = absurd (let l : n < length names = described_within names n is in omega (arith, l, e))
    by_case false is = refl

-- one name more isn't gone
pub gone_more : (old new : Table) (name : TypeName) → IsSound old → new.names ≡ old.names ++ name ∷ [] → new.realizations ≡ old.realizations → gone_of new ≡ gone_of old ++ false ∷ []
gone_more old new name sound names same =
    ap₂ (λ rs (xs : List TypeName). map (is_realized rs) (numbers_from 0 (length xs))) same names
    ∙ ap (λ n. map (is_realized old.realizations) (numbers_from 0 n)) (let e : length (old.names ++ name ∷ []) ≡ suc (length old.names) = omega (arith, length_push old.names name) in e)
    ∙ flags_more old.realizations (length old.names) (not_realized old.names old.realizations (length old.names) sound.realizations (not_there old.names (length old.names) refl))

-- ---- names from elsewhere
found_later : (o : Option ℕ) (n : ℕ) → option_map suc o ≡ Some n → (m : ℕ) × ((o ≡ Some m) × (n ≡ suc m))
found_later None n e = cc
found_later (Some m) n e = (m, (refl, cc))

-- the name of this number is there
number_is : (path : List ℕ) (arity : ℕ) (names : List TypeName) (n : ℕ) → external_number path arity names ≡ Some n → (name : TypeName) × ((slice_get names n ≡ Some name) × (is_external path arity name ≡ true))
number_is path arity [] n e = cc
number_is path arity (name ∷ names) n e = by_case (λ m. number_is path arity names m) (is_external path arity name) refl e
  where
    by_case : ((m : ℕ) → external_number path arity names ≡ Some m → (other : TypeName) × ((slice_get names m ≡ Some other) × (is_external path arity other ≡ true)))
        → (b : Bool) → is_external path arity name ≡ b → (if b then Some 0 else option_map suc (external_number path arity names)) ≡ Some n
        → (other : TypeName) × ((slice_get (name ∷ names) n ≡ Some other) × (is_external path arity other ≡ true))
    by_case later true is found = (name, (ap (slice_get (name ∷ names)) (let zero_is : n ≡ 0 = cc in zero_is), is))
    by_case later false is found =
        let m = found_later (external_number path arity names) n found in
        let other = later m.0 m.1.0 in
        (other.0, (ap (slice_get (name ∷ names)) m.1.1 ∙ other.1.0, other.1.1))

external_takes : (path : List ℕ) (arity : ℕ) (name : TypeName) → is_external path arity name ≡ true → (name.arity == arity) ≡ true
external_takes path arity name is =
    eq-eqb name.arity arity (sym (eqb-true arity name.arity (and_parts (arity == name.arity) (bytes_eq path name.path) (and_parts name.external ((arity == name.arity) && bytes_eq path name.path) is).1).0))

external_undescribed : (path : List ℕ) (arity : ℕ) (names : List TypeName) (n : ℕ) (name : TypeName) → slice_get names n ≡ Some name → is_external path arity name ≡ true → is_described names n ≡ false
external_undescribed path arity names n name at is =
    ap (λ o. nat_le (length initial_names) n && is_own o) at
    ∙ ap (λ b. nat_le (length initial_names) n && not b) (and_parts name.external ((arity == name.arity) && bytes_eq path name.path) is).0
    ∙ never (nat_le (length initial_names) n)
  where
    never : (b : Bool) → (b && false) ≡ false
    never true = refl
    never false = refl

-- the name added last
last_get : (names : List TypeName) (name : TypeName) → slice_get (names ++ name ∷ []) (length names) ≡ Some name
last_get [] name = refl
last_get (first ∷ names) name = last_get names name

new_is : (path : List ℕ) (arity : ℕ) → is_external path arity (external path arity) ≡ true
new_is path arity = and_from (arity == arity) _ (eq-eqb arity arity refl) (nat_list_eq_equiv.refl path)

-- what is known of a number that a name from elsewhere got
pub record IsExternal (arity n : ℕ) (before after : List TypeName) : Type 0 where
  pub takes : takes (slice_get after n) arity ≡ true
  pub undescribed : is_described before n ≡ false

pub named_is : (path : List ℕ) (arity token n : ℕ) (s t : State) → external_named path arity token (external_number path arity s.names) s ≡ Ok (n, t) → IsExternal arity n s.names t.names
named_is path arity token n s t = by_case (external_number path arity s.names) refl
  where
    known : (m : ℕ) → external_number path arity s.names ≡ Some m → m ≡ n → s ≡ t → IsExternal arity n s.names t.names
    known m at same state =
        let found = number_is path arity s.names m at in
        subst (λ k. IsExternal arity k s.names t.names) same
        (subst (λ (u : State). IsExternal arity m s.names u.names) state
        (record { takes = ap (λ o. takes o arity) found.1.0 ∙ external_takes path arity found.0 found.1.1; undescribed = external_undescribed path arity s.names m found.0 found.1.0 found.1.1 }))

    added : (b : Bool) → and_then {A = State} {B = ℕ × State} (checked b LibraryTooLarge token (Ok (let u : State = record { names = s.names; gone = s.gone; weight = s.weight + (1 + length path) } in u)))
        (λ after. Ok (length s.names, (let u : State = record { names = s.names ++ external path arity ∷ []; gone = s.gone ++ false ∷ []; weight = after.weight } in u))) ≡ Ok (n, t) → IsExternal arity n s.names t.names
    added false e = cc
    added true e =
        let u : State = record { names = s.names ++ external path arity ∷ []; gone = s.gone ++ false ∷ []; weight = s.weight + (1 + length path) } in
        let same = first_same (length s.names) n u t e in
        let state = second_same (length s.names) n u t e in
        subst (λ k. IsExternal arity k s.names t.names) same
        (subst (λ (v : State). IsExternal arity (length s.names) s.names v.names) state
        (record {
          takes = ap (λ o. takes o arity) (last_get s.names (external path arity)) ∙ external_takes path arity (external path arity) (new_is path arity);
          undescribed = not_there s.names (length s.names) refl;
        }))

    by_case : (o : Option ℕ) → external_number path arity s.names ≡ o → external_named path arity token o s ≡ Ok (n, t) → IsExternal arity n s.names t.names
    by_case (Some m) at e = known m at (first_same m n s t e) (second_same m n s t e)
    by_case None at e = added (nat_le (s.weight + (1 + length path)) 8000000) e

-- ---- a name from elsewhere more
pub state_parts : {ns ms : List TypeName} {gs hs : List Bool} {v w : ℕ} → ns ≡ ms → gs ≡ hs → v ≡ w → (let a : State = record { names = ns; gone = gs; weight = v } in a) ≡ record { names = ms; gone = hs; weight = w }
state_parts a b c = cc

-- the state with it, before it is weighed
abbrev pub with_external_name : List ℕ → ℕ → State → State
with_external_name path arity s = record { names = s.names ++ external path arity ∷ []; gone = s.gone ++ false ∷ []; weight = s.weight }

pub state_more : (p q : Progress) (path : List ℕ) (arity : ℕ) → IsSound p.table → q.table.names ≡ p.table.names ++ external path arity ∷ [] → q.table.realizations ≡ p.table.realizations → q.weight ≡ p.weight
    → state_of q ≡ with_external_name path arity (state_of p)
state_more p q path arity sound names realizations weight = state_parts names (gone_more p.table q.table (external path arity) sound names realizations) weight

module _ (path : List ℕ) (arity token : ℕ) (s : State) where
  pub named_newly : (n : ℕ) (mid after : State) → external_number path arity s.names ≡ None → mid ≡ with_external_name path arity s → n ≡ length s.names → weighed (1 + length path) token mid ≡ Ok after
      → external_named path arity token (external_number path arity s.names) s ≡ Ok (n, after)
  named_newly n mid after none is number ok =
      ap (λ o. external_named path arity token o s) none
      ∙ by_case (nat_le (s.weight + (1 + length path)) 8000000) (sym (ap (weighed (1 + length path) token) is) ∙ ok)
      ∙ ap (λ k. let r : Outcome (ℕ × State) = Ok (k, after) in r) (sym number)
    where
      by_case : (b : Bool) → checked b LibraryTooLarge token (Ok (let u : State = record { names = s.names ++ external path arity ∷ []; gone = s.gone ++ false ∷ []; weight = s.weight + (1 + length path) } in u)) ≡ Ok after
          → and_then {A = State} {B = ℕ × State} (checked b LibraryTooLarge token (Ok (let u : State = record { names = s.names; gone = s.gone; weight = s.weight + (1 + length path) } in u)))
          (λ heavier. Ok (length s.names, (let u : State = record { names = s.names ++ external path arity ∷ []; gone = s.gone ++ false ∷ []; weight = heavier.weight } in u))) ≡ Ok (length s.names, after)
      by_case true e = ap (λ (u : State). let r : Outcome (ℕ × State) = Ok (length s.names, u) in r) (let u : State = record { names = s.names ++ external path arity ∷ []; gone = s.gone ++ false ∷ []; weight = s.weight + (1 + length path) } in let same : u ≡ after = cc in same)
      by_case false e = cc

  pub refused_newly : (e : ElabRefusal) (mid after last : State) → external_number path arity s.names ≡ None → mid ≡ with_external_name path arity s → Agrees (weighed (1 + length path) token mid) (Err e) after
      → GivesNumber (external_named path arity token (external_number path arity s.names) s) (Err e) last
  refused_newly NoMemory mid after last none is agrees = tt
  refused_newly (Refused why place) mid after last none is agrees =
      ap (λ o. external_named path arity token o s) none
      ∙ by_case (nat_le (s.weight + (1 + length path)) 8000000) (sym (ap (weighed (1 + length path) token) is) ∙ agrees)
    where
      by_case : (b : Bool) → checked b LibraryTooLarge token (Ok (let u : State = record { names = s.names ++ external path arity ∷ []; gone = s.gone ++ false ∷ []; weight = s.weight + (1 + length path) } in u)) ≡ failed why place
          → and_then {A = State} {B = ℕ × State} (checked b LibraryTooLarge token (Ok (let u : State = record { names = s.names; gone = s.gone; weight = s.weight + (1 + length path) } in u)))
          (λ heavier. Ok (length s.names, (let u : State = record { names = s.names ++ external path arity ∷ []; gone = s.gone ++ false ∷ []; weight = heavier.weight } in u))) ≡ failed why place
      by_case true e = cc
      by_case false e = let first : Outcome State = failed LibraryTooLarge token in cc

-- whether a number is that of a name more tells whether there was none
pub new_number : (path : List ℕ) (arity n : ℕ) (names : List TypeName) → n ≡ unwrap_or (external_number path arity names) (length names) → n ≡ length names → external_number path arity names ≡ None
new_number path arity n names is last = by_case (external_number path arity names) refl is
  where
    by_case : (o : Option ℕ) → external_number path arity names ≡ o → n ≡ unwrap_or o (length names) → o ≡ None
    by_case None at e = refl
    by_case (Some m) at e = let found = number_is path arity names m at in absurd (let l = slice_get_within names m found.0 found.1.0 in omega (arith, l, e, last))

pub known_number : (path : List ℕ) (arity n : ℕ) (names : List TypeName) → n ≡ unwrap_or (external_number path arity names) (length names) → (n ≡ length names → ⊥) → external_number path arity names ≡ Some n
known_number path arity n names is other = by_case (external_number path arity names) is
  where
    by_case : (o : Option ℕ) → n ≡ unwrap_or o (length names) → o ≡ Some n
    by_case None e = absurd (other e)
    by_case (Some m) e = ap (λ k. Some k) (sym e)

-- ---- a state with a name more
-- what follows from two facts where there is a value
pub both_ok : {T E P Q R : Type 0} (r : Result T E) → (P → Q → R) → OnOk r P → OnOk r Q → OnOk r R
both_ok (Ok t) f p q = f p q
both_ok (Err e) f p q = tt

pub described_more : (p q : Progress) (path : List ℕ) (arity : ℕ) (equality : Equality) → IsSound p.table → q.table.names ≡ p.table.names ++ described path arity equality ∷ [] → q.table.realizations ≡ p.table.realizations → q.weight ≡ p.weight
    → state_of q ≡ with_name path arity equality (state_of p)
described_more p q path arity equality sound names realizations weight = state_parts names (gone_more p.table q.table (described path arity equality) sound names realizations) weight

pub mentions_described : (p q : Progress) (path : List ℕ) (arity : ℕ) (equality : Equality) → q.table.names ≡ p.table.names ++ described path arity equality ∷ [] → q.table.realizations ≡ p.table.realizations
    → q.firsts ≡ p.firsts → q.external_weight ≡ p.external_weight → Mentions p q
mentions_described p q path arity equality names realizations firsts weight = record {
  names = subst (Keeps p.table.names) (sym names) (keeps_added p.table.names (described path arity equality ∷ []));
  tracked = tracked_alike p q (subst (AreAlike p.table.names) (sym names) (described_alike path arity equality p.table.names)) firsts weight;
  realizations = realizations;
}

pub mentions_external : (p q : Progress) (path : List ℕ) (arity : ℕ) → q.table.names ≡ p.table.names ++ external path arity ∷ [] → q.table.realizations ≡ p.table.realizations
    → ((id : List ℕ) → is_some (place_at q.firsts id) ≡ (is_some (place_at p.firsts id) || is_first_part id path))
    → q.external_weight ≡ min (p.external_weight + min (1 + length path) 0xffff_ffff_ffff_ffff) 0xffff_ffff_ffff_ffff → Mentions p q
mentions_external p q path arity names realizations firsts weight = record {
  names = subst (Keeps p.table.names) (sym names) (keeps_added p.table.names (external path arity ∷ []));
  tracked = tracked_external p q path arity names firsts weight;
  realizations = realizations;
}

pub mentions_same : (p q : Progress) → q.table.names ≡ p.table.names → q.table.realizations ≡ p.table.realizations → q.firsts ≡ p.firsts → q.external_weight ≡ p.external_weight → Mentions p q
mentions_same p q names realizations firsts weight = record {
  names = subst (Keeps p.table.names) (sym names) (keeps_same p.table.names);
  tracked = tracked_alike p q (subst (AreAlike p.table.names) (sym names) (alike_itself p.table.names)) firsts weight;
  realizations = realizations;
}

-- ---- a name from elsewhere, as the code looks for it
module _ (path text : List ℕ) (arity n count : ℕ) (names more : List TypeName) (same : text ≡ path) (number : n ≡ unwrap_or (external_number text arity names) (length names)) (counted : count ≡ length names)
    (is : more ≡ with_external text arity names) where
  numbered : n ≡ unwrap_or (external_number path arity names) (length names)
  numbered = number ∙ ap (λ t. unwrap_or (external_number t arity names) (length names)) same

  with_it : more ≡ with_external path arity names
  with_it = is ∙ ap (λ t. with_external t arity names) same

  pub none_before : n ≡ count → external_number path arity names ≡ None
  none_before last = new_number path arity n names numbered (last ∙ counted)

  pub name_more : n ≡ count → more ≡ names ++ external path arity ∷ []
  name_more last = with_it ∙ ap (or_added names (external path arity)) (none_before last)

  pub no_name_more : (n ≡ count → ⊥) → more ≡ names
  no_name_more other = with_it ∙ ap (or_added names (external path arity)) (known_number path arity n names numbered (λ last. other (last ∙ sym counted)))

module _ (p mid : Progress) (path text : List ℕ) (arity token n count : ℕ) (sound : IsSound p.table) (same : text ≡ path) (number : n ≡ unwrap_or (external_number text arity p.table.names) (length p.table.names))
    (counted : count ≡ length p.table.names) (names : mid.table.names ≡ with_external text arity p.table.names) (realizations : mid.table.realizations ≡ p.table.realizations) (weight : mid.weight ≡ p.weight) (last : n ≡ count) where
  none_yet : external_number path arity p.table.names ≡ None
  none_yet = none_before path text arity n count p.table.names mid.table.names same number counted names last

  named : mid.table.names ≡ p.table.names ++ external path arity ∷ []
  named = name_more path text arity n count p.table.names mid.table.names same number counted names last

  pub external_refused : (refusal : ElabRefusal) (result : Result NameId ElabRefusal) (after end : State) → Agrees (weighed (1 + length path) token (state_of mid)) (Err refusal) after → result ≡ Err refusal
      → GivesNumber (external_named path arity token (external_number path arity p.table.names) (state_of p)) result end
  external_refused refusal result after end agrees handed =
      subst (λ r. GivesNumber (external_named path arity token (external_number path arity p.table.names) (state_of p)) r end) (sym handed)
      (refused_newly path arity token (state_of p) refusal (state_of mid) after end none_yet (state_more p mid path arity sound named realizations weight) agrees)

  pub external_given : (after : State) → weighed (1 + length path) token (state_of mid) ≡ Ok after → external_named path arity token (external_number path arity p.table.names) (state_of p) ≡ Ok (n, after)
  external_given after ok = named_newly path arity token (state_of p) n (state_of mid) after none_yet (state_more p mid path arity sound named realizations weight) (last ∙ counted) ok

  pub external_mentioned : (q : Progress) → q.table ≡ mid.table → ((id : List ℕ) → is_some (place_at q.firsts id) ≡ (is_some (place_at p.firsts id) || is_first_part id path))
      → q.external_weight ≡ min (p.external_weight + min (1 + length path) 0xffff_ffff_ffff_ffff) 0xffff_ffff_ffff_ffff → Mentions p q
  external_mentioned q table firsts external = mentions_external p q path arity (ap (λ (t : Table). t.names) table ∙ named) (ap (λ (t : Table). t.realizations) table ∙ realizations) firsts external
