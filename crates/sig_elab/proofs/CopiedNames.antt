-- Copies of names, one after the other, and signatures that are copied.
use Rattle.std.proofs.Common.{◌≡◌, ℕ, suc, ◌+◌, ◌<◌, Bool, true, false, nat_le, List, [], ◌∷◌, ◌++◌, drop, drop-cons, length, map, slice_get, slice_index_or, Option, Some, None, IsTrue, Ok, refl, sym, ap, ap₂, ◌∙◌, subst, add-one, append_assoc, arith}
use Rattle.std.specs.List.{All}
use Rattle.std.specs.Option.{option_to_list}
use Rattle.std.proofs.lemmas.Bool.{and_parts, not-true}
use Rattle.std.proofs.lemmas.List.{length-append}
use Rattle.std.proofs.lemmas.List.Elements.{All-drop, All-head, All-tail}
use Rattle.type_core.specs.declared.names.Equality.{Equality}
use Rattle.type_core.specs.declared.names.TypeName.{TypeName}
use Rattle.type_core.specs.InitialNames.{initial_names}
use Rattle.elab_env.specs.Names.{described, is_described, is_own}
use Rattle.elab_env.specs.Sound.{IsSound}
use Rattle.elab_env.specs.Table.{is_realized}
use Rattle.elab_env.proofs.Kept.{described_within}
use Rattle.elab_rules.specs.declared.entry.UnitEntry.{UnitEntry}
use Rattle.elab_rules.specs.declared.progress.Progress.{Progress}
use Rattle.elab_rules.specs.declared.refusal.Why.TheVariants.{LibraryTooLarge}
use Rattle.elab_rules.specs.Bodies.{Site}
use Rattle.elab_rules.specs.Copies.{copied, environment_weight, name_copied, names_at, numbers_from, own_names, renumbered, with_copies, with_numbers}
use Rattle.elab_rules.specs.Environments.{Environment}
use Rattle.elab_types.specs.Outcome.{and_then, checked}
use Rattle.elab_rules.specs.Replacing.{environment_with}
use Rattle.elab_rules.specs.Standing.{Mentions}
use Rattle.elab_rules.specs.States.{State, is_free, weighed}
use Rattle.elab_rules.specs.Views.{state_of}
use Rattle.elab_rules.proofs.Appended.{get_appended}
use Rattle.elab_rules.proofs.CopiedArities.{kept_within}
use Rattle.elab_rules.proofs.Gone.{flags_more}
use Rattle.elab_rules.proofs.KeptNames.{Keeps, keeps_added}
use Rattle.sig_elab.proofs.KeptNumbers.{not_realized}
use Rattle.elab_rules.proofs.Tracked.{AreAlike, described_alike, tracked_alike}

-- ---- names at the end
at_appended : (names more : List TypeName) (ns : List ℕ) → All (λ n. n < length names) ns → names_at (names ++ more) ns ≡ names_at names ns
at_appended names more [] within = refl
at_appended names more (n ∷ ns) within =
    ap₂ (λ o rest. option_to_list o ++ rest) (get_appended names more n (All-head (λ m. m < length names) n ns within))
    (at_appended names more ns (All-tail (λ m. m < length names) n ns within))

one_and_others : (f : TypeName → TypeName) (o : Option TypeName) (names : List TypeName) → map f (option_to_list o ++ []) ++ map f names ≡ map f (option_to_list o ++ names)
one_and_others f None names = refl
one_and_others f (Some name) names = refl

-- ---- one copy more
module _ (path : List ℕ) (count : ℕ) where
  pub copied_on : (n : ℕ) (ns : List ℕ) (s : State) → All (λ m. m < length s.names) ns → with_copies path count ns (with_copies path count (n ∷ []) s) ≡ with_copies path count (n ∷ ns) s
  copied_on n ns s within =
      let f : TypeName → TypeName = name_copied path count in
      let first : List TypeName = map f (names_at s.names (n ∷ [])) in
      ap₂ (λ names gone. let t : State = record { names = names; gone = gone; weight = s.weight } in t)
      (ap (λ names. (s.names ++ first) ++ map f names) (at_appended s.names first ns within)
      ∙ append_assoc s.names first (map f (names_at s.names ns))
      ∙ ap (λ names. s.names ++ names) (one_and_others f (slice_get s.names n) (names_at s.names ns)))
      (append_assoc s.gone (false ∷ []) (map (λ m. false) ns))

  -- the copies from a place on
  pub copies_turn : (ns : List ℕ) (i : ℕ) (s t whole : State) → i < length ns → All (λ m. m < length s.names) ns → t ≡ with_copies path count (slice_index_or ns i 0 ∷ []) s
      → with_copies path count (drop i ns) s ≡ whole → with_copies path count (drop (i + 1) ns) t ≡ whole
  copies_turn ns i s t whole l within is turns =
      ap (with_copies path count (drop (i + 1) ns)) is
      ∙ copied_on (slice_index_or ns i 0) (drop (i + 1) ns) s (All-drop (λ m. m < length s.names) (i + 1) ns within)
      ∙ ap (λ ms. with_copies path count ms s) (ap (λ k. slice_index_or ns i 0 ∷ drop k ns) (add-one i) ∙ sym (drop-cons ns i 0 l))
      ∙ turns

  -- a name that was described has no copy from elsewhere
  own_copied : (name : TypeName) (moved : List ℕ) → name.external ≡ false → moved ≡ path ++ drop count name.path → described moved name.arity name.equality ≡ name_copied path count name
  own_copied name moved own is = cc

  pub name_is_copied : (p q : Progress) (n : ℕ) (name : TypeName) (moved : List ℕ) → IsSound p.table → slice_get p.table.names n ≡ Some name → IsTrue (is_described p.table.names n) → moved ≡ path ++ drop count name.path
      → q.table.names ≡ p.table.names ++ described moved name.arity name.equality ∷ [] → q.table.realizations ≡ p.table.realizations → q.weight ≡ p.weight → state_of q ≡ with_copies path count (n ∷ []) (state_of p)
  name_is_copied p q n name moved sound at is m names realizations weight =
      let f : TypeName → TypeName = name_copied path count in
      let own : is_own (Some name) ≡ true = ap is_own (sym at) ∙ (and_parts (nat_le (length initial_names) n) _ is).1 in
      let copy = own_copied name moved (not-true name.external own) m in
      let longer : length q.table.names ≡ suc (length p.table.names) = ap length names ∙ length-append p.table.names (described moved name.arity name.equality ∷ []) ∙ (omega arith) in
      three (names ∙ ap (λ x. p.table.names ++ x ∷ []) copy ∙ ap (λ o. p.table.names ++ map f (option_to_list o ++ [])) (sym at))
      (ap₂ (λ rs k. map (is_realized rs) (numbers_from 0 k)) realizations longer
      ∙ flags_more p.table.realizations (length p.table.names) (not_realized p.table.names p.table.realizations (length p.table.names) sound.realizations (past p.table.names)))
      weight
    where
      past : (xs : List TypeName) → is_described xs (length xs) ≡ false
      past xs = by_case (is_described xs (length xs)) refl
        where
          by_case : (b : Bool) → is_described xs (length xs) ≡ b → b ≡ false
          by_case true is = let l = described_within xs (length xs) is in absurd (omega (arith, l))
          by_case false is = refl

      three : {xs ys : List TypeName} {gs hs : List Bool} {a b : ℕ} → xs ≡ ys → gs ≡ hs → a ≡ b
          → (let t : State = record { names = xs; gone = gs; weight = a } in t) ≡ (let u : State = record { names = ys; gone = hs; weight = b } in u)
      three e g w = cc

-- names stay as they were, and what is kept of those from elsewhere
pub described_mentions : (p q : Progress) (path : List ℕ) (arity : ℕ) (equality : Equality) → q.table.names ≡ p.table.names ++ described path arity equality ∷ [] → q.table.realizations ≡ p.table.realizations → q.firsts ≡ p.firsts → q.external_weight ≡ p.external_weight → Mentions p q
described_mentions p q path arity equality names realizations firsts external = record {
  names = subst (Keeps p.table.names) (sym names) (keeps_added p.table.names (described path arity equality ∷ []));
  tracked = tracked_alike p q (subst (AreAlike p.table.names) (sym names) (described_alike path arity equality p.table.names)) firsts external;
  realizations = realizations;
}

-- ---- a signature
-- its own names are described ones
pub own_described : (unit : UnitEntry) (s : State) → All (λ n. IsTrue (is_described s.names n)) (own_names unit s)
own_described unit s = kept_within (is_free s) (λ n. IsTrue (is_described s.names n)) (λ n free. (and_parts (is_described s.names n) _ free).0) (numbers_from unit.first_name unit.name_count)

module _ (amount token : ℕ) (path : List ℕ) (count : ℕ) (own : List ℕ) (s : State) where
  abbrev heavier : State → State
  heavier t = record { names = t.names; gone = t.gone; weight = t.weight + amount }

  copies_weighed : (after : State) → weighed amount token s ≡ Ok after → weighed amount token (with_copies path count own s) ≡ Ok (with_copies path count own after)
  copies_weighed after = by_case (nat_le (s.weight + amount) 8000000)
    where
      by_case : (b : Bool) → checked b LibraryTooLarge token (Ok (heavier s)) ≡ Ok after → checked b LibraryTooLarge token (Ok (heavier (with_copies path count own s))) ≡ Ok (with_copies path count own after)
      by_case true e = ap (λ t. Ok (with_copies path count own t)) (let same : heavier s ≡ after = cc in same)
      by_case false e = cc

module _ (unit : UnitEntry) (token : ℕ) (site : Site) (s : State) where
  abbrev copies_of : State → Environment × State
  copies_of after = (environment_with (with_numbers (renumbered (own_names unit s) (length s.names))) unit.entries, after)

  pub signature_copied : (own : List ℕ) (after t : State) → own ≡ own_names unit s → weighed (environment_weight site.path unit.entries) token s ≡ Ok after → t ≡ with_copies site.path (length unit.id) own after
      → copied unit token site s ≡ Ok (environment_with (with_numbers (renumbered own (length s.names))) unit.entries, t)
  signature_copied own after t numbers e is =
      ap (λ o. and_then o (λ after. Ok (copies_of after))) (copies_weighed (environment_weight site.path unit.entries) token site.path (length unit.id) (own_names unit s) s after e)
      ∙ ap (λ ns. Ok (environment_with (with_numbers (renumbered ns (length s.names))) unit.entries, with_copies site.path (length unit.id) ns after)) (sym numbers)
      ∙ ap (λ u. Ok (environment_with (with_numbers (renumbered own (length s.names))) unit.entries, u)) (sym is)
