-- Each file that is accepted leaves a sound basis.
use Rattle.std.proofs.Common.{◌≡◌, ◌≢◌, ℕ, zero, suc, ◌+◌, ◌-◌, ◌≤◌, ◌&&◌, ◌||◌, Bool, true, false, true≢false, not, bytes_eq, nat_le, List, [], ◌∷◌, ◌++◌, drop, length, map, slice_get, slice_index_or, take, append_assoc, append-nil, Ok, refl, sym, ap, ap₂, ◌∙◌, subst, arith}
use Rattle.std.proofs.lemmas.Bool.{and_from, and_parts, leb-true, not-true}
use Rattle.std.proofs.lemmas.List.{append_cancel_left, length-append, length-map, map-append}
use Rattle.std.proofs.lemmas.List.Elements.{All-append, All-cons, All-head, All-map, All-nil, All-push, All-tail, All-weaker}
use Rattle.std.proofs.lemmas.Slice.Eq.{bytes_eq-Decides}
use Rattle.std.proofs.Math.Seq.{drop-append_seam}
use Rattle.std.specs.List.{All}
use Rattle.sig_parser.specs.declared.tree.Bind.{Bind}
use Rattle.sig_parser.specs.declared.tree.SourceFile.{SourceFile}
use Rattle.sig_parser.specs.declared.tree.TopDec.{TopDec}
use Rattle.sig_parser.specs.declared.tree.TopDec.TheVariants.{Signature as signature, Structure as structure}
use Rattle.type_core.specs.declared.library.UnitKind.{UnitKind}
use Rattle.type_core.specs.declared.library.UnitKind.TheVariants.{Sig, Str}
use Rattle.type_core.specs.declared.names.TypeName.{TypeName}
use Rattle.type_core.specs.InitialNames.{initial_names}
use Rattle.type_core.specs.Types.{takes}
use Rattle.type_core.specs.ValidLibrary.{AreDistinct}
use Rattle.type_core.specs.Weight.{library_weight}
use Rattle.elab_rules.specs.declared.entry.UnitEntry.{UnitEntry}
use Rattle.elab_rules.specs.declared.refusal.Why.TheVariants.{Duplicate, LateUnit}
use Rattle.elab_rules.specs.Bodies.{Site}
use Rattle.elab_rules.specs.Environments.{Environment}
use Rattle.elab_rules.specs.Files.{all_bound, all_declared, bindings_declared, bound, declared, elaborated, first_of, identifiers_checked, is_from, is_new_unit, library_limited, normal_sum, top_site, unit_made}
use Rattle.elab_types.specs.Finding.{none_of}
use Rattle.elab_rules.specs.Library.{Basis, empty_basis, library}
use Rattle.sig_base.specs.LongIdentifiers.{parts}
use Rattle.elab_rules.specs.LookUps.{is_top}
use Rattle.elab_rules.specs.Outcome.{Outcome}
use Rattle.elab_types.specs.Outcome.{and_then, checked}
use Rattle.elab_soundness.specs.Soundness.{AreNamed, HasSoundNames, IsSound, IsSoundBasis, IsSoundName, IsSoundState, IsSoundUnit, IsUnitId, known_by, paths_within, unit_paths}
use Rattle.elab_types.specs.Sources.{text_at}
use Rattle.elab_rules.specs.Specifications.{Signature, binding_of, signature_of}
use Rattle.elab_soundness.specs.Spelling.{AreSpelledBindings, IsSpelledDeclaration, IsSpelledFile, IsSpelledSignature, more_bindings, no_bindings}
use Rattle.elab_rules.specs.States.{State, weighed}
use Rattle.elab_rules.proofs.LaterNames.{known_within}
use Rattle.elab_soundness.proofs.valid.Body.{IsSoundBody, IsSoundSite, body_alike}
use Rattle.elab_soundness.proofs.valid.Extended.{unit_extended}
use Rattle.elab_types.proofs.Lists.{concatenated_more, distinct_more, no_pairs, other_texts}
use Rattle.elab_soundness.proofs.valid.Named.{named_together}
use Rattle.elab_types.proofs.Outcomes.{checked_parts, ok_is, then_parts}
use Rattle.elab_soundness.proofs.valid.Paths.{tycon_paths}
use Rattle.elab_rules.proofs.Levels.{binding_is}
use Rattle.elab_soundness.proofs.valid.Specs.{signature_kept}
use Rattle.elab_soundness.proofs.valid.States.{flag_appended, no_flag, takes_appended, weighed_parts}
use Rattle.elab_soundness.proofs.valid.Units.{unit_ids, units_distinct}

-- ---- the first basis
weightless : library_weight (library empty_basis) ≡ 0
unfolding library_weight
weightless = refl

pub sound_at_first : IsSoundBasis empty_basis
sound_at_first = record {
  state = record {
    sound = record {
      names = record { own = []; whole = sym (append-nil initial_names); each = All-nil _; apart = no_pairs };
      counted = length-map initial_names (λ name. false);
      stay = λ n name at e. no_flag initial_names n;
    };
    flags = [];
    gone = sym (append-nil (map (λ name. false) initial_names));
    named = record { described = All-nil _; distinct = no_pairs };
  };
  units = All-nil _;
  units_distinct = no_pairs;
  member_limit = omega arith;
  weight_limit = omega (arith, weightless);
  normal_sum = omega arith;
}

-- ---- more top identifiers
none_all : {A : Type 0} (test : A → Bool) (xs : List A) → none_of test xs ≡ true → All (λ x. test x ≡ false) xs
none_all test [] e = All-nil _
none_all test (x ∷ xs) e = let p = and_parts (not (test x)) _ e in All-cons (λ y. test y ≡ false) x xs (not-true (test x) p.0) (none_all test xs p.1)

-- no name from elsewhere begins with one of the identifiers
abbrev AreUnused : List TypeName → List (List ℕ) → Type 0
AreUnused names ids = All (λ id. All (λ name. is_from id name ≡ false) names) ids

other_first : (id : List ℕ) (name : TypeName) → name.external ≡ true → is_from id name ≡ false → id ≢ first_of (parts name.path)
other_first id name e f same = true≢false (sym (and_from _ _ e ((bytes_eq-Decides id (first_of (parts name.path))).1 same)) ∙ f)

more_tops : (tops ids : List (List ℕ)) (own : List TypeName) → AreUnused own ids → All (IsSoundName tops) own → All (IsSoundName (tops ++ ids)) own
more_tops tops ids [] unused h = All-nil _
more_tops tops ids (name ∷ own) unused h =
    let one = All-head (IsSoundName tops) name own h in
    All-cons (IsSoundName (tops ++ ids)) name own
    (record {
      arity = one.arity;
      described = one.described;
      external = λ e. let k = one.external e in record {
        path = k.path;
        equality = k.equality;
        elsewhere = All-append (λ top. top ≢ first_of (parts name.path)) tops ids k.elsewhere
            (All-weaker (λ id. All (λ x. is_from id x ≡ false) (name ∷ own)) (λ id. id ≢ first_of (parts name.path)) (λ id g. other_first id name e (All-head (λ x. is_from id x ≡ false) name own g)) ids unused);
      };
    })
    (more_tops tops ids own (All-weaker (λ id. All (λ x. is_from id x ≡ false) (name ∷ own)) (λ id. All (λ x. is_from id x ≡ false) own) (λ id g. All-tail (λ x. is_from id x ≡ false) name own g) ids unused) (All-tail (IsSoundName tops) name own h))

second_part : {A : Type 0} (P : A → Type 0) (xs ys : List A) → All P (xs ++ ys) → All P ys
second_part P [] ys h = h
second_part P (x ∷ xs) ys h = second_part P xs ys (All-tail P x (xs ++ ys) h)

sound_declaring : (tops ids : List (List ℕ)) (basis : Basis) → AreUnused basis.state.names ids → IsSound tops basis → IsSound (tops ++ ids) basis
sound_declaring tops ids basis unused h =
    let state = h.state in
    let sound = state.sound in
    let names = sound.names in
    let own_unused = All-weaker (λ id. All (λ name. is_from id name ≡ false) basis.state.names) (λ id. All (λ name. is_from id name ≡ false) names.own)
    (λ id g. second_part (λ name. is_from id name ≡ false) initial_names names.own (subst (All (λ name. is_from id name ≡ false)) names.whole g)) ids unused in
    record {
      state = record {
        sound = record {
          names = record { own = names.own; whole = names.whole; each = more_tops tops ids names.own own_unused names.each; apart = names.apart };
          counted = sound.counted;
          stay = sound.stay;
        };
        flags = state.flags;
        gone = state.gone;
        named = state.named;
      };
      units = h.units;
      units_distinct = h.units_distinct;
      member_limit = h.member_limit;
      weight_limit = h.weight_limit;
      normal_sum = h.normal_sum;
    }

-- ---- stretches
take_all : {A : Type 0} (xs : List A) (n : ℕ) → n ≡ length xs → take n xs ≡ xs
take_all [] zero e = refl
take_all [] (suc n) e = refl
take_all (x ∷ xs) zero e = absurd (omega (arith, e))
take_all (x ∷ xs) (suc n) e = ap (λ rest. x ∷ rest) (take_all xs n (omega (arith, e)))

stretch_is : {A : Type 0} (xs ys : List A) (n m : ℕ) → n ≡ length xs → m ≡ length ys → take m (drop n (xs ++ ys)) ≡ ys
stretch_is xs ys n m e f = ap (λ k. take m (drop k (xs ++ ys))) e ∙ ap (take m) (drop-append_seam xs ys) ∙ take_all ys m f

-- ---- identifiers
-- a binding as elaboration has it
abbrev read_as : Bind → ℕ × Signature
read_as bind = (bind.id, signature_of bind.rhs)

bindings_are : (binds : List Bind) → map binding_of binds ≡ map read_as binds
bindings_are [] = refl
bindings_are (bind ∷ binds) = ap₂ ◌∷◌ (binding_is bind) (bindings_are binds)

or_parts : (a b : Bool) → (a || b) ≡ false → (a ≡ false) × (b ≡ false)
or_parts true b e = absurd (true≢false e)
or_parts false b e = (refl, e)

not_false : (b : Bool) → not b ≡ false → b ≡ true
not_false true e = refl
not_false false e = sym e

module _ (texts : List (List ℕ)) where
  abbrev ids_of : List Bind → List (List ℕ)
  ids_of binds = map (λ (bind : Bind). text_at texts bind.id) binds

  ids_are : (binds : List Bind) → map (λ (bind : ℕ × Signature). text_at texts bind.0) (map read_as binds) ≡ ids_of binds
  ids_are [] = refl
  ids_are (bind ∷ binds) = ap (λ rest. text_at texts bind.id ∷ rest) (ids_are binds)

  -- the identifiers of the bindings are new, and distinct
  abbrev AreNew : List (List ℕ) → List Bind → Type 0
  AreNew ids [] = Unit {0}
  AreNew ids (bind ∷ binds) = All (λ other. other ≢ text_at texts bind.id) ids × AreNew (ids ++ text_at texts bind.id ∷ []) binds

  record AreChecked (basis : Basis) (seen : List (List ℕ)) (binds : List Bind) : Type 0 where
    new : AreNew (unit_ids basis.units ++ seen) binds
    unused : AreUnused basis.state.names (ids_of binds)

  checked_new : (basis : Basis) (seen : List (List ℕ)) (binds : List Bind) (done : Unit {0}) → identifiers_checked texts basis seen (map read_as binds) ≡ Ok done → AreChecked basis seen binds
  checked_new basis seen [] done e = record { new = tt; unused = All-nil _ }
  checked_new basis seen (bind ∷ binds) done e =
      let id = text_at texts bind.id in
      let next = identifiers_checked texts basis (seen ++ id ∷ []) (map read_as binds) in
      let a = checked_parts (is_new_unit id basis.units && none_of (bytes_eq id) seen) Duplicate bind.id (checked (none_of (is_from id) basis.state.names) LateUnit bind.id next) done e in
      let b = checked_parts (none_of (is_from id) basis.state.names) LateUnit bind.id next done a.1 in
      let c = and_parts (is_new_unit id basis.units) _ a.0 in
      let rest = checked_new basis (seen ++ id ∷ []) binds done b.1 in
      record {
        new = (
          All-append (λ other. other ≢ id) (unit_ids basis.units) seen (All-map (λ other. other ≢ id) (λ (unit : UnitEntry). unit.id) basis.units (other_texts (λ (unit : UnitEntry). unit.id) id basis.units c.0)) (other_texts (λ text. text) id seen c.1),
          subst (λ ids. AreNew ids binds) (sym (append_assoc (unit_ids basis.units) seen (id ∷ []))) rest.new,
        );
        unused = All-cons (λ other. All (λ name. is_from other name ≡ false) basis.state.names) id (ids_of binds) (none_all (is_from id) basis.state.names b.0) rest.unused;
      }

  -- ---- a binding
  module _ (kind : UnitKind) (units : List UnitEntry) (declaring : List (List ℕ)) where
    abbrev tops : List (List ℕ)
    tops = unit_ids units ++ declaring

    -- what isn't declared is none of the top identifiers
    outside : (id : List ℕ) (path : List ℕ) → is_top id (top_site texts units declaring path) ≡ false → All (λ top. top ≢ id) tops
    outside id path e =
        let p = or_parts (not (none_of (λ (unit : UnitEntry). bytes_eq id unit.id) units)) _ e in
        All-append (λ top. top ≢ id) (unit_ids units) declaring
        (All-map (λ top. top ≢ id) (λ (unit : UnitEntry). unit.id) units (other_texts (λ (unit : UnitEntry). unit.id) id units (not_false _ p.0)))
        (other_texts (λ text. text) id declaring (not_false _ p.1))

    initial_known : (paths : List (List ℕ)) (s : State) → IsSoundState tops paths s → (n count : ℕ) → takes (slice_get initial_names n) count ≡ true → known_by s n count ≡ true
    initial_known paths s h n count e =
        let names = (h.sound).names in
        let l = known_within initial_names n count e in
        let fs = map (λ (name : TypeName). false) initial_names in
        let unset : slice_index_or s.gone n false ≡ false = ap (λ flags. slice_index_or flags n false) h.gone ∙ flag_appended fs h.flags n (omega (arith, l, length-map initial_names (λ (name : TypeName). false))) ∙ no_flag initial_names n in
        and_from _ _ (ap (λ xs. takes (slice_get xs n) count) names.whole ∙ takes_appended initial_names names.own n count e) (ap not unset)

    module _ (basis : Basis) (bind : Bind) (h : IsSound tops basis) (earlier : All (IsSoundUnit basis.state) units) (named : IsUnitId (text_at texts bind.id)) (new : All (λ other. other ≢ text_at texts bind.id) (unit_ids basis.units)) where
      abbrev id : List ℕ
      id = text_at texts bind.id

      abbrev site : Site
      site = top_site texts units declaring id

      abbrev sound : HasSoundNames tops basis.state
      sound = (h.state).sound

      initial_first : length initial_names ≤ length basis.state.names
      initial_first = omega (arith, ap length (sound.names).whole, length-append initial_names (sound.names).own)

      seen : IsSoundSite tops basis.state site
      seen = record {
        around = All-nil _;
        units = earlier;
        outside = λ other. outside other id;
        initial = initial_known (unit_paths basis.units) basis.state h.state;
        counted = sound.counted;
        later = initial_first;
      }

      record IsBound (result : Basis) : Type 0 where
        after : IsSound tops result
        before : All (IsSoundUnit result.state) units
        ids : unit_ids result.units ≡ unit_ids basis.units ++ id ∷ []

      module _ (entries : Environment) (after : State) (body : IsSoundBody tops basis.state id entries after) where
        abbrev unit : UnitEntry
        unit = unit_made kind id entries (length basis.state.names) (length after.names)

        abbrev now : Basis
        now = record { units = basis.units ++ unit ∷ []; state = after }

        more_units : (us : List UnitEntry) → All (IsSoundUnit basis.state) us → All (IsSoundUnit after) us
        more_units = All-weaker (IsSoundUnit basis.state) (IsSoundUnit after) (unit_extended basis.state after body.more body.flags sound.counted body.extends)

        length_after : length after.names ≡ length basis.state.names + length body.more
        length_after = ap length (body.extends).names ∙ length-append basis.state.names body.more

        unit_sound : IsSoundUnit after unit
        unit_sound =
            let x = body.extends in
            let first = length basis.state.names in
            let names : take (length after.names - first) (drop first after.names) ≡ body.more = ap (λ ns. take (length after.names - first) (drop first ns)) x.names ∙ stretch_is basis.state.names body.more first _ refl (omega (arith, length_after)) in
            let gone : take (length after.names - first) (drop first after.gone) ≡ body.flags = ap (λ fs. take (length after.names - first) (drop first fs)) x.gone ∙ stretch_is basis.state.gone body.flags first _ (sym sound.counted) (omega (arith, length_after, x.counted)) in
            record {
              id = named;
              entries = body.env;
              later = initial_first;
              made = omega (arith, length_after);
              named = subst (λ ns. AreNamed (paths_within id entries) ns (take (length after.names - first) (drop first after.gone))) (sym names)
                  (subst (λ fs. AreNamed (paths_within id entries) body.more fs) (sym gone) body.named);
            }

        units_now : All (IsSoundUnit after) now.units
        units_now = All-push (IsSoundUnit after) basis.units unit (more_units basis.units h.units) unit_sound

        ids_now : unit_ids now.units ≡ unit_ids basis.units ++ id ∷ []
        ids_now = map-append (λ (u : UnitEntry). u.id) basis.units (unit ∷ [])

        ids_distinct : AreDistinct (unit_ids now.units)
        ids_distinct = subst AreDistinct (sym ids_now) (distinct_more (unit_ids basis.units) id h.units_distinct new)

        paths_now : unit_paths now.units ≡ unit_paths basis.units ++ paths_within id entries
        paths_now = concatenated_more (λ (u : UnitEntry). paths_within u.id u.entries) basis.units unit

        state_now : IsSoundState tops (unit_paths now.units) after
        state_now =
            let x = body.extends in
            let flags = (h.state).flags in
            let own = (sound.names).own in
            let names = (body.sound).names in
            let same : own ++ body.more ≡ names.own =
            append_cancel_left initial_names (own ++ body.more) names.own (sym (append_assoc initial_names own body.more) ∙ sym (ap (λ ns. ns ++ body.more) (sound.names).whole) ∙ sym x.names ∙ names.whole) in
            let count : length flags ≡ length own =
            omega (arith, sound.counted, ap length (h.state).gone, length-append (map (λ (name : TypeName). false) initial_names) flags, length-map initial_names (λ (name : TypeName). false), ap length (sound.names).whole, length-append initial_names own) in
            let distinct = subst AreDistinct paths_now (units_distinct true false paths_within tycon_paths (λ s t. true≢false (sym t)) after now.units units_now ids_distinct) in
            record {
              sound = body.sound;
              flags = flags ++ body.flags;
              gone = x.gone ∙ ap (λ fs. fs ++ body.flags) (h.state).gone ∙ append_assoc (map (λ (name : TypeName). false) initial_names) flags body.flags;
              named = subst (λ ns. AreNamed (unit_paths now.units) ns (flags ++ body.flags)) same
                  (subst (λ ps. AreNamed ps (own ++ body.more) (flags ++ body.flags)) (sym paths_now)
                  (named_together (unit_paths basis.units) (paths_within id entries) own flags body.more body.flags count distinct (h.state).named body.named));
            }

        limited_sound : (result : Basis) → library_limited bind.id now ≡ Ok result → IsBound result
        limited_sound result e =
            let a = checked_parts (nat_le (length (library now).members) 100000) _ bind.id _ result e in
            let b = checked_parts (nat_le (library_weight (library now)) 8000000 && nat_le (normal_sum now) 4000000) _ bind.id (Ok now) result a.1 in
            let c = and_parts (nat_le (library_weight (library now)) 8000000) _ b.0 in
            subst IsBound (ok_is now result b.1) (record {
              after = record {
                state = state_now;
                units = units_now;
                units_distinct = ids_distinct;
                member_limit = leb-true _ 100000 a.0;
                weight_limit = leb-true _ 8000000 c.0;
                normal_sum = leb-true _ 4000000 c.1;
              };
              before = more_units units earlier;
              ids = ids_now;
            })

      bound_sound : IsSpelledSignature texts bind.rhs → (result : Basis) → bound kind texts units declaring (read_as bind) basis ≡ Ok result → IsBound result
      bound_sound spelled result e =
          let limits : Environment × State → State → Outcome Basis = λ r after. library_limited bind.id (record { units = basis.units ++ unit_made kind id r.0 (length basis.state.names) (length after.names) ∷ []; state = after }) in
          let a = then_parts ((signature_of bind.rhs).elaborated site basis.state) (λ r. and_then (weighed (1 + length id) bind.id r.1) (limits r)) result e in
          let b = signature_kept tops texts site bind.rhs spelled basis.state a.0 seen sound a.1 in
          let c = then_parts (weighed (1 + length id) bind.id a.0.1) (limits a.0) result a.2 in
          limited_sound a.0.0 c.0 (body_alike tops basis.state id a.0.0 a.0.1 c.0 (weighed_parts (1 + length id) bind.id a.0.1 c.0 c.1) b) result c.2

    -- ---- bindings
    record AreBound (binds : List Bind) (basis result : Basis) : Type 0 where
      after : IsSound tops result
      ids : unit_ids result.units ≡ unit_ids basis.units ++ ids_of binds

    all_bound_sound : (binds : List Bind) → AreSpelledBindings texts binds → (basis result : Basis) → IsSound tops basis → All (IsSoundUnit basis.state) units → AreNew (unit_ids basis.units) binds → all_bound kind texts units declaring (map read_as binds) basis ≡ Ok result → AreBound binds basis result
    all_bound_sound binds no_bindings basis result h earlier new e = subst (AreBound [] basis) (ok_is basis result e) (record { after = h; ids = sym (append-nil (unit_ids basis.units)) })
    all_bound_sound binds (more_bindings {bind = bind} {bindings = rest} named spelled k) basis result h earlier new e =
        let id = text_at texts bind.id in
        let a = then_parts (bound kind texts units declaring (read_as bind) basis) (λ after. all_bound kind texts units declaring (map read_as rest) after) result e in
        let b = bound_sound basis bind h earlier (record { alphanumeric = named.0; short = named.1 }) new.0 spelled a.0 a.1 in
        let c = all_bound_sound rest k a.0 result b.after b.before (subst (λ ids. AreNew ids rest) (sym b.ids) new.1) a.2 in
        record { after = c.after; ids = c.ids ∙ ap (λ ids. ids ++ ids_of rest) b.ids ∙ append_assoc (unit_ids basis.units) (id ∷ []) (ids_of rest) }

  -- ---- declarations
  bindings_sound : (kind : UnitKind) (binds : List Bind) → AreSpelledBindings texts binds → (basis result : Basis) → IsSoundBasis basis → bindings_declared kind texts (map binding_of binds) basis ≡ Ok result → IsSoundBasis result
  bindings_sound kind binds spelled basis result h e =
      let ids = ids_of binds in
      let a = then_parts (identifiers_checked texts basis [] (map read_as binds)) (λ done. all_bound kind texts basis.units (map (λ (bind : ℕ × Signature). text_at texts bind.0) (map read_as binds)) (map read_as binds) basis) result
      (ap (λ bs. bindings_declared kind texts bs basis) (sym (bindings_are binds)) ∙ e) in
      let b = checked_new basis [] binds a.0 a.1 in
      let c = all_bound_sound kind basis.units ids binds spelled basis result (sound_declaring (unit_ids basis.units) ids basis b.unused h) h.units (subst (λ xs. AreNew xs binds) (append-nil (unit_ids basis.units)) b.new)
      (ap (λ xs. all_bound kind texts basis.units xs (map read_as binds) basis) (sym (ids_are binds)) ∙ a.2) in
      subst (λ tops. IsSound tops result) (sym c.ids) c.after

  declared_sound : (dec : TopDec) → IsSpelledDeclaration texts dec → (basis result : Basis) → IsSoundBasis basis → declared texts dec basis ≡ Ok result → IsSoundBasis result
  declared_sound (signature binds) spelled basis result h e = bindings_sound Sig binds spelled basis result h e
  declared_sound (structure binds) spelled basis result h e = bindings_sound Str binds spelled basis result h e

  pub all_sound : (decs : List TopDec) → All (IsSpelledDeclaration texts) decs → (basis result : Basis) → IsSoundBasis basis → all_declared texts decs basis ≡ Ok result → IsSoundBasis result
  all_sound [] spelled basis result h e = subst IsSoundBasis (ok_is basis result e) h
  all_sound (dec ∷ decs) spelled basis result h e =
      let a = then_parts (declared texts dec basis) (λ after. all_declared texts decs after) result e in
      all_sound decs (All-tail (IsSpelledDeclaration texts) dec decs spelled) a.0 result (declared_sound dec (All-head (IsSpelledDeclaration texts) dec decs spelled) basis a.0 h a.1) a.2

-- ---- files
pub sound_after : (texts : List (List ℕ)) (file : SourceFile) (before after : Basis) → IsSpelledFile texts file → IsSoundBasis before → elaborated texts file before ≡ Ok after → IsSoundBasis after
sound_after texts file before after spelled h e = all_sound texts file.decs spelled before after h e
