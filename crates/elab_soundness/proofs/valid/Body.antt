-- A body whose entries and names are sound, and what it is with more of them.
use Rattle.std.proofs.Common.{◌≡◌, ◌≢◌, inl, inr, ◌⊎◌, ℕ, ◌+◌, ◌≤◌, ◌&&◌, Bool, true, false, true≢false, not, bytes_eq, if◌then◌else◌, List, [], ◌∷◌, ◌++◌, length, map, slice_get, slice_index_or, append_assoc, append-nil, Some, None, Ok, eq-eqb, refl, sym, ap, ap₂, ◌∙◌, subst, arith}
use Rattle.std.proofs.lemmas.Bool.{and_from, and_parts}
use Rattle.std.proofs.lemmas.List.{length-append, length-map}
use Rattle.std.proofs.lemmas.List.Elements.{All-push, All-weaker, filter-append}
use Rattle.std.specs.List.{All}
use Rattle.type_core.specs.declared.names.Equality.{Equality}
use Rattle.type_core.specs.declared.names.Equality.TheVariants.{Never, IfArgs}
use Rattle.type_core.specs.declared.names.TypeName.{TypeName}
use Rattle.type_core.specs.InitialNames.{initial_names}
use Rattle.type_core.specs.Types.{takes}
use Rattle.type_core.specs.ValidLibrary.{AreDistinct as AllDistinct, path_and_arity}
use Rattle.elab_env.specs.Names.{described}
use Rattle.elab_rules.specs.declared.entry.Entry.{Entry}
use Rattle.elab_rules.specs.declared.entry.Entry.TheOpen.{Structure}
use Rattle.elab_rules.specs.declared.entry.TypeEntry.{TypeEntry}
use Rattle.elab_rules.specs.declared.entry.UnitEntry.{UnitEntry}
use Rattle.elab_rules.specs.declared.entry.ValueEntry.{ValueEntry}
use Rattle.elab_rules.specs.Bodies.{Site, added}
use Rattle.elab_rules.specs.Distinct.{AreDistinct}
use Rattle.elab_rules.specs.Environments.{Environment, is_new_structure, is_new_type, is_new_value, structure_at, the_structure, the_type, the_value}
use Rattle.elab_rules.specs.LookUps.{is_top}
use Rattle.elab_soundness.specs.Soundness.{AreNamed, HasSoundNames, IsSoundEnvironment, IsSoundName, IsSoundTycon, IsSoundUnit, IsSoundValue, IsUnitId, Known, known_by, no_entries, paths_within, structure_entry, type_entry, value_entry}
use Rattle.elab_rules.specs.Specifications.{are_new, is_new_step}
use Rattle.elab_rules.specs.States.{State, entry_weight, weighed, with_name}
use Rattle.elab_rules.proofs.DistinctMore.{distinct_appended, distinct_one, either_at}
use Rattle.elab_rules.proofs.Entries.{out_structure, out_type, out_value}
use Rattle.elab_rules.proofs.LaterNames.{known_within}
use Rattle.elab_soundness.proofs.valid.Everywhere.{all_together, all_weaker}
use Rattle.elab_soundness.proofs.valid.InitialEntries.{initial_usable}
use Rattle.elab_types.proofs.Lists.{no_some}
use Rattle.sig_base.proofs.LongIdentifiers.{NoDot, word_no_dot}
use Rattle.elab_soundness.proofs.valid.LongPaths.{type_no_dot, value_no_dot}
use Rattle.elab_soundness.proofs.valid.Named.{named_external, named_none, named_together}
use Rattle.elab_types.proofs.Outcomes.{ok_is, then_parts}
use Rattle.elab_soundness.proofs.valid.Paths.{HaveNoDots, distinct_paths, paths_together, tycon_paths}
use Rattle.elab_soundness.proofs.valid.Sought.{CanSee}
use Rattle.elab_soundness.proofs.valid.States.{Adds, IsAlike, adds_none, flag_appended, flag_past, flag_unset, known_added, takes_appended, weighed_parts}
use Rattle.elab_soundness.proofs.valid.Weaker.{AreSound, AreUsable, environment_still, sound_usable}

-- ---- sound environments
pub no_dots : (known : Known) (env : Environment) → AreSound known env → HaveNoDots env
no_dots known = all_weaker (IsSoundTycon known) (λ type. NoDot type.id) (IsSoundValue known) (λ value. NoDot value.id) IsUnitId NoDot (λ type h. type_no_dot type.id (h.id).spelled) (λ value h. value_no_dot value.id (h.id).spelled) (λ id h. word_no_dot id h.alphanumeric)

pub tycons_distinct : (known : Known) (path : List ℕ) (env : Environment) → IsSoundEnvironment known env → AllDistinct (paths_within path env)
tycons_distinct known path env h = distinct_paths true false paths_within tycon_paths path env (λ s t. true≢false (sym t)) (no_dots known env h.entries) h.distinct

module _ (known : Known) where
  pub environment_together : (own new : Environment) → IsSoundEnvironment known own → IsSoundEnvironment known new → are_new new own ≡ true → IsSoundEnvironment known (own ++ new)
  environment_together own new h k are = record {
    entries = all_together (IsSoundTycon known) (IsSoundValue known) IsUnitId own new h.entries k.entries;
    distinct = distinct_appended own new h.distinct k.distinct are;
  }

  pub no_environment : IsSoundEnvironment known []
  no_environment = record { entries = no_entries; distinct = nowhere }
    where
      nowhere : AreDistinct []
      nowhere [] entries n e along at = let same : [] ≡ entries = cc in absurd (no_some e (ap (λ (xs : Environment). slice_get xs n) same ∙ at))
      nowhere (id ∷ ids) entries n e along at = absurd (no_some entries along)

  pub one_type : (type : TypeEntry) → IsSoundTycon known type → IsSoundEnvironment known (the_type type ∷ [])
  one_type type h = record {
    entries = type_entry h no_entries;
    distinct = distinct_one (the_type type) (λ id es at. absurd (no_some es (sym (ap (structure_at id) (out_type type)) ∙ at)));
  }

  pub one_value : (value : ValueEntry) → IsSoundValue known value → IsSoundEnvironment known (the_value value ∷ [])
  one_value value h = record {
    entries = value_entry h no_entries;
    distinct = distinct_one (the_value value) (λ id es at. absurd (no_some es (sym (ap (structure_at id) (out_value value)) ∙ at)));
  }

  pub one_structure : (id : List ℕ) (inner : Environment) → IsUnitId id → IsSoundEnvironment known inner → IsSoundEnvironment known (the_structure id inner ∷ [])
  one_structure id inner h k = record {
    entries = structure_entry h k.entries no_entries;
    distinct = distinct_one (the_structure id inner) (λ name es at. subst AreDistinct (same_entries name es (sym (ap (structure_at name) (out_structure id inner)) ∙ at)) k.distinct);
  }
    where
      chosen : (b : Bool) (es : Environment) → (if b then Some inner else None) ≡ Some es → inner ≡ es
      chosen true es e = cc
      chosen false es e = absurd (no_some es e)

      same_entries : (name : List ℕ) (es : Environment) → structure_at name (Structure id inner) ≡ Some es → inner ≡ es
      same_entries name es e = chosen (bytes_eq name id) es e

pub new_type : (type : TypeEntry) (own : Environment) → is_new_type type.id own ≡ true → are_new (the_type type ∷ []) own ≡ true
new_type type own new = and_from _ _ (ap (is_new_step own) (out_type type) ∙ new) refl

pub new_value : (value : ValueEntry) (own : Environment) → is_new_value value.id own ≡ true → are_new (the_value value ∷ []) own ≡ true
new_value value own new = and_from _ _ (ap (is_new_step own) (out_value value) ∙ new) refl

pub new_structure : (id : List ℕ) (inner own : Environment) → is_new_structure id own ≡ true → are_new (the_structure id inner ∷ []) own ≡ true
new_structure id inner own new = and_from _ _ (ap (is_new_step own) (out_structure id inner) ∙ new) refl

-- ---- states that go on
-- names with their flags were added
pub record Extends (s t : State) (more : List TypeName) (flags : List Bool) : Type 0 where
  pub names : t.names ≡ s.names ++ more
  pub gone : t.gone ≡ s.gone ++ flags
  pub counted : length flags ≡ length more

pub known_extended : (s t : State) (more : List TypeName) (flags : List Bool) → length s.gone ≡ length s.names → Extends s t more flags → (n count : ℕ) → known_by s n count ≡ true → known_by t n count ≡ true
known_extended s t more flags counted x n count e =
    let p = and_parts (takes (slice_get s.names n) count) _ e in
    let l = known_within s.names n count p.0 in
    and_from _ _ (ap (λ names. takes (slice_get names n) count) x.names ∙ takes_appended s.names more n count p.0)
    (ap (λ fs. not (slice_index_or fs n false)) x.gone ∙ ap not (flag_appended s.gone flags n (omega (arith, l, counted))) ∙ p.1)

pub extends_then : (s t u : State) (xs ys : List TypeName) (fs gs : List Bool) → Extends s t xs fs → Extends t u ys gs → Extends s u (xs ++ ys) (fs ++ gs)
extends_then s t u xs ys fs gs h k = record {
  names = k.names ∙ ap (λ names. names ++ ys) h.names ∙ append_assoc s.names xs ys;
  gone = k.gone ∙ ap (λ flags. flags ++ gs) h.gone ∙ append_assoc s.gone fs gs;
  counted = length-append fs gs ∙ ap₂ ◌+◌ h.counted k.counted ∙ sym (length-append xs ys);
}

pub extends_alike : (s t u : State) (xs : List TypeName) (fs : List Bool) → IsAlike t u → Extends s t xs fs → Extends s u xs fs
extends_alike s t u xs fs a h = record { names = sym a.names ∙ h.names; gone = sym a.gone ∙ h.gone; counted = h.counted }

pub extends_none : (s : State) → Extends s s [] []
extends_none s = record { names = sym (append-nil s.names); gone = sym (append-nil s.gone); counted = refl }

pub adds_extends : (tops : List (List ℕ)) (s t : State) → (a : Adds tops s t) → Extends s t a.more (map (λ name. false) a.more)
adds_extends tops s t a = record { names = a.names; gone = a.gone; counted = length-map a.more (λ name. false) }

-- ---- names from elsewhere may be used
pub external_known : (tops : List (List ℕ)) (s : State) (n : ℕ) (name : TypeName) → HasSoundNames tops s → slice_get s.names n ≡ Some name → name.external ≡ true → known_by s n name.arity ≡ true
external_known tops s n name h at e = and_from _ _ (ap (λ o. takes o name.arity) at ∙ eq-eqb name.arity name.arity refl) (ap not (h.stay n name at e))

-- ---- where bodies stand
-- what is seen from the site is sound in a state, and what isn't declared is none of the top identifiers
pub record IsSoundSite (tops : List (List ℕ)) (base : State) (site : Site) : Type 0 where
  pub around : All (AreSound (known_by base)) site.around
  pub units : All (IsSoundUnit base) site.units
  pub outside : (id : List ℕ) → is_top id site ≡ false → All (λ top. top ≢ id) tops
  pub initial : (n count : ℕ) → takes (slice_get initial_names n) count ≡ true → known_by base n count ≡ true
  pub counted : length base.gone ≡ length base.names
  pub later : length initial_names ≤ length base.names

-- what is seen from a sound site can be used
pub see_from : (tops : List (List ℕ)) (base : State) (site : Site) (after : Known) (own : Environment) → ((n count : ℕ) → known_by base n count ≡ true → after n count ≡ true) → IsSoundSite tops base site → AreUsable after own → CanSee after site own
see_from tops base site after own more h usable = record {
  body = usable;
  around = All-weaker (AreSound (known_by base)) (AreUsable after) (sound_usable (known_by base) after more) site.around h.around;
  units = All-weaker (IsSoundUnit base) (λ (unit : UnitEntry). AreUsable after unit.entries) (λ unit k. sound_usable (known_by base) after more unit.entries (k.entries).entries) site.units h.units;
  initial = initial_usable after (λ n count e. more n count (h.initial n count e));
}

-- ---- bodies
-- a body that began in a state: its entries and all names are sound, and the names that were made for it have its type
-- constructors
pub record IsSoundBody (tops : List (List ℕ)) (base : State) (path : List ℕ) (own : Environment) (s : State) : Type 0 where
  pub more : List TypeName
  pub flags : List Bool
  pub extends : Extends base s more flags
  pub sound : HasSoundNames tops s
  pub env : IsSoundEnvironment (known_by s) own
  pub named : AreNamed (paths_within path own) more flags

module _ (tops : List (List ℕ)) (base : State) (path : List ℕ) where
  abbrev Body : Environment → State → Type 0
  Body = IsSoundBody tops base path

  pub body_alike : (own : Environment) (s t : State) → IsAlike s t → Body own s → Body own t
  body_alike own s t a h = record {
    more = h.more;
    flags = h.flags;
    extends = extends_alike base s t h.more h.flags a h.extends;
    sound = (adds_none tops s t a).sound h.sound;
    env = subst (λ known. IsSoundEnvironment known own) (ap₂ known_in a.names a.gone) h.env;
    named = h.named;
  }
    where
      known_in : List TypeName → List Bool → Known
      known_in names gone n count = takes (slice_get names n) count && not (slice_index_or gone n false)

  -- names from elsewhere
  pub body_added : (own : Environment) (s t : State) → Adds tops s t → Body own s → Body own t
  body_added own s t a h = record {
    more = h.more ++ a.more;
    flags = h.flags ++ map (λ name. false) a.more;
    extends = extends_then base s t h.more a.more h.flags (map (λ name. false) a.more) h.extends (adds_extends tops s t a);
    sound = a.sound h.sound;
    env = environment_still (known_by s) (known_by t) (known_added tops s t a) own h.env;
    named = named_external (paths_within path own) h.more h.flags a.more (map (λ name. false) a.more) (h.extends).counted a.external h.named;
  }

  -- further entries with further names
  pub body_together : (own new : Environment) (s t : State) (more : List TypeName) (flags : List Bool) → Body own s → Extends s t more flags → HasSoundNames tops t → IsSoundEnvironment (known_by t) new → are_new new own ≡ true
      → AreNamed (paths_within path new) more flags → Body (own ++ new) t
  body_together own new s t more flags h x sound k are named =
      let own_now : IsSoundEnvironment (known_by t) own = environment_still (known_by s) (known_by t) (known_extended s t more flags (h.sound).counted x) own h.env in
      let whole : IsSoundEnvironment (known_by t) (own ++ new) = environment_together (known_by t) own new own_now k are in
      let paths : paths_within path (own ++ new) ≡ paths_within path own ++ paths_within path new = paths_together true false paths_within tycon_paths path own new (no_dots (known_by t) own own_now.entries) in
      record {
        more = h.more ++ more;
        flags = h.flags ++ flags;
        extends = extends_then base s t h.more more h.flags flags h.extends x;
        sound = sound;
        env = whole;
        named = subst (λ ps. AreNamed ps (h.more ++ more) (h.flags ++ flags)) (sym paths)
            (named_together (paths_within path own) (paths_within path new) h.more h.flags more flags (h.extends).counted (subst AllDistinct paths (tycons_distinct (known_by t) path (own ++ new) whole)) h.named named);
      }

  -- further entries without names
  pub body_with : (own new : Environment) (s : State) → Body own s → IsSoundEnvironment (known_by s) new → are_new new own ≡ true → Body (own ++ new) s
  body_with own new s h k are = body_together own new s s [] [] h (extends_none s) h.sound k are (named_none (paths_within path new))

-- ---- a described name more
-- an equality that a described name may have
abbrev pub IsUsual : Equality → Type 0
IsUsual equality = (equality ≡ Never) ⊎ (equality ≡ IfArgs)

pub name_extends : (path : List ℕ) (arity : ℕ) (equality : Equality) (s : State) → Extends s (with_name path arity equality s) (described path arity equality ∷ []) (false ∷ [])
name_extends path arity equality s = record { names = refl; gone = refl; counted = refl }

pub names_with_name : (tops : List (List ℕ)) (path : List ℕ) (arity : ℕ) (equality : Equality) (s : State) → IsUsual equality → arity ≤ 1999 → HasSoundNames tops s → HasSoundNames tops (with_name path arity equality s)
names_with_name tops path arity equality s usual few h =
    let name : TypeName = described path arity equality in
    record {
      names = record {
        own = (h.names).own ++ name ∷ [];
        whole = ap (λ xs. xs ++ name ∷ []) (h.names).whole ∙ append_assoc initial_names (h.names).own (name ∷ []);
        each = All-push (IsSoundName tops) (h.names).own name (h.names).each (record { arity = few; described = λ e. usual; external = λ e. absurd (true≢false (sym e)) });
        apart = subst (λ xs. AllDistinct (map path_and_arity xs)) (sym (filter-append (λ (x : TypeName). x.external) (h.names).own (name ∷ []) ∙ append-nil _)) (h.names).apart;
      };
      counted = length-append s.gone (false ∷ []) ∙ ap (λ n. n + 1) h.counted ∙ sym (length-append s.names (name ∷ []));
      stay = λ n x at e. flag_unset s.gone (name ∷ []) n ∙ elim (either_at s.names (name ∷ []) n x at) [
        | inl here ↦ h.stay n x here e
        | inr later ↦ flag_past s.gone n (omega (arith, later.1.0, h.counted))
      ];
    }

-- ---- an entry that is added
pub record IsAdded (site : Site) (entry : Entry) (own : Environment) (s : State) (r : Environment × State) : Type 0 where
  pub env : own ++ entry ∷ [] ≡ r.0
  pub alike : IsAlike s r.1

pub added_parts : (site : Site) (entry : Entry) (token : ℕ) (own : Environment) (s : State) (r : Environment × State) → added site entry token own s ≡ Ok r → IsAdded site entry own s r
added_parts site entry token own s r e =
    let a = then_parts (weighed (entry_weight site.path entry) token s) _ r e in
    let b = weighed_parts (entry_weight site.path entry) token s a.0 a.1 in
    let c = ok_is (own ++ entry ∷ [], a.0) r a.2 in
    record {
      env = ap (λ (x : Environment × State). x.0) c;
      alike = record { names = b.names ∙ ap (λ (x : Environment × State). x.1.names) c; gone = b.gone ∙ ap (λ (x : Environment × State). x.1.gone) c };
    }
