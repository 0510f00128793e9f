-- What look-ups find can be used, and a name from elsewhere is added where they find none.
use Rattle.std.proofs.Common.{◌≡◌, ◌≢◌, ℕ, ◌≤◌, Bool, true, false, bytes_eq, if◌then◌else◌, List, [], ◌∷◌, slice_get, Option, Some, None, Ok, refl, sym, ap, ◌∙◌, subst}
use Rattle.std.proofs.lemmas.List.Elements.{All-cons, All-head, All-tail, All-weaker}
use Rattle.std.specs.List.{All}
use Rattle.type_core.specs.declared.library.UnitKind.{UnitKind}
use Rattle.type_core.specs.declared.library.UnitKind.TheVariants.{Sig, Str}
use Rattle.type_core.specs.declared.names.TypeName.{TypeName}
use Rattle.type_core.specs.declared.type_fn.TypeFn.{TypeFn}
use Rattle.sig_base.specs.LongIdentifiers.{parts}
use Rattle.type_core.specs.Paths.{IsLongTypeIdentifier}
use Rattle.elab_env.specs.Parameters.{name_function}
use Rattle.elab_rules.specs.declared.entry.UnitEntry.{UnitEntry}
use Rattle.elab_rules.specs.Bodies.{Site}
use Rattle.elab_rules.specs.Environments.{Environment, structure_in, type_in}
use Rattle.elab_rules.specs.Files.{first_of}
use Rattle.elab_types.specs.Finding.{first_given}
use Rattle.elab_rules.specs.InitialEnvironment.{initial_environment}
use Rattle.elab_rules.specs.LongIdentifiers.{Found, found_in}
use Rattle.elab_rules.specs.LookUps as look_ups
use Rattle.elab_rules.specs.LookUps.{Sought, along_sought, datatype_at, datatype_sought, external_named, function_at, function_sought, is_top, sought, structure_entries, structure_sought, top_structure, unit_in}
use Rattle.elab_env.specs.Names.{external_number}
use Rattle.elab_soundness.specs.Soundness.{HasSoundNames, IsSoundFunction, IsSoundValue, Known}
use Rattle.elab_types.specs.Sources.{text_at}
use Rattle.elab_rules.specs.States.{State}
use Rattle.elab_soundness.proofs.valid.Everywhere.{IsFoundSo, first_or, found_given, structure_given, then_some, type_along_given, type_given}
use Rattle.elab_types.proofs.Lists.{no_some}
use Rattle.elab_soundness.proofs.valid.LongPaths.{long_path}
use Rattle.elab_soundness.proofs.valid.Made.{name_sound}
use Rattle.elab_types.proofs.Outcomes.{no_failure, ok_is, then_parts}
use Rattle.elab_soundness.proofs.valid.States.{Adds, adds_none, external_kept}
use Rattle.elab_soundness.proofs.valid.Weaker.{AreUsable, HasFunction, IsAnything, usable_still}

-- ---- the first that is given
given_in : {A B : Type 0} (given : A → Option B) (Q : A → Type 0) (P : B → Type 0) → ((a : A) (b : B) → Q a → given a ≡ Some b → P b) → (xs : List A) (b : B) → All Q xs → first_given given xs ≡ Some b → P b
given_in given Q P one [] b h e = absurd (no_some b e)
given_in given Q P one (x ∷ xs) b h e =
    first_or P (given x) (first_given given xs) b (λ y f. one x y (All-head Q x xs h) f) (λ y f. given_in given Q P one xs y (All-tail Q x xs h) f) e

-- the unit that is found for a top identifier
pub unit_so : (P : UnitEntry → Type 0) (id : List ℕ) (units : List UnitEntry) (unit : UnitEntry) → All P units → unit_in id units ≡ Some unit → P unit
unit_so P id units unit h e = given_in (λ (u : UnitEntry). if bytes_eq id u.id then Some u else None) P P (λ u v p f. by_case (bytes_eq id u.id) u v p f) units unit h e
  where
    by_case : (b : Bool) (u v : UnitEntry) → P u → (if b then Some u else None) ≡ Some v → P v
    by_case true u v p f = subst P (let same : u ≡ v = cc in same) p
    by_case false u v p f = absurd (no_some v f)

-- what can be seen from a site can be used
pub record CanSee (known : Known) (site : Site) (own : Environment) : Type 0 where
  pub body : AreUsable known own
  pub around : All (AreUsable known) site.around
  pub units : All (λ (unit : UnitEntry). AreUsable known unit.entries) site.units
  pub initial : AreUsable known initial_environment

pub see_still : (known after : Known) → ((n count : ℕ) → known n count ≡ true → after n count ≡ true) → (site : Site) (own : Environment) → CanSee known site own → CanSee after site own
see_still known after more site own h = record {
  body = usable_still known after more own h.body;
  around = All-weaker (AreUsable known) (AreUsable after) (usable_still known after more) site.around h.around;
  units = All-weaker (λ (unit : UnitEntry). AreUsable known unit.entries) (λ unit. AreUsable after unit.entries) (λ unit. usable_still known after more unit.entries) site.units h.units;
  initial = usable_still known after more initial_environment h.initial;
}

-- ---- what is found
found_is : (x y : Found) → look_ups.Known x ≡ look_ups.Known y → x ≡ y
found_is x y e = ap seen e
  where
    seen : Sought → Found
    seen (look_ups.Known z) = z
    seen look_ups.Missing = x
    seen look_ups.Elsewhere = x

known_is : (o : Option Found) (found : Found) → look_ups.known o ≡ look_ups.Known found → o ≡ Some found
known_is None found e = absurd (not_missing found e)
  where
    not_missing : (x : Found) → look_ups.Missing ≡ look_ups.Known x → ⊥
    not_missing x f = cc
known_is (Some other) found e = ap (λ x. Some x) (found_is other found e)

module _ (known : Known) where
  abbrev pub IsUsable : Found → Type 0
  IsUsable found = IsFoundSo (HasFunction known) (IsSoundValue known) IsAnything found

  abbrev in_env : List ℕ → Environment → Option Found
  in_env id env = found_in env (type_in id env)

  in_env_usable : (id : List ℕ) (env : Environment) (found : Found) → AreUsable known env → in_env id env ≡ Some found → IsUsable found
  in_env_usable id env found h e =
      found_given (HasFunction known) (IsSoundValue known) IsAnything env (type_in id env) found h (λ type f. type_given (HasFunction known) (IsSoundValue known) IsAnything id env type h f) e

  unit_usable : (kind : UnitKind) (unit : UnitEntry) (entries : Environment) → AreUsable known unit.entries → structure_entries kind unit ≡ Some entries → AreUsable known entries
  unit_usable Sig unit entries h e = absurd (no_some entries e)
  unit_usable Str unit entries h e = subst (AreUsable known) (let same : unit.entries ≡ entries = cc in same) h

  module _ (site : Site) (own : Environment) (h : CanSee known site own) where
    bodies : All (AreUsable known) (own ∷ site.around)
    bodies = All-cons (AreUsable known) own site.around h.body h.around

    structure_usable : (id : List ℕ) (entries : Environment) → structure_sought id site (own ∷ site.around) ≡ Some entries → AreUsable known entries
    structure_usable id entries e =
        first_or (AreUsable known) (first_given (structure_in id) (own ∷ site.around)) (top_structure id site.units) entries
        (λ x f. given_in (structure_in id) (AreUsable known) (AreUsable known) (λ env es k g. structure_given (HasFunction known) (IsSoundValue known) IsAnything id env es k g) (own ∷ site.around) x bodies f)
        (λ x f. let u = then_some (λ (unit : UnitEntry). structure_entries unit.kind unit) (unit_in id site.units) x f in unit_usable u.0.kind u.0 x (unit_so (λ unit. AreUsable known unit.entries) id site.units u.0 h.units u.1) u.2)
        e

    pub sought_usable : (ps : List (List ℕ)) (found : Found) → sought ps site (own ∷ site.around) ≡ look_ups.Known found → IsUsable found
    sought_usable [] found e = absurd (not_missing found e)
      where
        not_missing : (x : Found) → look_ups.Missing ≡ look_ups.Known x → ⊥
        not_missing x f = cc
    sought_usable (id ∷ []) found e =
        first_or IsUsable (first_given (in_env id) (own ∷ site.around)) (in_env id initial_environment) found
        (λ x f. given_in (in_env id) (AreUsable known) IsUsable (λ env y k g. in_env_usable id env y k g) (own ∷ site.around) x bodies f)
        (λ x f. in_env_usable id initial_environment x h.initial f)
        (known_is _ found e)
    sought_usable (id ∷ next ∷ rest) found e = by_case (structure_sought id site (own ∷ site.around)) refl (is_top id site) e
      where
        by_case : (o : Option Environment) → structure_sought id site (own ∷ site.around) ≡ o → (b : Bool) → along_sought (next ∷ rest) o b ≡ look_ups.Known found → IsUsable found
        by_case (Some env) is b f = type_along_given (HasFunction known) (IsSoundValue known) IsAnything (next ∷ rest) env found (structure_usable id env is) (known_is _ found f)
        by_case None is true f = absurd (not_missing found f)
          where
            not_missing : (x : Found) → look_ups.Missing ≡ look_ups.Known x → ⊥
            not_missing x g = cc
        by_case None is false f = absurd (not_elsewhere found f)
          where
            not_elsewhere : (x : Found) → look_ups.Elsewhere ≡ look_ups.Known x → ⊥
            not_elsewhere x g = cc

    pub datatype_usable : (token : ℕ) (found : Found) → datatype_at token site own ≡ Some found → IsUsable found
    datatype_usable token found e = by_case (sought (parts (text_at site.texts token)) site (own ∷ site.around)) refl e
      where
        by_case : (x : Sought) → sought (parts (text_at site.texts token)) site (own ∷ site.around) ≡ x → datatype_sought x ≡ Some found → IsUsable found
        by_case (look_ups.Known other) is f = sought_usable (parts (text_at site.texts token)) found (is ∙ ap look_ups.Known (let same : other ≡ found = cc in same))
        by_case look_ups.Missing is f = absurd (no_some found f)
        by_case look_ups.Elsewhere is f = absurd (no_some found f)

-- ---- what is from elsewhere
-- a path of two parts or more, of which the first isn't declared
record IsElsewhere (ps : List (List ℕ)) (site : Site) : Type 0 where
  id : List ℕ
  next : List ℕ
  rest : List (List ℕ)
  whole : ps ≡ id ∷ next ∷ rest
  new : is_top id site ≡ false

not_found : (o : Option Found) → look_ups.known o ≡ look_ups.Elsewhere → ⊥
not_found None e = cc
not_found (Some found) e = cc

elsewhere_parts : (ps : List (List ℕ)) (site : Site) (bodies : List Environment) → sought ps site bodies ≡ look_ups.Elsewhere → IsElsewhere ps site
elsewhere_parts [] site bodies e = absurd (never e)
  where
    never : look_ups.Missing ≡ look_ups.Elsewhere → ⊥
    never f = cc
elsewhere_parts (id ∷ []) site bodies e = absurd (not_found _ e)
elsewhere_parts (id ∷ next ∷ rest) site bodies e = by_case (structure_sought id site bodies) (is_top id site) refl e
  where
    by_case : (o : Option Environment) (b : Bool) → is_top id site ≡ b → along_sought (next ∷ rest) o b ≡ look_ups.Elsewhere → IsElsewhere (id ∷ next ∷ rest) site
    by_case (Some env) b is f = absurd (not_found _ f)
    by_case None true is f = absurd (never f)
      where
        never : look_ups.Missing ≡ look_ups.Elsewhere → ⊥
        never g = cc
    by_case None false is f = record { id = id; next = next; rest = rest; whole = refl; new = is }

-- ---- type functions that are looked up
module _
    (tops : List (List ℕ)) (T : State → Known)
    (grows : (s t : State) → Adds tops s t → (n count : ℕ) → T s n count ≡ true → T t n count ≡ true)
    (external_known : (s : State) (n : ℕ) (name : TypeName) → HasSoundNames tops s → slice_get s.names n ≡ Some name → name.external ≡ true → T s n name.arity ≡ true) where
  -- the names are sound, what can be seen can be used, and what isn't declared is none of the top identifiers
  pub record CanStand (site : Site) (own : Environment) (s : State) : Type 0 where
    pub sound : HasSoundNames tops s
    pub sees : CanSee (T s) site own
    pub outside : (id : List ℕ) → is_top id site ≡ false → All (λ top. top ≢ id) tops

  pub stand_added : (site : Site) (own : Environment) (s t : State) → Adds tops s t → CanStand site own s → CanStand site own t
  stand_added site own s t a h = record { sound = a.sound h.sound; sees = see_still (T s) (T t) (grows s t a) site own h.sees; outside = h.outside }

  pub record IsFunction (s : State) (r : TypeFn × State) : Type 0 where
    pub adds : Adds tops s r.1
    pub function : IsSoundFunction (T r.1) r.0

  elsewhere_kept : (text : List ℕ) (count token : ℕ) (site : Site) (own : Environment) (s : State) (r : TypeFn × State) → IsLongTypeIdentifier text → ((n : ℕ) → r.0 ≡ name_function n count → count ≤ 1999) → CanStand site own s
      → IsElsewhere (parts text) site → function_sought look_ups.Elsewhere text count token s ≡ Ok r → IsFunction s r
  elsewhere_kept text count token site own s r long few h k e =
      let a = then_parts (external_named text count token (external_number text count s.names) s) (λ (q : ℕ × State). Ok (name_function q.0 count, q.1)) r e in
      let is = ok_is (name_function a.0.0 count, a.0.1) r a.2 in
      let few_now = few a.0.0 (sym (ap (λ (x : TypeFn × State). x.0) is)) in
      let outside = subst (λ id. All (λ top. top ≢ id) tops) (sym (ap first_of k.whole)) (h.outside k.id k.new) in
      let b = external_kept tops text count (long_path text k.id k.next k.rest long k.whole) few_now outside token s a.0 a.1 in
      let n = b.numbered in
      subst (IsFunction s) is (record {
        adds = b.adds;
        function = name_sound (T a.0.1) a.0.0 count (subst (λ arity. T a.0.1 a.0.0 arity ≡ true) n.arity (external_known a.0.1 a.0.0 n.name ((b.adds).sound h.sound) n.stands n.external)) few_now;
      })

  pub function_kept : (token count : ℕ) (site : Site) (own : Environment) (s : State) (r : TypeFn × State) → IsLongTypeIdentifier (text_at site.texts token) → ((n : ℕ) → r.0 ≡ name_function n count → count ≤ 1999) → CanStand site own s
      → function_at token count site own s ≡ Ok r → IsFunction s r
  function_kept token count site own s r long few h e = by_case (sought (parts (text_at site.texts token)) site (own ∷ site.around)) refl e
    where
      by_case : (x : Sought) → sought (parts (text_at site.texts token)) site (own ∷ site.around) ≡ x → function_sought x (text_at site.texts token) count token s ≡ Ok r → IsFunction s r
      by_case (look_ups.Known found) is f =
          subst (IsFunction s) (ok_is (found.entry.fun, s) r f)
          (record { adds = adds_none tops s s (record { names = refl; gone = refl }); function = (sought_usable (T s) site own h.sees (parts (text_at site.texts token)) found is).entry })
      by_case look_ups.Missing is f = absurd (no_failure _ r f)
      by_case look_ups.Elsewhere is f = elsewhere_kept (text_at site.texts token) count token site own s r long few h (elsewhere_parts _ site _ is) f
