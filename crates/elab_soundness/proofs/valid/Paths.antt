-- The paths of what is described are distinct where no identifier stands twice in an environment.
use Rattle.std.proofs.Common.{◌≡◌, ◌≢◌, ℕ, suc, Bool, true, false, true≢false, is_some, bytes_eq, if◌then◌else◌, List, [], ◌∷◌, ◌++◌, map, codes, slice_get, append_assoc, Option, Some, None, refl, sym, ap, ap₂, ◌∙◌, subst, arith}
use Rattle.std.proofs.lemmas.Cmp.{nat_list_eq_equiv}
use Rattle.std.proofs.lemmas.List.{append_cancel_left, map-append}
use Rattle.std.proofs.lemmas.List.Elements.{All-append, All-cons, All-head, All-nil, All-tail, All-weaker}
use Rattle.std.proofs.lemmas.List.Kept.{AllPairs-cons}
use Rattle.std.proofs.lemmas.Slice.Eq.{bytes_eq-Decides}
use Rattle.std.specs.List.{All}
use Rattle.std.specs.Option.{option_map, option_or}
use Rattle.type_core.specs.declared.library.Tycon.{Tycon as LibraryTycon}
use Rattle.type_core.specs.declared.member.Member.{Member}
use Rattle.type_core.specs.declared.ty.Ty.{Ty}
use Rattle.type_core.specs.Lists.{concatenated}
use Rattle.type_core.specs.ValidLibrary.{AreDistinct as AllDistinct}
use Rattle.elab_env.proofs.Parts.{map_map}
use Rattle.elab_rules.specs.declared.entry.Entry.{Entry, out-Entry}
use Rattle.elab_rules.specs.declared.entry.Entry.TheFolds.{fold-roll-Entry}
use Rattle.elab_rules.specs.declared.entry.Entry.TheOpen.{Entry-F, Tycon, Value, Structure}
use Rattle.elab_rules.specs.declared.entry.Entry.TheVariants.{rolls-Structure, rolls-Tycon, rolls-Value}
use Rattle.elab_rules.specs.declared.entry.TypeEntry.{TypeEntry}
use Rattle.elab_rules.specs.declared.entry.ValueEntry.{ValueEntry}
use Rattle.elab_rules.specs.Distinct.{AreDistinct, IsFirst, is_like}
use Rattle.elab_rules.specs.Environments.{Environment, is_structure, structure_at, structure_in, structure_of, the_structure, the_type, the_value, type_at, value_at}
use Rattle.elab_types.specs.Finding.{place_of}
use Rattle.elab_rules.specs.Library.{entry_members, entry_tycons, members_step, tycons_step}
use Rattle.elab_rules.specs.Replacing.{environment_with, type_with, value_with}
use Rattle.elab_soundness.specs.Soundness.{AreAll, no_entries, paths_within, structure_entry, type_entry, value_entry}
use Rattle.elab_rules.specs.States.{member_of, tycon_of, within}
use Rattle.elab_rules.proofs.DistinctMore.{distinct_from, distinct_inner, distinct_level}
use Rattle.elab_rules.proofs.Entries.{out_structure, out_type, out_value, with_structure, with_type, with_value}
use Rattle.elab_types.proofs.Lists.{no_some, pairs_parts}
use Rattle.sig_base.proofs.LongIdentifiers.{NoDot}
use Rattle.elab_soundness.proofs.valid.LongPaths.{dot_apart, same_before_dot}

-- ---- what an entry has at a path
pub tycons_type : (type : TypeEntry) (path : List ℕ) → entry_tycons (the_type type) path ≡ tycon_of path type ∷ []
tycons_type type path = ap (λ e. entry_tycons e path) (sym (rolls-Tycon type)) ∙ ap (λ f. f path) (fold-roll-Entry _ tycons_step _)

pub tycons_value : (value : ValueEntry) (path : List ℕ) → entry_tycons (the_value value) path ≡ []
tycons_value value path = ap (λ e. entry_tycons e path) (sym (rolls-Value value)) ∙ ap (λ f. f path) (fold-roll-Entry _ tycons_step _)

-- the type constructors of an environment that stands at a path
abbrev pub tycons_within : List ℕ → Environment → List LibraryTycon
tycons_within path env = concatenated (map (λ entry. entry_tycons entry path) env)

pub tycons_structure : (id : List ℕ) (entries : Environment) (path : List ℕ) → entry_tycons (the_structure id entries) path ≡ tycons_within (within path id) entries
tycons_structure id entries path =
    ap (λ e. entry_tycons e path) (sym (rolls-Structure id entries)) ∙ ap (λ f. f path) (fold-roll-Entry _ tycons_step _)
    ∙ ap concatenated (map_map (λ f. f (within path id)) entry_tycons entries)

pub members_type : (type : TypeEntry) (path : List ℕ) → entry_members (the_type type) path ≡ []
members_type type path = ap (λ e. entry_members e path) (sym (rolls-Tycon type)) ∙ ap (λ f. f path) (fold-roll-Entry _ members_step _)

pub members_value : (value : ValueEntry) (path : List ℕ) → entry_members (the_value value) path ≡ member_of path value ∷ []
members_value value path = ap (λ e. entry_members e path) (sym (rolls-Value value)) ∙ ap (λ f. f path) (fold-roll-Entry _ members_step _)

-- the members of an environment that stands at a path
abbrev pub members_within : List ℕ → Environment → List Member
members_within path env = concatenated (map (λ entry. entry_members entry path) env)

pub members_structure : (id : List ℕ) (entries : Environment) (path : List ℕ) → entry_members (the_structure id entries) path ≡ members_within (within path id) entries
members_structure id entries path =
    ap (λ e. entry_members e path) (sym (rolls-Structure id entries)) ∙ ap (λ f. f path) (fold-roll-Entry _ members_step _)
    ∙ ap concatenated (map_map (λ f. f (within path id)) entry_members entries)

-- ---- the paths of an environment's type constructors, or of its values
abbrev pub one_if : Bool → List ℕ → List (List ℕ)
one_if true path = path ∷ []
one_if false path = []

-- the paths of type constructors, where the flag is set, else of values
pub record ArePaths (types values : Bool) (paths : List ℕ → Environment → List (List ℕ)) : Type 0 where
  pub none : (path : List ℕ) → paths path [] ≡ []
  pub type : (path : List ℕ) (type : TypeEntry) (es : Environment) → paths path (the_type type ∷ es) ≡ one_if types (within path type.id) ++ paths path es
  pub value : (path : List ℕ) (value : ValueEntry) (es : Environment) → paths path (the_value value ∷ es) ≡ one_if values (within path value.id) ++ paths path es
  pub structure : (path id : List ℕ) (inner es : Environment) → paths path (the_structure id inner ∷ es) ≡ paths (within path id) inner ++ paths path es

more_tycons : (path : List ℕ) (e : Entry) (es : Environment) → paths_within path (e ∷ es) ≡ map (λ (t : LibraryTycon). t.path) (entry_tycons e path) ++ paths_within path es
more_tycons path e es = map-append (λ (t : LibraryTycon). t.path) (entry_tycons e path) (tycons_within path es)

pub tycon_paths : ArePaths true false paths_within
tycon_paths = record {
  none = λ path. refl;
  type = λ path type es. more_tycons path (the_type type) es ∙ ap (λ ts. map (λ (t : LibraryTycon). t.path) ts ++ paths_within path es) (tycons_type type path);
  value = λ path value es. more_tycons path (the_value value) es ∙ ap (λ ts. map (λ (t : LibraryTycon). t.path) ts ++ paths_within path es) (tycons_value value path);
  structure = λ path id inner es. more_tycons path (the_structure id inner) es ∙ ap (λ ts. map (λ (t : LibraryTycon). t.path) ts ++ paths_within path es) (tycons_structure id inner path);
}

abbrev pub member_paths_within : List ℕ → Environment → List (List ℕ)
member_paths_within path env = map (λ (m : Member). m.path) (members_within path env)

more_members : (path : List ℕ) (e : Entry) (es : Environment) → member_paths_within path (e ∷ es) ≡ map (λ (m : Member). m.path) (entry_members e path) ++ member_paths_within path es
more_members path e es = map-append (λ (m : Member). m.path) (entry_members e path) (members_within path es)

pub member_paths : ArePaths false true member_paths_within
member_paths = record {
  none = λ path. refl;
  type = λ path type es. more_members path (the_type type) es ∙ ap (λ ms. map (λ (m : Member). m.path) ms ++ member_paths_within path es) (members_type type path);
  value = λ path value es. more_members path (the_value value) es ∙ ap (λ ms. map (λ (m : Member). m.path) ms ++ member_paths_within path es) (members_value value path);
  structure = λ path id inner es. more_members path (the_structure id inner) es ∙ ap (λ ms. map (λ (m : Member). m.path) ms ++ member_paths_within path es) (members_structure id inner path);
}

-- ---- paths within paths
pub within_within : (path a b : List ℕ) → within (within path a) b ≡ within path (within a b)
within_within path a b =
    append_assoc (within path a) (codes ".") b
    ∙ append_assoc (path ++ codes ".") a (codes "." ++ b)
    ∙ ap (λ rest. (path ++ codes ".") ++ rest) (sym (append_assoc a (codes ".") b))

pub same_within : (path a b : List ℕ) → within path a ≡ within path b → a ≡ b
same_within path a b e = append_cancel_left (path ++ codes ".") a b e

within_is : (a b : List ℕ) → within a b ≡ a ++ 46 ∷ b
within_is a b = append_assoc a (codes ".") b

-- an identifier is no path, and a path begins with one identifier
not_within : (path id other rest : List ℕ) → NoDot id → within path id ≡ within (within path other) rest → ⊥
not_within path id other rest h e = dot_apart id other rest h (same_within path id (within other rest) (e ∙ within_within path other rest) ∙ within_is other rest)

same_structure : (path a x b y : List ℕ) → NoDot a → NoDot b → within (within path a) x ≡ within (within path b) y → a ≡ b
same_structure path a x b y h k e =
    same_before_dot a b x y h k
    (sym (within_is a x) ∙ same_within path (within a x) (within b y) (sym (within_within path a x) ∙ e ∙ within_within path b y) ∙ within_is b y)

-- ---- distinct environments
unlike_first : (b : Bool) (o : Option ℕ) (n : ℕ) → (if b then Some 0 else option_map (λ place. suc place) o) ≡ Some (suc n) → (b ≡ false) × (o ≡ Some n)
unlike_first true o n e = cc
unlike_first false None n e = absurd (no_some (suc n) e)
unlike_first false (Some m) n e = (refl, let same : m ≡ n = cc in ap (λ k. Some k) same)

all_got : {A : Type 0} (P : A → Type 0) (xs : List A) → ((n : ℕ) (x : A) → slice_get xs n ≡ Some x → P x) → All P xs
all_got P [] one = All-nil P
all_got P (x ∷ xs) one = All-cons P x xs (one 0 x refl) (all_got P xs (λ n y at. one (suc n) y at))

module _ (e : Entry) (es : Environment) (h : AreDistinct (e ∷ es)) where
  abbrev IsUnlike : Entry → Type 0
  IsUnlike x = is_like (out-Entry x) e ≡ false

  later : (n : ℕ) (x : Entry) → slice_get es n ≡ Some x → IsUnlike x × IsFirst n es (out-Entry x)
  later n x at = unlike_first (is_like (out-Entry x) e) (place_of (is_like (out-Entry x)) es) n (distinct_level (e ∷ es) (suc n) x h at)

  pub unlike : All IsUnlike es
  unlike = all_got IsUnlike es (λ n x at. (later n x at).0)

  same_text : (id name : List ℕ) → bytes_eq id name ≡ true → id ≡ name
  same_text id name t = (bytes_eq-Decides id name).0 t

  no_structure : (id : List ℕ) (xs entries : Environment) → All IsUnlike xs → structure_in id xs ≡ Some entries → is_structure id e ≡ false
  no_structure id [] entries k f = absurd (no_some entries f)
  no_structure id (x ∷ xs) entries k f = by_form (out-Entry x) (All-head IsUnlike x xs k) (λ g. no_structure id xs entries (All-tail IsUnlike x xs k) g) f
    where
      by_form : (y : Entry-F Entry) → is_like y e ≡ false → (structure_in id xs ≡ Some entries → is_structure id e ≡ false) → option_or (structure_at id y) (structure_in id xs) ≡ Some entries → is_structure id e ≡ false
      by_form (Tycon type) other rest g = rest g
      by_form (Value value) other rest g = rest g
      by_form (Structure name inner) other rest g = by_name (bytes_eq id name) refl g
        where
          by_name : (b : Bool) → bytes_eq id name ≡ b → option_or (if b then Some inner else None) (structure_in id xs) ≡ Some entries → is_structure id e ≡ false
          by_name true is g = ap (λ text. is_structure text e) (same_text id name is) ∙ other
          by_name false is g = rest g

  none_here : (o : Option Environment) → is_some o ≡ false → o ≡ None
  none_here None f = refl
  none_here (Some entries) f = absurd (true≢false f)

  pub distinct_rest : AreDistinct es
  distinct_rest = distinct_from es (λ n x at. (later n x at).1)
      (λ id entries at. distinct_inner (e ∷ es) id entries h (ap (λ o. option_or o (structure_in id es)) (none_here (structure_of id e) (no_structure id es entries unlike at)) ∙ at))

pub distinct_within : (id : List ℕ) (inner es : Environment) → AreDistinct (the_structure id inner ∷ es) → AreDistinct inner
distinct_within id inner es h =
    distinct_inner (the_structure id inner ∷ es) id inner h
    (ap (λ o. option_or o (structure_in id es)) (ap (structure_at id) (out_structure id inner) ∙ ap (λ b. if b then Some inner else None) (nat_list_eq_equiv.refl id)))

-- ---- distinct lists
pub distinct_both : {A : Type 0} (xs ys : List A) → AllDistinct xs → AllDistinct ys → All (λ x. All (λ y. x ≢ y) ys) xs → AllDistinct (xs ++ ys)
distinct_both [] ys h k apart = k
distinct_both (x ∷ xs) ys h k apart =
    let p = pairs_parts (λ a b. a ≢ b) x xs h in
    AllPairs-cons (λ a b. a ≢ b) x (xs ++ ys) (All-append (λ y. x ≢ y) xs ys p.0 (All-head (λ z. All (λ y. z ≢ y) ys) x xs apart))
    (distinct_both xs ys p.1 k (All-tail (λ z. All (λ y. z ≢ y) ys) x xs apart))

-- two parts of a list that is distinct
pub distinct_apart : {A : Type 0} (xs ys : List A) → AllDistinct (xs ++ ys) → All (λ x. All (λ y. x ≢ y) ys) xs × AllDistinct ys
distinct_apart [] ys h = (All-nil _, h)
distinct_apart {A = A} (x ∷ xs) ys h =
    let p = pairs_parts (λ a b. a ≢ b) x (xs ++ ys) h in
    let q = distinct_apart xs ys p.1 in
    (All-cons (λ z. All (λ y. z ≢ y) ys) x xs (latter xs p.0) q.0, q.1)
  where
    latter : (zs : List A) → All (λ y. x ≢ y) (zs ++ ys) → All (λ y. x ≢ y) ys
    latter [] k = k
    latter (z ∷ zs) k = latter zs (All-tail (λ y. x ≢ y) z (zs ++ ys) k)

-- ---- the paths of a distinct environment
-- identifiers without dots
abbrev TypeNoDot : TypeEntry → Type 0
TypeNoDot type = NoDot type.id

abbrev ValueNoDot : ValueEntry → Type 0
ValueNoDot value = NoDot value.id

abbrev pub HaveNoDots : Environment → Type 0
HaveNoDots = AreAll TypeNoDot ValueNoDot NoDot

module _ (types values : Bool) (paths : List ℕ → Environment → List (List ℕ)) (are : ArePaths types values paths) where
  if_one : (P : List ℕ → Type 0) (b : Bool) (path : List ℕ) → (b ≡ true → P path) → All P (one_if b path)
  if_one P true path h = All-cons P path [] (h refl) (All-nil P)
  if_one P false path h = All-nil P

  -- each path stands within the path of the environment
  abbrev pub StandsIn : List ℕ → List ℕ → Type 0
  StandsIn path q = (rest : List ℕ) × (q ≡ within path rest)

  pub under : (path : List ℕ) (env : Environment) → HaveNoDots env → All (StandsIn path) (paths path env)
  under path env no_entries = subst (All (StandsIn path)) (sym (are.none path)) (All-nil _)
  under path env (type_entry {type = t} {entries = es} p h) =
      subst (All (StandsIn path)) (sym (are.type path t es)) (All-append (StandsIn path) (one_if types (within path t.id)) (paths path es) (if_one (StandsIn path) types _ (λ set. (t.id, refl))) (under path es h))
  under path env (value_entry {value = v} {entries = es} p h) =
      subst (All (StandsIn path)) (sym (are.value path v es)) (All-append (StandsIn path) (one_if values (within path v.id)) (paths path es) (if_one (StandsIn path) values _ (λ set. (v.id, refl))) (under path es h))
  under path env (structure_entry {id = id} {inner = inner} {entries = es} r k h) =
      subst (All (StandsIn path)) (sym (are.structure path id inner es))
      (All-append (StandsIn path) (paths (within path id) inner) (paths path es)
      (All-weaker (StandsIn (within path id)) (StandsIn path) (λ q s. (within id s.0, s.1 ∙ within_within path id s.0)) (paths (within path id) inner) (under (within path id) inner k))
      (under path es h))

  -- what is so of the paths of entries, each of which is unlike another one
  module _ (path : List ℕ) (e : Entry) (P : List ℕ → Type 0)
      (on_type : types ≡ true → (t : TypeEntry) → NoDot t.id → is_like (Tycon t) e ≡ false → P (within path t.id))
      (on_value : values ≡ true → (v : ValueEntry) → NoDot v.id → is_like (Value v) e ≡ false → P (within path v.id))
      (on_structure : (id : List ℕ) (inner : Environment) (rest : List ℕ) → NoDot id → is_like (Structure id inner) e ≡ false → P (within (within path id) rest)) where
    abbrev Unlike : Entry → Type 0
    Unlike x = is_like (out-Entry x) e ≡ false

    all_apart : (env : Environment) → HaveNoDots env → All Unlike env → All P (paths path env)
    all_apart env no_entries u = subst (All P) (sym (are.none path)) (All-nil _)
    all_apart env (type_entry {type = t} {entries = es} p h) u =
        subst (All P) (sym (are.type path t es))
        (All-append P (one_if types (within path t.id)) (paths path es)
        (if_one P types _ (λ set. on_type set t p (sym (ap (λ x. is_like x e) (out_type t)) ∙ All-head Unlike (the_type t) es u)))
        (all_apart es h (All-tail Unlike (the_type t) es u)))
    all_apart env (value_entry {value = v} {entries = es} p h) u =
        subst (All P) (sym (are.value path v es))
        (All-append P (one_if values (within path v.id)) (paths path es)
        (if_one P values _ (λ set. on_value set v p (sym (ap (λ x. is_like x e) (out_value v)) ∙ All-head Unlike (the_value v) es u)))
        (all_apart es h (All-tail Unlike (the_value v) es u)))
    all_apart env (structure_entry {id = id} {inner = inner} {entries = es} r k h) u =
        subst (All P) (sym (are.structure path id inner es))
        (All-append P (paths (within path id) inner) (paths path es)
        (All-weaker (StandsIn (within path id)) P (λ q s. subst P (sym s.1) (on_structure id inner s.0 r (sym (ap (λ x. is_like x e) (out_structure id inner)) ∙ All-head Unlike (the_structure id inner) es u))) (paths (within path id) inner) (under (within path id) inner k))
        (all_apart es h (All-tail Unlike (the_structure id inner) es u)))

  other : (a b : List ℕ) → bytes_eq a b ≡ false → a ≢ b
  other a b f same = true≢false (sym ((bytes_eq-Decides a b).1 same) ∙ f)

  some_false : {A : Type 0} (b : Bool) (x : A) → is_some (if b then Some x else None) ≡ false → b ≡ false
  some_false true x f = f
  some_false false x f = refl

  pub distinct_paths : (path : List ℕ) (env : Environment) → (types ≡ true → values ≡ true → ⊥) → HaveNoDots env → AreDistinct env → AllDistinct (paths path env)
  distinct_paths path env one no_entries d = subst AllDistinct (sym (are.none path)) (λ i j x l m f. absurd (omega (arith, m)))
  distinct_paths path env one (type_entry {type = t} {entries = es} p h) d =
      subst AllDistinct (sym (are.type path t es)) (by_flag types refl (distinct_paths path es one h (distinct_rest (the_type t) es d)))
    where
      by_flag : (b : Bool) → types ≡ b → AllDistinct (paths path es) → AllDistinct (one_if b (within path t.id) ++ paths path es)
      by_flag false set rest = rest
      by_flag true set rest = AllPairs-cons (λ a b. a ≢ b) (within path t.id) (paths path es)
          (all_apart path (the_type t) (λ q. within path t.id ≢ q)
          (λ s u k l same. other u.id t.id (some_false (bytes_eq u.id t.id) t (sym (ap (λ x. is_some (type_at u.id x)) (out_type t)) ∙ l)) (sym (same_within path t.id u.id same)))
          (λ s v k l. absurd (one set s))
          (λ id inner rest k l. not_within path t.id id rest p)
          es h (unlike (the_type t) es d))
          rest
  distinct_paths path env one (value_entry {value = v} {entries = es} p h) d =
      subst AllDistinct (sym (are.value path v es)) (by_flag values refl (distinct_paths path es one h (distinct_rest (the_value v) es d)))
    where
      by_flag : (b : Bool) → values ≡ b → AllDistinct (paths path es) → AllDistinct (one_if b (within path v.id) ++ paths path es)
      by_flag false set rest = rest
      by_flag true set rest = AllPairs-cons (λ a b. a ≢ b) (within path v.id) (paths path es)
          (all_apart path (the_value v) (λ q. within path v.id ≢ q)
          (λ s t k l. absurd (one s set))
          (λ s u k l same. other u.id v.id (some_false (bytes_eq u.id v.id) v (sym (ap (λ x. is_some (value_at u.id x)) (out_value v)) ∙ l)) (sym (same_within path v.id u.id same)))
          (λ id inner rest k l. not_within path v.id id rest p)
          es h (unlike (the_value v) es d))
          rest
  distinct_paths path env one (structure_entry {id = id} {inner = inner} {entries = es} r k h) d =
      subst AllDistinct (sym (are.structure path id inner es))
      (distinct_both (paths (within path id) inner) (paths path es)
      (distinct_paths (within path id) inner one k (distinct_within id inner es d))
      (distinct_paths path es one h (distinct_rest (the_structure id inner) es d))
      (All-weaker (StandsIn (within path id)) (λ x. All (λ y. x ≢ y) (paths path es)) (λ x s. subst (λ z. All (λ y. z ≢ y) (paths path es)) (sym s.1) (from s.0)) (paths (within path id) inner) (under (within path id) inner k)))
    where
      from : (x : List ℕ) → All (λ y. within (within path id) x ≢ y) (paths path es)
      from x = all_apart path (the_structure id inner) (λ y. within (within path id) x ≢ y)
          (λ s t l u same. not_within path t.id id x l (sym same))
          (λ s v l u same. not_within path v.id id x l (sym same))
          (λ name others y l u same. other name id (some_false (bytes_eq name id) inner (sym (ap (λ z. is_some (structure_at name z)) (out_structure id inner)) ∙ u)) (sym (same_structure path id x name y r l same)))
          es h (unlike (the_structure id inner) es d)

  -- ---- other environments
  joined : (path : List ℕ) (ys : Environment) (first : List (List ℕ)) (es whole : Environment) → paths path whole ≡ first ++ paths path es → paths path (es ++ ys) ≡ paths path es ++ paths path ys → first ++ paths path (es ++ ys) ≡ paths path whole ++ paths path ys
  joined path ys first es whole e f = ap (λ ps. first ++ ps) f ∙ sym (append_assoc first (paths path es) (paths path ys)) ∙ ap (λ ps. ps ++ paths path ys) (sym e)

  pub paths_together : (path : List ℕ) (xs ys : Environment) → HaveNoDots xs → paths path (xs ++ ys) ≡ paths path xs ++ paths path ys
  paths_together path xs ys no_entries = ap (λ ps. ps ++ paths path ys) (sym (are.none path))
  paths_together path xs ys (type_entry {type = t} {entries = es} p h) = are.type path t (es ++ ys) ∙ joined path ys (one_if types (within path t.id)) es (the_type t ∷ es) (are.type path t es) (paths_together path es ys h)
  paths_together path xs ys (value_entry {value = v} {entries = es} p h) = are.value path v (es ++ ys) ∙ joined path ys (one_if values (within path v.id)) es (the_value v ∷ es) (are.value path v es) (paths_together path es ys h)
  paths_together path xs ys (structure_entry {id = id} {inner = inner} {entries = es} r k h) = are.structure path id inner (es ++ ys) ∙ joined path ys (paths (within path id) inner) es (the_structure id inner ∷ es) (are.structure path id inner es) (paths_together path es ys h)

  pub paths_with : (g : Ty → Ty) (path : List ℕ) (env : Environment) → HaveNoDots env → paths path (environment_with g env) ≡ paths path env
  paths_with g path env no_entries = refl
  paths_with g path env (type_entry {type = t} {entries = es} p h) =
      ap (λ e. paths path (e ∷ environment_with g es)) (with_type g t) ∙ are.type path (type_with g t) (environment_with g es)
      ∙ ap (λ ps. one_if types (within path t.id) ++ ps) (paths_with g path es h) ∙ sym (are.type path t es)
  paths_with g path env (value_entry {value = v} {entries = es} p h) =
      ap (λ e. paths path (e ∷ environment_with g es)) (with_value g v) ∙ are.value path (value_with g v) (environment_with g es)
      ∙ ap (λ ps. one_if values (within path v.id) ++ ps) (paths_with g path es h) ∙ sym (are.value path v es)
  paths_with g path env (structure_entry {id = id} {inner = inner} {entries = es} r k h) =
      ap (λ e. paths path (e ∷ environment_with g es)) (with_structure g id inner) ∙ are.structure path id (environment_with g inner) (environment_with g es)
      ∙ ap₂ ◌++◌ (paths_with g (within path id) inner k) (paths_with g path es h) ∙ sym (are.structure path id inner es)

  -- the paths at another path
  moved_within : (front path id : List ℕ) → within (front ++ path) id ≡ front ++ within path id
  moved_within front path id = ap (λ text. text ++ id) (append_assoc front path (codes ".")) ∙ append_assoc front (path ++ codes ".") id

  moved_one : (front path : List ℕ) (b : Bool) (id : List ℕ) (ps qs : List (List ℕ)) → ps ≡ map (λ q. front ++ q) qs → one_if b (within (front ++ path) id) ++ ps ≡ map (λ q. front ++ q) (one_if b (within path id) ++ qs)
  moved_one front path true id ps qs e = ap₂ ◌∷◌ (moved_within front path id) e
  moved_one front path false id ps qs e = e

  pub paths_moved : (front path : List ℕ) (env : Environment) → HaveNoDots env → paths (front ++ path) env ≡ map (λ q. front ++ q) (paths path env)
  paths_moved front path env no_entries = are.none (front ++ path) ∙ sym (ap (map (λ q. front ++ q)) (are.none path))
  paths_moved front path env (type_entry {type = t} {entries = es} p h) =
      are.type (front ++ path) t es ∙ moved_one front path types t.id (paths (front ++ path) es) (paths path es) (paths_moved front path es h) ∙ sym (ap (map (λ q. front ++ q)) (are.type path t es))
  paths_moved front path env (value_entry {value = v} {entries = es} p h) =
      are.value (front ++ path) v es ∙ moved_one front path values v.id (paths (front ++ path) es) (paths path es) (paths_moved front path es h) ∙ sym (ap (map (λ q. front ++ q)) (are.value path v es))
  paths_moved front path env (structure_entry {id = id} {inner = inner} {entries = es} r k h) =
      are.structure (front ++ path) id inner es
      ∙ ap₂ ◌++◌ (ap (λ p. paths p inner) (moved_within front path id) ∙ paths_moved front (within path id) inner k) (paths_moved front path es h)
      ∙ sym (map-append (λ q. front ++ q) (paths (within path id) inner) (paths path es))
      ∙ sym (ap (map (λ q. front ++ q)) (are.structure path id inner es))
