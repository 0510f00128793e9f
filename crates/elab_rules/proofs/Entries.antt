-- Induction on entries, and entries with their types changed, by their outermost form.
use Rattle.std.proofs.Common.{◌≡◌, ℕ, List, [], ◌∷◌, ◌++◌, map, refl, sym, ap, ap₂, ◌∙◌, subst, rules}
use Rattle.std.proofs.lemmas.List.Elements.{All-append, All-cons, All-head, All-nil, All-tail}
use Rattle.std.specs.List.{All}
use Rattle.type_core.specs.declared.ty.Ty.{Ty}
use Rattle.type_core.specs.Schemes.{closed}
use Rattle.type_core.proofs.Trees.{EachOf}
use Rattle.elab_rules.specs.declared.entry.Entry.{Entry, out-Entry}
use Rattle.elab_rules.specs.declared.entry.Entry.TheFolds.{fold-Entry, fold-roll-Entry, ind-Entry, map-Entry}
use Rattle.elab_rules.specs.declared.entry.Entry.TheOpen.{Entry-F, Tycon, Value, Structure}
use Rattle.elab_rules.specs.declared.entry.Entry.TheVariants as entry
use Rattle.elab_rules.specs.declared.entry.Entry.TheVariants.{rolls-Tycon, rolls-Value, rolls-Structure}
use Rattle.elab_rules.specs.declared.entry.Entry.TheViews as views
use Rattle.elab_rules.specs.declared.entry.Entry.TheViews.{roll-Entry}
use Rattle.elab_rules.specs.declared.entry.TypeEntry.{TypeEntry}
use Rattle.elab_rules.specs.declared.entry.ValueEntry.{ValueEntry}
use Rattle.elab_rules.specs.Environments.{Environment, the_structure, the_type, the_value}
use Rattle.elab_rules.specs.Replacing.{entry_with, environment_with, type_with, value_with, with_step}
use Rattle.elab_rules.specs.Wheres.{types_of, types_step}

each_of : (P : Entry → Type 0) (es : List ((e : Entry) × P e)) → EachOf P (map (λ e. e.0) es)
each_of P [] = tt
each_of P (e ∷ es) = (e.1, each_of P es)

-- what holds of type constructors, of values, and of structures where it holds of what is in them, holds of each entry
pub induct_entry : (P : Entry → Type 0)
    → ((type : TypeEntry) → P (entry.Tycon type))
    → ((value : ValueEntry) → P (entry.Value value))
    → ((id : List ℕ) (entries : List Entry) → EachOf P entries → P (entry.Structure id entries))
    → (e : Entry) → P e
induct_entry P on_type on_value on_structure = ind-Entry P (λ x y is. subst (λ z. P (roll-Entry z)) is (level y))
  where
    level : (y : Entry-F ((e : Entry) × P e)) → P (roll-Entry (map-Entry _ _ (λ e. e.0) y))
    level (Tycon type) = subst P (sym (rolls-Tycon type)) (on_type type)
    level (Value value) = subst P (sym (rolls-Value value)) (on_value value)
    level (Structure id es) = subst P (sym (rolls-Structure id (map (λ e. e.0) es))) (on_structure id _ (each_of P es))

pub each_entry : (P : Entry → Type 0) → ((e : Entry) → P e) → (es : List Entry) → EachOf P es
each_entry P all [] = tt
each_entry P all (e ∷ es) = (all e, each_entry P all es)

-- ---- an entry, taken apart
pub out_type : (type : TypeEntry) → out-Entry (entry.Tycon type) ≡ Tycon type
out_type type = search (rules, views.the_lemmas)

pub out_value : (value : ValueEntry) → out-Entry (entry.Value value) ≡ Value value
out_value value = search (rules, views.the_lemmas)

pub out_structure : (id : List ℕ) (entries : List Entry) → out-Entry (entry.Structure id entries) ≡ Structure id entries
out_structure id entries = search (rules, views.the_lemmas)

-- ---- entries with their types changed
module _ (g : Ty → Ty) where
  pub with_type : (type : TypeEntry) → entry_with g (entry.Tycon type) ≡ the_type (type_with g type)
  with_type type = ap (entry_with g) (sym (rolls-Tycon type)) ∙ fold-roll-Entry _ (with_step g) _

  pub with_value : (value : ValueEntry) → entry_with g (entry.Value value) ≡ the_value (value_with g value)
  with_value value = ap (entry_with g) (sym (rolls-Value value)) ∙ fold-roll-Entry _ (with_step g) _

  pub with_structure : (id : List ℕ) (entries : List Entry) → entry_with g (entry.Structure id entries) ≡ the_structure id (environment_with g entries)
  with_structure id entries = ap (entry_with g) (sym (rolls-Structure id entries)) ∙ fold-roll-Entry _ (with_step g) _

  pub with_appended : (xs ys : Environment) → environment_with g (xs ++ ys) ≡ environment_with g xs ++ environment_with g ys
  with_appended [] ys = refl
  with_appended (x ∷ xs) ys = ap (λ rest. entry_with g x ∷ rest) (with_appended xs ys)

-- ---- the types of an entry
abbrev pub entry_types : Entry → List Ty
entry_types = fold-Entry (List Ty) types_step

pub types_type : (type : TypeEntry) → entry_types (entry.Tycon type) ≡ type.fun.body ∷ []
types_type type = ap entry_types (sym (rolls-Tycon type)) ∙ fold-roll-Entry _ types_step _

pub types_value : (value : ValueEntry) → entry_types (entry.Value value) ≡ value.scheme.body ∷ []
types_value value = ap entry_types (sym (rolls-Value value)) ∙ fold-roll-Entry _ types_step _

pub types_structure : (id : List ℕ) (entries : List Entry) → entry_types (entry.Structure id entries) ≡ types_of entries
types_structure id entries = ap entry_types (sym (rolls-Structure id entries)) ∙ fold-roll-Entry _ types_step _

-- ---- what holds of all types
pub all_appended : {A : Type 0} (P : A → Type 0) (xs ys : List A) → All P (xs ++ ys) → All P xs × All P ys
all_appended P [] ys h = (All-nil P, h)
all_appended P (x ∷ xs) ys h =
    let q = all_appended P xs ys (All-tail P x (xs ++ ys) h) in
    (All-cons P x xs (All-head P x (xs ++ ys) h) q.0, q.1)

pub all_types_cons : (P : Ty → Type 0) (e : Entry) (env : Environment) → All P (entry_types e) → All P (types_of env) → All P (types_of (e ∷ env))
all_types_cons P e env h k = All-append P (entry_types e) (types_of env) h k

pub all_types_parts : (P : Ty → Type 0) (e : Entry) (env : Environment) → All P (types_of (e ∷ env)) → All P (entry_types e) × All P (types_of env)
all_types_parts P e env h = all_appended P (entry_types e) (types_of env) h

pub all_types_appended : (P : Ty → Type 0) (xs ys : Environment) → All P (types_of xs) → All P (types_of ys) → All P (types_of (xs ++ ys))
all_types_appended P [] ys h k = k
all_types_appended P (x ∷ xs) ys h k = let q = all_types_parts P x xs h in all_types_cons P x (xs ++ ys) q.0 (all_types_appended P xs ys q.1 k)

pub all_types_split : (P : Ty → Type 0) (xs ys : Environment) → All P (types_of (xs ++ ys)) → All P (types_of xs) × All P (types_of ys)
all_types_split P [] ys h = (All-nil P, h)
all_types_split P (x ∷ xs) ys h =
    let q = all_types_parts P x (xs ++ ys) h in
    let r = all_types_split P xs ys q.1 in
    (all_types_cons P x xs q.0 r.0, r.1)

-- ---- functions that agree on all types of an environment
module _ (g h : Ty → Ty) where
  abbrev Agree : Entry → Type 0
  Agree e = All (λ t. g t ≡ h t) (entry_types e) → entry_with g e ≡ entry_with h e

  entries_agree : (es : List Entry) → EachOf Agree es → All (λ t. g t ≡ h t) (types_of es) → environment_with g es ≡ environment_with h es
  entries_agree [] hs a = refl
  entries_agree (e ∷ es) hs a = let p = all_types_parts (λ t. g t ≡ h t) e es a in ap₂ ◌∷◌ (hs.0 p.0) (entries_agree es hs.1 p.1)

  one_type : (ts : List Ty) (t : Ty) → ts ≡ t ∷ [] → All (λ t. g t ≡ h t) ts → g t ≡ h t
  one_type ts t e a = All-head (λ t. g t ≡ h t) t [] (subst (All (λ t. g t ≡ h t)) e a)

  agree_at : (e : Entry) → Agree e
  agree_at = induct_entry Agree
      (λ type a. with_type g type ∙ ap (λ t. let changed : TypeEntry = record { id = type.id; fun = record { arity = type.fun.arity; body = t }; constructors = type.constructors } in the_type changed) (one_type _ _ (types_type type) a) ∙ sym (with_type h type))
      (λ value a. with_value g value ∙ ap (λ t. let changed : ValueEntry = record { id = value.id; kind = value.kind; scheme = closed t } in the_value changed) (one_type _ _ (types_value value) a) ∙ sym (with_value h value))
      (λ id es hs a. with_structure g id es ∙ ap (the_structure id) (entries_agree es hs (subst (All (λ t. g t ≡ h t)) (types_structure id es) a)) ∙ sym (with_structure h id es))

  pub with_agrees : (env : Environment) → All (λ t. g t ≡ h t) (types_of env) → environment_with g env ≡ environment_with h env
  with_agrees env = entries_agree env (each_entry Agree agree_at env)

-- ---- one function after another
-- the second after the first, where the scheme is closed between them, is the third
abbrev pub IsAfter : (Ty → Ty) → (Ty → Ty) → (Ty → Ty) → Ty → Type 0
IsAfter h g k t = (h (g t) ≡ k t) × (closed (h (closed (g t)).body) ≡ closed (k t))

module _ (h g k : Ty → Ty) where
  abbrev After : Entry → Type 0
  After e = All (IsAfter h g k) (entry_types e) → entry_with h (entry_with g e) ≡ entry_with k e

  entries_after : (es : List Entry) → EachOf After es → All (IsAfter h g k) (types_of es) → environment_with h (environment_with g es) ≡ environment_with k es
  entries_after [] hs a = refl
  entries_after (e ∷ es) hs a = let p = all_types_parts (IsAfter h g k) e es a in ap₂ ◌∷◌ (hs.0 p.0) (entries_after es hs.1 p.1)

  type_after : (ts : List Ty) (t : Ty) → ts ≡ t ∷ [] → All (IsAfter h g k) ts → IsAfter h g k t
  type_after ts t e a = All-head (IsAfter h g k) t [] (subst (All (IsAfter h g k)) e a)

  after_at : (e : Entry) → After e
  after_at = induct_entry After
      (λ type a. ap (entry_with h) (with_type g type) ∙ with_type h (type_with g type)
      ∙ ap (λ t. let changed : TypeEntry = record { id = type.id; fun = record { arity = type.fun.arity; body = t }; constructors = type.constructors } in the_type changed) (type_after _ _ (types_type type) a).0
      ∙ sym (with_type k type))
      (λ value a. ap (entry_with h) (with_value g value) ∙ with_value h (value_with g value)
      ∙ ap (λ s. let changed : ValueEntry = record { id = value.id; kind = value.kind; scheme = s } in the_value changed) (type_after _ _ (types_value value) a).1
      ∙ sym (with_value k value))
      (λ id es hs a. ap (entry_with h) (with_structure g id es) ∙ with_structure h id (environment_with g es)
      ∙ ap (the_structure id) (entries_after es hs (subst (All (IsAfter h g k)) (types_structure id es) a))
      ∙ sym (with_structure k id es))

  pub with_after : (env : Environment) → All (IsAfter h g k) (types_of env) → environment_with h (environment_with g env) ≡ environment_with k env
  with_after env = entries_after env (each_entry After after_at env)

-- ---- what holds of all types afterwards
module _ (g : Ty → Ty) (Q P : Ty → Type 0) (one : (t : Ty) → Q t → P (g t) × P (closed (g t)).body) where
  abbrev Keeps : Entry → Type 0
  Keeps e = All Q (entry_types e) → All P (entry_types (entry_with g e))

  all_keep : (es : List Entry) → EachOf Keeps es → All Q (types_of es) → All P (types_of (environment_with g es))
  all_keep [] hs a = All-nil P
  all_keep (e ∷ es) hs a = let p = all_types_parts Q e es a in all_types_cons P (entry_with g e) (environment_with g es) (hs.0 p.0) (all_keep es hs.1 p.1)

  just : (t : Ty) → P t → All P (t ∷ [])
  just t p = All-cons P t [] p (All-nil P)

  asked : (ts : List Ty) (t : Ty) → ts ≡ t ∷ [] → All Q ts → Q t
  asked ts t e a = All-head Q t [] (subst (All Q) e a)

  keep_at : (e : Entry) → Keeps e
  keep_at = induct_entry Keeps
      (λ type a. subst (All P) (sym (ap entry_types (with_type g type) ∙ types_type (type_with g type))) (just _ (one _ (asked _ _ (types_type type) a)).0))
      (λ value a. subst (All P) (sym (ap entry_types (with_value g value) ∙ types_value (value_with g value))) (just _ (one _ (asked _ _ (types_value value) a)).1))
      (λ id es hs a. subst (All P) (sym (ap entry_types (with_structure g id es) ∙ types_structure id (environment_with g es))) (all_keep es hs (subst (All Q) (types_structure id es) a)))

  pub types_with : (env : Environment) → All Q (types_of env) → All P (types_of (environment_with g env))
  types_with env = all_keep env (each_entry Keeps keep_at env)
