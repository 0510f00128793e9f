-- What is so of each type constructor, value and structure of entries is so of what is found in them and of what they become.
use Rattle.std.proofs.Common.{◌≡◌, ℕ, Bool, true, false, bytes_eq, if◌then◌else◌, List, [], ◌∷◌, ◌++◌, Option, Some, None, refl, sym, ap, ◌∙◌, subst}
use Rattle.std.proofs.lemmas.List.Elements.{All-append, All-cons, All-head, All-nil}
use Rattle.std.specs.List.{All}
use Rattle.std.specs.Option.{option_and_then, option_or, option_to_list}
use Rattle.type_core.specs.declared.ty.Ty.{Ty}
use Rattle.elab_rules.specs.declared.entry.Entry.{Entry}
use Rattle.elab_rules.specs.declared.entry.Entry.TheFolds.{fold-Entry, fold-roll-Entry}
use Rattle.elab_rules.specs.declared.entry.Entry.TheVariants.{rolls-Structure, rolls-Value}
use Rattle.elab_rules.specs.declared.entry.TypeEntry.{TypeEntry}
use Rattle.elab_rules.specs.declared.entry.ValueEntry.{ValueEntry}
use Rattle.elab_rules.specs.Environments.{Environment, structure_at, structure_in, structure_of, the_structure, the_type, the_value, type_at, type_in, type_of, value_at, value_in, value_of, values_in}
use Rattle.elab_rules.specs.LongIdentifiers.{Found, found_in, type_along}
use Rattle.elab_rules.specs.Replacing.{environment_with, type_with, value_with}
use Rattle.elab_soundness.specs.Soundness.{AreAll, no_entries, structure_entry, type_entry, value_entry}
use Rattle.elab_rules.specs.Wheres.{types_of, value_types_of, value_types_step}
use Rattle.elab_rules.proofs.Entries.{all_types_parts, out_structure, out_type, out_value, types_structure, types_type, types_value, with_structure, with_type, with_value}
use Rattle.elab_types.proofs.Lists.{all_parts, no_some}

pub first_or : {A : Type 0} (P : A → Type 0) (o rest : Option A) (a : A) → ((x : A) → o ≡ Some x → P x) → ((x : A) → rest ≡ Some x → P x) → option_or o rest ≡ Some a → P a
first_or P None rest a h k e = k a e
first_or P (Some x) rest a h k e = h a e

some_if : {A : Type 0} (P : A → Type 0) (b : Bool) (x a : A) → P x → (if b then Some x else None) ≡ Some a → P a
some_if P true x a h e = subst P (let same : x ≡ a = cc in same) h
some_if P false x a h e = absurd (no_some a e)

pub then_some : {A B : Type 0} (next : A → Option B) (o : Option A) (b : B) → option_and_then next o ≡ Some b → (a : A) × (o ≡ Some a) × (next a ≡ Some b)
then_some next None b e = absurd (no_some b e)
then_some next (Some a) b e = (a, refl, e)

module _ (P : TypeEntry → Type 0) (Q : ValueEntry → Type 0) (R : List ℕ → Type 0) where
  abbrev So : Environment → Type 0
  So = AreAll P Q R

  pub all_together : (xs ys : Environment) → So xs → So ys → So (xs ++ ys)
  all_together xs ys no_entries k = k
  all_together xs ys (type_entry {entries = es} p h) k = type_entry p (all_together es ys h k)
  all_together xs ys (value_entry {entries = es} q h) k = value_entry q (all_together es ys h k)
  all_together xs ys (structure_entry {entries = es} r inner h) k = structure_entry r inner (all_together es ys h k)

  -- ---- what is found
  pub type_given : (id : List ℕ) (env : Environment) (type : TypeEntry) → So env → type_in id env ≡ Some type → P type
  type_given id env type no_entries e = absurd (no_some type e)
  type_given id env type (type_entry {type = t} {entries = es} p h) e =
      first_or P (type_of id (the_type t)) (type_in id es) type
      (λ x f. some_if P (bytes_eq id t.id) t x p (sym (ap (type_at id) (out_type t)) ∙ f))
      (λ x f. type_given id es x h f) e
  type_given id env type (value_entry {value = v} {entries = es} q h) e =
      first_or P (type_of id (the_value v)) (type_in id es) type
      (λ x f. absurd (no_some x (sym (ap (type_at id) (out_value v)) ∙ f)))
      (λ x f. type_given id es x h f) e
  type_given id env type (structure_entry {id = name} {inner = inner} {entries = es} r k h) e =
      first_or P (type_of id (the_structure name inner)) (type_in id es) type
      (λ x f. absurd (no_some x (sym (ap (type_at id) (out_structure name inner)) ∙ f)))
      (λ x f. type_given id es x h f) e

  value_given : (id : List ℕ) (env : Environment) (value : ValueEntry) → So env → value_in id env ≡ Some value → Q value
  value_given id env value no_entries e = absurd (no_some value e)
  value_given id env value (type_entry {type = t} {entries = es} p h) e =
      first_or Q (value_of id (the_type t)) (value_in id es) value
      (λ x f. absurd (no_some x (sym (ap (value_at id) (out_type t)) ∙ f)))
      (λ x f. value_given id es x h f) e
  value_given id env value (value_entry {value = v} {entries = es} q h) e =
      first_or Q (value_of id (the_value v)) (value_in id es) value
      (λ x f. some_if Q (bytes_eq id v.id) v x q (sym (ap (value_at id) (out_value v)) ∙ f))
      (λ x f. value_given id es x h f) e
  value_given id env value (structure_entry {id = name} {inner = inner} {entries = es} r k h) e =
      first_or Q (value_of id (the_structure name inner)) (value_in id es) value
      (λ x f. absurd (no_some x (sym (ap (value_at id) (out_structure name inner)) ∙ f)))
      (λ x f. value_given id es x h f) e

  pub structure_given : (id : List ℕ) (env entries : Environment) → So env → structure_in id env ≡ Some entries → So entries
  structure_given id env entries no_entries e = absurd (no_some entries e)
  structure_given id env entries (type_entry {type = t} {entries = es} p h) e =
      first_or So (structure_of id (the_type t)) (structure_in id es) entries
      (λ x f. absurd (no_some x (sym (ap (structure_at id) (out_type t)) ∙ f)))
      (λ x f. structure_given id es x h f) e
  structure_given id env entries (value_entry {value = v} {entries = es} q h) e =
      first_or So (structure_of id (the_value v)) (structure_in id es) entries
      (λ x f. absurd (no_some x (sym (ap (structure_at id) (out_value v)) ∙ f)))
      (λ x f. structure_given id es x h f) e
  structure_given id env entries (structure_entry {id = name} {inner = inner} {entries = es} r k h) e =
      first_or So (structure_of id (the_structure name inner)) (structure_in id es) entries
      (λ x f. some_if So (bytes_eq id name) inner x k (sym (ap (structure_at id) (out_structure name inner)) ∙ f))
      (λ x f. structure_given id es x h f) e

  listed : (o : Option ValueEntry) → ((value : ValueEntry) → o ≡ Some value → Q value) → All Q (option_to_list o)
  listed None h = All-nil Q
  listed (Some value) h = All-cons Q value [] (h value refl) (All-nil Q)

  values_given : (ids : List (List ℕ)) (env : Environment) → So env → All Q (values_in ids env)
  values_given [] env h = All-nil Q
  values_given (id ∷ ids) env h = All-append Q (option_to_list (value_in id env)) (values_in ids env) (listed (value_in id env) (λ value. value_given id env value h)) (values_given ids env h)

  -- a type constructor that was found, with its constructors
  pub record IsFoundSo (found : Found) : Type 0 where
    pub entry : P found.entry
    pub constructors : All Q found.constructors

  pub found_given : (env : Environment) (o : Option TypeEntry) (found : Found) → So env → ((type : TypeEntry) → o ≡ Some type → P type) → found_in env o ≡ Some found → IsFoundSo found
  found_given env None found h each e = absurd (no_some found e)
  found_given env (Some type) found h each e =
      let made : Found = record { entry = type; constructors = values_in type.constructors env } in
      subst IsFoundSo (let same : made ≡ found = cc in same) (record { entry = each type refl; constructors = values_given type.constructors env h })

  pub type_along_given : (ids : List (List ℕ)) (env : Environment) (found : Found) → So env → type_along ids env ≡ Some found → IsFoundSo found
  type_along_given [] env found h e = absurd (no_some found e)
  type_along_given (id ∷ []) env found h e = found_given env (type_in id env) found h (λ type f. type_given id env type h f) e
  type_along_given (id ∷ next ∷ ids) env found h e =
      let p = then_some (type_along (next ∷ ids)) (structure_in id env) found e in
      type_along_given (next ∷ ids) p.0 found (structure_given id env p.0 h p.1) p.2

-- ---- entries that are changed
module _ (P P' : TypeEntry → Type 0) (Q Q' : ValueEntry → Type 0) (R : List ℕ → Type 0) where
  pub all_with : (g : Ty → Ty) → ((type : TypeEntry) → P type → P' (type_with g type)) → ((value : ValueEntry) → Q value → Q' (value_with g value)) → (env : Environment) → AreAll P Q R env → AreAll P' Q' R (environment_with g env)
  all_with g one two env no_entries = no_entries
  all_with g one two env (type_entry {type = t} {entries = es} p h) =
      subst (λ e. AreAll P' Q' R (e ∷ environment_with g es)) (sym (with_type g t)) (type_entry (one t p) (all_with g one two es h))
  all_with g one two env (value_entry {value = v} {entries = es} q h) =
      subst (λ e. AreAll P' Q' R (e ∷ environment_with g es)) (sym (with_value g v)) (value_entry (two v q) (all_with g one two es h))
  all_with g one two env (structure_entry {id = id} {inner = inner} {entries = es} r k h) =
      subst (λ e. AreAll P' Q' R (e ∷ environment_with g es)) (sym (with_structure g id inner)) (structure_entry r (all_with g one two inner k) (all_with g one two es h))

module _ (P P' : TypeEntry → Type 0) (Q Q' : ValueEntry → Type 0) (R R' : List ℕ → Type 0) where
  pub all_weaker : ((type : TypeEntry) → P type → P' type) → ((value : ValueEntry) → Q value → Q' value) → ((id : List ℕ) → R id → R' id) → (env : Environment) → AreAll P Q R env → AreAll P' Q' R' env
  all_weaker one two three env no_entries = no_entries
  all_weaker one two three env (type_entry {type = t} {entries = es} p h) = type_entry (one t p) (all_weaker one two three es h)
  all_weaker one two three env (value_entry {value = v} {entries = es} q h) = value_entry (two v q) (all_weaker one two three es h)
  all_weaker one two three env (structure_entry {id = id} {inner = inner} {entries = es} r k h) = structure_entry (three id r) (all_weaker one two three inner k) (all_weaker one two three es h)

-- ---- the types of values
abbrev entry_values : Entry → List Ty
entry_values = fold-Entry (List Ty) value_types_step

values_value : (value : ValueEntry) → entry_values (the_value value) ≡ value.scheme.body ∷ []
values_value value = ap entry_values (sym (rolls-Value value)) ∙ fold-roll-Entry _ value_types_step _

values_structure : (id : List ℕ) (entries : List Entry) → entry_values (the_structure id entries) ≡ value_types_of entries
values_structure id entries = ap entry_values (sym (rolls-Structure id entries)) ∙ fold-roll-Entry _ value_types_step _

-- ---- what is so of all types besides
module _ (P P' : TypeEntry → Type 0) (Q Q' : ValueEntry → Type 0) (R : List ℕ → Type 0) (L N : Ty → Type 0) where
  the_first : (ts : List Ty) (t : Ty) (T : Ty → Type 0) → ts ≡ t ∷ [] → All T ts → T t
  the_first ts t T e h = All-head T t [] (subst (All T) e h)

  pub all_limited : ((type : TypeEntry) → P type → L type.fun.body → P' type) → ((value : ValueEntry) → Q value → L value.scheme.body → N value.scheme.body → Q' value)
      → (env : Environment) → AreAll P Q R env → All L (types_of env) → All N (value_types_of env) → AreAll P' Q' R env
  all_limited one two env no_entries l n = no_entries
  all_limited one two env (type_entry {type = t} {entries = es} p h) l n =
      let a = all_types_parts L (the_type t) es l in
      let b = all_parts N (entry_values (the_type t)) (value_types_of es) n in
      type_entry (one t p (the_first _ t.fun.body L (types_type t) a.0)) (all_limited one two es h a.1 b.1)
  all_limited one two env (value_entry {value = v} {entries = es} q h) l n =
      let a = all_types_parts L (the_value v) es l in
      let b = all_parts N (entry_values (the_value v)) (value_types_of es) n in
      value_entry (two v q (the_first _ v.scheme.body L (types_value v) a.0) (the_first _ v.scheme.body N (values_value v) b.0)) (all_limited one two es h a.1 b.1)
  all_limited one two env (structure_entry {id = id} {inner = inner} {entries = es} r k h) l n =
      let a = all_types_parts L (the_structure id inner) es l in
      let b = all_parts N (entry_values (the_structure id inner)) (value_types_of es) n in
      structure_entry r (all_limited one two inner k (subst (All L) (types_structure id inner) a.0) (subst (All N) (values_structure id inner) b.0)) (all_limited one two es h a.1 b.1)
