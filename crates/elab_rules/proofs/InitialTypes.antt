-- The initial types are over the names of every table, and mention no name that is gone.
use Rattle.std.proofs.Common.{◌≡◌, ℕ, ◌≤◌, true, false, List, [], ◌∷◌, ◌++◌, length, drop, codes, slice_get, refl, sym, ◌∙◌, subst, arith}
use Rattle.std.specs.List.{All}
use Rattle.std.proofs.lemmas.Bool.{and_from}
use Rattle.std.proofs.lemmas.List.Elements.{All-cons, All-nil, All-weaker}
use Rattle.type_core.specs.declared.names.TypeName.{TypeName}
use Rattle.type_core.specs.declared.ty.Ty.{Ty}
use Rattle.type_core.specs.declared.ty.Ty.TheVariants as ty
use Rattle.type_core.specs.InitialNames.{initial_names}
use Rattle.type_core.specs.Types.{IsOver, takes}
use Rattle.type_core.specs.declared.member.Kind.TheVariants.{Con}
use Rattle.type_core.proofs.Trees.{EachOf}
use Rattle.type_core.proofs.TypeTests.{is_over_arrow, is_over_con, is_over_tup, is_over_var}
use Rattle.elab_env.specs.declared.realization.Realization.{Realization}
use Rattle.elab_env.specs.Sound.{AreRealizations, IsResolved, IsSound}
use Rattle.elab_env.specs.Table.{Table}
use Rattle.elab_env.proofs.Kept.{described_later}
use Rattle.elab_env.proofs.NameLists.{keeps_appended}
use Rattle.elab_rules.specs.declared.entry.Entry.{Entry}
use Rattle.elab_rules.specs.declared.entry.Entry.TheVariants as entry
use Rattle.elab_rules.specs.declared.entry.TypeEntry.{TypeEntry}
use Rattle.elab_rules.specs.declared.entry.ValueEntry.{ValueEntry}
use Rattle.elab_rules.specs.InitialEnvironment.{alpha, arrow, base_constructors, base_type, base_types, constant, constructor, initial_environment, pair, unary, unary_constructors, unary_type, unary_types}
use Rattle.elab_rules.specs.Standing.{AreOver}
use Rattle.elab_rules.specs.Wheres.{types_of}
use Rattle.elab_rules.proofs.Entries.{all_types_appended, all_types_cons, entry_types, types_type, types_value}
use Rattle.elab_rules.proofs.LaterNames.{over_resolved}

module _ (names : List TypeName) (first : (n count : ℕ) → takes (slice_get initial_names n) count ≡ true → takes (slice_get names n) count ≡ true) where
  pub constant_over : (n : ℕ) → takes (slice_get initial_names n) 0 ≡ true → IsOver names (constant n)
  constant_over n e = is_over_con names (record { 0 = n }) [] ∙ and_from _ _ (first n 0 e) refl

  alpha_over : IsOver names alpha
  alpha_over = is_over_var names (record { n = 0; eq = false })

  unary_over : (n : ℕ) → takes (slice_get initial_names n) 1 ≡ true → IsOver names (unary n alpha)
  unary_over n e = is_over_con names (record { 0 = n }) (alpha ∷ []) ∙ and_from _ _ (first n 1 e) (and_from _ _ alpha_over refl)

  arrow_over : (a b : Ty) → IsOver names a → IsOver names b → IsOver names (arrow a b)
  arrow_over a b p q = is_over_arrow names a b ∙ and_from _ _ p q

  pair_over : (a b : Ty) → IsOver names a → IsOver names b → IsOver names (pair a b)
  pair_over a b p q = is_over_tup names (a ∷ b ∷ []) ∙ and_from _ _ p (and_from _ _ q refl)

  -- the types of the entry are over the names
  record IsEntryOver (e : Entry) : Type 0 where
    types : All (IsOver names) (entry_types e)

  each_over : (es : List Entry) → EachOf IsEntryOver es → AreOver names es
  each_over [] hs = All-nil (IsOver names)
  each_over (e ∷ es) hs = all_types_cons (IsOver names) e es (hs.0).types (each_over es hs.1)

  type_over : (type : TypeEntry) → IsOver names type.fun.body → IsEntryOver (entry.Tycon type)
  type_over type over = record { types = subst (All (IsOver names)) (sym (types_type type)) (All-cons (IsOver names) type.fun.body [] over (All-nil (IsOver names))) }

  value_over : (value : ValueEntry) → IsOver names value.scheme.body → IsEntryOver (entry.Value value)
  value_over value over = record { types = subst (All (IsOver names)) (sym (types_value value)) (All-cons (IsOver names) value.scheme.body [] over (All-nil (IsOver names))) }

  constant_type : (id : List ℕ) (n : ℕ) (constructors : List (List ℕ)) → takes (slice_get initial_names n) 0 ≡ true → IsEntryOver (base_type id n constructors)
  constant_type id n constructors e = type_over (record { id = id; fun = record { arity = 0; body = constant n }; constructors = constructors }) (constant_over n e)

  applied_type : (id : List ℕ) (n : ℕ) (constructors : List (List ℕ)) → takes (slice_get initial_names n) 1 ≡ true → IsEntryOver (unary_type id n constructors)
  applied_type id n constructors e = type_over (record { id = id; fun = record { arity = 1; body = unary n alpha }; constructors = constructors }) (unary_over n e)

  made_value : (id : List ℕ) (vars : ℕ) (body : Ty) → IsOver names body → IsEntryOver (constructor id vars body)
  made_value id vars body over = value_over (record { id = id; kind = Con; scheme = record { vars = vars; body = body } }) over

  base_over : AreOver names base_types
  base_over =
      each_over base_types (
        constant_type _ 0 _ refl,
        (constant_type _ 1 _ refl, (constant_type _ 2 _ refl, (constant_type _ 3 _ refl, (constant_type _ 4 _ refl, (constant_type _ 5 _ refl, (constant_type _ 6 _ refl, (constant_type _ 7 _ refl, (constant_type _ 8 _ refl, tt)))))))),
      )

  unary_types_over : AreOver names unary_types
  unary_types_over =
      each_over unary_types (
        applied_type _ 9 _ refl,
        (applied_type _ 10 _ refl, (applied_type _ 11 _ refl, (applied_type _ 12 _ refl, (applied_type _ 13 _ refl, (type_over (record { id = codes "unit"; fun = record { arity = 0; body = ty.Tup [] }; constructors = [] }) (is_over_tup names []), tt))))),
      )

  base_constructors_over : AreOver names base_constructors
  base_constructors_over =
      each_over base_constructors (
        made_value _ _ _ (constant_over 7 refl),
        (made_value _ _ _ (constant_over 7 refl), (made_value _ _ _ (constant_over 8 refl), (made_value _ _ _ (constant_over 8 refl), (made_value _ _ _ (constant_over 8 refl), tt)))),
      )

  unary_constructors_over : AreOver names unary_constructors
  unary_constructors_over =
      each_over unary_constructors (
        made_value _ _ (unary 9 alpha) (unary_over 9 refl),
        (
          made_value _ _ (arrow (pair alpha (unary 9 alpha)) (unary 9 alpha)) (arrow_over _ _ (pair_over _ _ alpha_over (unary_over 9 refl)) (unary_over 9 refl)),
          (
            made_value _ _ (arrow alpha (unary 10 alpha)) (arrow_over _ _ alpha_over (unary_over 10 refl)),
            (made_value _ _ (unary 11 alpha) (unary_over 11 refl), (made_value _ _ (arrow alpha (unary 11 alpha)) (arrow_over _ _ alpha_over (unary_over 11 refl)), tt)),
          ),
        ),
      )

  pub initial_over_names : AreOver names initial_environment
  unfolding initial_environment
  initial_over_names =
      all_types_appended (IsOver names) base_types (unary_types ++ base_constructors ++ unary_constructors) base_over
      (all_types_appended (IsOver names) unary_types (base_constructors ++ unary_constructors) unary_types_over
      (all_types_appended (IsOver names) base_constructors unary_constructors base_constructors_over unary_constructors_over))

-- ---- in a sound table
first_of : (table : Table) → IsSound table → (n count : ℕ) → takes (slice_get initial_names n) count ≡ true → takes (slice_get table.names n) count ≡ true
first_of table sound n count e =
    subst (λ xs. takes (slice_get xs n) count ≡ true) (sym sound.initial)
    ((keeps_appended initial_names (drop (length initial_names) table.names)).arities n count e)

pub initial_over : (table : Table) → IsSound table → AreOver table.names initial_environment
initial_over table sound = initial_over_names table.names (first_of table sound)

all_later : (names : List TypeName) (rs : List Realization) → AreRealizations names rs → All (λ r. length initial_names ≤ r.name.0) rs
all_later names [] h = All-nil (λ (r : Realization). length initial_names ≤ r.name.0)
all_later names (r ∷ rs) h = All-cons (λ (s : Realization). length initial_names ≤ s.name.0) r rs (described_later names r.name.0 h.0.described) (all_later names rs h.1)

pub initial_resolved : (table : Table) → IsSound table → All (IsResolved table.realizations) (types_of initial_environment)
initial_resolved table sound =
    All-weaker (IsOver initial_names) (IsResolved table.realizations)
    (λ t over. over_resolved (length initial_names) initial_names table.realizations t (omega arith) (all_later table.names table.realizations sound.realizations) over)
    (types_of initial_environment) (initial_over_names initial_names (λ n count e. e))
