-- The initial environment is settled by every sound table.
use Rattle.std.proofs.Common.{◌≡◌, ℕ, false, List, [], ◌∷◌, ◌++◌, refl, ap, ap₂, ◌∙◌}
use Rattle.std.specs.List.{range_with_len}
use Rattle.type_core.specs.declared.member.Kind.TheVariants.{Con}
use Rattle.type_core.specs.declared.ty.Scheme.{Scheme}
use Rattle.type_core.specs.declared.ty.Ty.{Ty}
use Rattle.type_core.specs.declared.ty.VarId.{VarId}
use Rattle.type_core.specs.Schemes.{IsScheme, numbers}
use Rattle.type_core.specs.Variables.{meet_all, variables}
use Rattle.type_core.proofs.Closed.{closed_scheme}
use Rattle.type_core.proofs.Trees.{EachOf, variables_arrow, variables_con, variables_tup, variables_var}
use Rattle.elab_env.specs.Sound.{IsSound}
use Rattle.elab_env.specs.Table.{Table}
use Rattle.elab_rules.specs.declared.entry.Entry.{Entry}
use Rattle.elab_rules.specs.declared.entry.Entry.TheVariants as entry
use Rattle.elab_rules.specs.declared.entry.TypeEntry.{TypeEntry}
use Rattle.elab_rules.specs.declared.entry.ValueEntry.{ValueEntry}
use Rattle.elab_rules.specs.Environments.{Environment, the_value}
use Rattle.elab_rules.specs.InitialEnvironment.{alpha, arrow, base_constructors, base_types, constant, constructor, initial_environment, pair, unary, unary_constructors, unary_types}
use Rattle.elab_rules.specs.Replacing.{entry_with, environment_with}
use Rattle.elab_rules.specs.Standing.{IsSettled}
use Rattle.elab_rules.proofs.Entries.{with_appended, with_type, with_value}
use Rattle.elab_rules.proofs.InitialTypes.{initial_over, initial_resolved}

-- ---- the schemes of the initial constructors
abbrev pub first_variable : VarId
first_variable = record { n = 0; eq = false }

pub scheme_by : (t : Ty) (vs : List VarId) (count : ℕ) → variables t ≡ vs → numbers (meet_all [] vs) ≡ range_with_len 0 count → IsScheme (record { vars = count; body = t })
scheme_by t vs count is h = ap (λ ws. numbers (meet_all [] ws)) is ∙ h

pub variables_constant : (n : ℕ) → variables (constant n) ≡ []
variables_constant n = variables_con (record { 0 = n }) []

pub variables_unary : (n : ℕ) → variables (unary n alpha) ≡ first_variable ∷ []
variables_unary n = variables_con (record { 0 = n }) (alpha ∷ []) ∙ ap (λ vs. vs ++ []) (variables_var first_variable)

pub variables_made : (n : ℕ) → variables (arrow alpha (unary n alpha)) ≡ first_variable ∷ first_variable ∷ []
variables_made n = variables_arrow alpha (unary n alpha) ∙ ap₂ ◌++◌ (variables_var first_variable) (variables_unary n)

pub variables_cons : (n : ℕ) → variables (arrow (pair alpha (unary n alpha)) (unary n alpha)) ≡ first_variable ∷ first_variable ∷ first_variable ∷ []
variables_cons n =
    variables_arrow (pair alpha (unary n alpha)) (unary n alpha)
    ∙ ap₂ ◌++◌ (variables_tup (alpha ∷ unary n alpha ∷ []) ∙ ap₂ (λ vs ws. vs ++ (ws ++ [])) (variables_var first_variable) (variables_unary n)) (variables_unary n)

-- ---- entries that are what they are when closed again
abbrev Stays : Environment → Type 0
Stays env = environment_with (λ t. t) env ≡ env

record StaysAlone (e : Entry) : Type 0 where
  same : entry_with (λ t. t) e ≡ e

each_stays : (es : List Entry) → EachOf StaysAlone es → Stays es
each_stays [] hs = refl
each_stays (e ∷ es) hs = ap₂ ◌∷◌ (hs.0).same (each_stays es hs.1)

type_stays : (type : TypeEntry) → StaysAlone (entry.Tycon type)
type_stays type = record { same = with_type (λ t. t) type }

value_stays : (id : List ℕ) (vars : ℕ) (t : Ty) → IsScheme (record { vars = vars; body = t }) → StaysAlone (constructor id vars t)
value_stays id vars t is =
    let scheme : Scheme = record { vars = vars; body = t } in
    record { same = with_value (λ t. t) (record { id = id; kind = Con; scheme = scheme }) ∙ ap (λ s. let value : ValueEntry = record { id = id; kind = Con; scheme = s } in the_value value) (closed_scheme scheme is) }

constant_stays : (id : List ℕ) (n : ℕ) → StaysAlone (constructor id 0 (constant n))
constant_stays id n = value_stays id 0 (constant n) (scheme_by (constant n) [] 0 (variables_constant n) refl)

unary_stays : (id : List ℕ) (n : ℕ) → StaysAlone (constructor id 1 (unary n alpha))
unary_stays id n = value_stays id 1 (unary n alpha) (scheme_by (unary n alpha) (first_variable ∷ []) 1 (variables_unary n) refl)

made_stays : (id : List ℕ) (n : ℕ) → StaysAlone (constructor id 1 (arrow alpha (unary n alpha)))
made_stays id n = value_stays id 1 (arrow alpha (unary n alpha)) (scheme_by (arrow alpha (unary n alpha)) (first_variable ∷ first_variable ∷ []) 1 (variables_made n) refl)

cons_stays : (id : List ℕ) (n : ℕ) → StaysAlone (constructor id 1 (arrow (pair alpha (unary n alpha)) (unary n alpha)))
cons_stays id n =
    value_stays id 1 (arrow (pair alpha (unary n alpha)) (unary n alpha))
    (scheme_by (arrow (pair alpha (unary n alpha)) (unary n alpha)) (first_variable ∷ first_variable ∷ first_variable ∷ []) 1 (variables_cons n) refl)

base_types_stay : Stays base_types
base_types_stay =
    each_stays base_types (type_stays _, (type_stays _, (type_stays _, (type_stays _, (type_stays _, (type_stays _, (type_stays _, (type_stays _, (type_stays _, tt)))))))))

unary_types_stay : Stays unary_types
unary_types_stay = each_stays unary_types (type_stays _, (type_stays _, (type_stays _, (type_stays _, (type_stays _, (type_stays _, tt))))))

base_constructors_stay : Stays base_constructors
base_constructors_stay = each_stays base_constructors (constant_stays _ 7, (constant_stays _ 7, (constant_stays _ 8, (constant_stays _ 8, (constant_stays _ 8, tt)))))

unary_constructors_stay : Stays unary_constructors
unary_constructors_stay = each_stays unary_constructors (unary_stays _ 9, (cons_stays _ 9, (made_stays _ 10, (unary_stays _ 11, (made_stays _ 11, tt)))))

append_stays : (xs ys : Environment) → Stays xs → Stays ys → Stays (xs ++ ys)
append_stays xs ys h k = with_appended (λ t. t) xs ys ∙ ap₂ ◌++◌ h k

initial_stays : Stays initial_environment
unfolding initial_environment
initial_stays =
    append_stays base_types (unary_types ++ base_constructors ++ unary_constructors) base_types_stay
    (append_stays unary_types (base_constructors ++ unary_constructors) unary_types_stay
    (append_stays base_constructors unary_constructors base_constructors_stay unary_constructors_stay))

pub initial_settled : (table : Table) → IsSound table → IsSettled table initial_environment
initial_settled table sound = record {
  over = initial_over table sound;
  resolved = initial_resolved table sound;
  is_closed = initial_stays;
}
