-- The parts of a `where` (the Definition, rule 64).
use Rattle.std.specs.Prelude.{ℕ, ◌==◌, ◌&&◌, ◌||◌, Bool, true, false, not, is_some, nat_le, List, [], ◌∷◌, Option, Some, None, length, map, slice_get, Ok}
use Rattle.sig_parser.specs.declared.tree.WherePart.{WherePart}
use Rattle.type_core.specs.declared.ty.Ty.{Ty}
use Rattle.type_core.specs.declared.ty.VarId.{VarId}
use Rattle.type_core.specs.declared.type_fn.TypeFn.{TypeFn}
use Rattle.type_core.specs.Height.{height_of}
use Rattle.type_core.specs.Lists.{all_true, concatenated}
use Rattle.type_core.specs.NormalSize.{normal_size_of}
use Rattle.type_core.specs.Size.{size_of}
use Rattle.elab_env.specs.Names.{arity_of, equality_at}
use Rattle.elab_rules.specs.declared.entry.TypeEntry.{TypeEntry}
use Rattle.elab_rules.specs.declared.entry.Entry.TheOpen.{Entry-F, Tycon, Value, Structure}
use Rattle.elab_rules.specs.declared.entry.Entry.TheFolds.{fold-Entry}
use Rattle.elab_rules.specs.declared.refusal.Why.TheVariants.{ArityClash, BadRealization, NeedsEquality, NormalTooLarge, NotFlexible, TypeTooHigh, TypeTooLarge, Unbound}
use Rattle.elab_rules.specs.Bodies.{Site, Described}
use Rattle.elab_rules.specs.Environments.{Environment}
use Rattle.elab_rules.specs.Equality.{admits, is_never}
use Rattle.sig_base.specs.LongIdentifiers.{parts}
use Rattle.elab_rules.specs.LongIdentifiers.{type_along}
use Rattle.elab_rules.specs.Outcome.{Outcome}
use Rattle.elab_types.specs.Outcome.{and_then, checked, required}
use Rattle.elab_rules.specs.Parameters.{parameters_checked, variables_at}
use Rattle.elab_rules.specs.Replacing.{denoted, flexible, replaced_in}
use Rattle.elab_rules.specs.Sharing.{with_gone}
use Rattle.elab_types.specs.Sources.{text_at}
use Rattle.elab_rules.specs.States.{State}
use Rattle.elab_rules.specs.Types.{Parameters, Place, typed}

-- whether one of them is true
abbrev pub any_true : List Bool → Bool
any_true [] = false
any_true (b ∷ bs) = b || any_true bs

abbrev pub is_empty : {A : Type 0} → List A → Bool
is_empty [] = true
is_empty (x ∷ xs) = false

abbrev pub is_name : ℕ → Option ℕ → Bool
is_name n None = false
is_name n (Some m) = m == n

-- whether a type constructor denotes the name and has constructors
abbrev pub is_datatype_of : ℕ → TypeEntry → Bool
is_datatype_of n entry = is_name n (denoted entry.fun) && not (is_empty entry.constructors)

abbrev pub has_constructors_step : ℕ → Entry-F Bool → Bool
has_constructors_step n (Tycon entry) = is_datatype_of n entry
has_constructors_step n (Value entry) = false
has_constructors_step n (Structure id entries) = any_true entries

-- whether a name has constructors: a type constructor of the environment denotes it and has them
abbrev pub has_constructors : ℕ → Environment → Bool
has_constructors n env = any_true (map (fold-Entry Bool (has_constructors_step n)) env)

-- the type functions and the types of values, in order
abbrev pub types_step : Entry-F (List Ty) → List Ty
types_step (Tycon entry) = entry.fun.body ∷ []
types_step (Value entry) = entry.scheme.body ∷ []
types_step (Structure id entries) = concatenated entries

abbrev pub types_of : Environment → List Ty
types_of env = concatenated (map (fold-Entry (List Ty) types_step) env)

abbrev pub value_types_step : Entry-F (List Ty) → List Ty
value_types_step (Tycon entry) = []
value_types_step (Value entry) = entry.scheme.body ∷ []
value_types_step (Structure id entries) = concatenated entries

-- the types of values alone
abbrev pub value_types_of : Environment → List Ty
value_types_of env = concatenated (map (fold-Entry (List Ty) value_types_step) env)

-- an environment within the limits: nodes first, then heights, then normal forms
abbrev pub within_limits : ℕ → Environment → State → Described
within_limits token env s =
    checked (all_true (map (λ t. nat_le (size_of t) 2000) (types_of env))) TypeTooLarge token
    (checked (all_true (map (λ t. nat_le (height_of t) 200) (types_of env))) TypeTooHigh token
    (checked (all_true (map (λ t. nat_le (normal_size_of t) 8000) (value_types_of env))) NormalTooLarge token
    (Ok (env, s))))

-- the state in which a name was realized
abbrev pub realized_away : ℕ → State → State
realized_away n s = record { names = s.names; gone = with_gone n s.gone; weight = s.weight }

-- a name of the environment is realized by a type function, where that may be
abbrev pub realized : ℕ → TypeFn → ℕ → Environment → State → Described
realized n f token env s =
    checked (f.arity == arity_of (slice_get s.names n)) ArityClash token
    (checked (not (has_constructors n env) || is_some (denoted f)) BadRealization token
    (checked (is_never (equality_at s.names n) || admits s.names f.body) NeedsEquality token
    (within_limits token (replaced_in (record { name = record { 0 = n }; fun = f }) env) (realized_away n s))))

-- the right side of a part, which sees what stands around the expression
abbrev pub realizing_place : Site → ℕ → List VarId → Place
realizing_place site first vs = record { site = site; own = []; first = first; variables = Parameters false vs }

-- the type function of a part's right side
abbrev pub realizing : WherePart → Site → State → Outcome (TypeFn × State)
realizing part site s =
    and_then (typed part.ty.ty (realizing_place site part.ty.first (variables_at site.texts part.params)) s) (λ r.
    Ok (record { arity = length part.params; body = r.0 }, r.1))

-- one part, over what the expression before it gives, which began with so many names
abbrev pub part_applied : WherePart → ℕ → Site → Environment → State → Described
part_applied part base site env s =
    and_then (parameters_checked site.texts [] part.params) (λ done.
    required (type_along (parts (text_at site.texts part.tycon)) env) Unbound part.tycon (λ found.
    and_then (realizing part site s) (λ r.
    required (flexible base r.1 found.entry.fun) NotFlexible part.at (λ n.
    realized n r.0 part.at env r.1))))

-- the parts in order
abbrev pub parts_applied : List WherePart → ℕ → Site → Environment → State → Described
parts_applied [] base site env s = Ok (env, s)
parts_applied (part ∷ parts) base site env s = and_then (part_applied part base site env s) (λ r. parts_applied parts base site r.0 r.1)
