-- Sharing specifications (the Definition, rules 78 and following, and appendix A).
use Rattle.std.specs.Prelude.{ℕ, zero, suc, ◌==◌, ◌&&◌, Bool, true, not, is_some, min, if◌then◌else◌, List, [], ◌∷◌, ◌++◌, Option, Some, None, map, slice_get, Ok}
use Rattle.std.specs.List.{filter}
use Rattle.type_core.specs.declared.type_fn.TypeFn.{TypeFn}
use Rattle.type_core.specs.EqualTypes.{types_equal}
use Rattle.type_core.specs.Lists.{concatenated}
use Rattle.elab_env.specs.Names.{arity_of, equality_at, joined_equality, with_equality}
use Rattle.elab_env.specs.Parameters.{name_function}
use Rattle.elab_rules.specs.declared.entry.Entry.{Entry}
use Rattle.elab_rules.specs.declared.entry.Entry.TheOpen.{Entry-F, Tycon, Value, Structure}
use Rattle.elab_rules.specs.declared.entry.Entry.TheFolds.{fold-Entry}
use Rattle.elab_rules.specs.declared.refusal.Why.TheVariants.{Unbound, NotFlexible, ArityClash}
use Rattle.elab_rules.specs.Bodies.{Site, Described, Specified}
use Rattle.elab_rules.specs.Environments.{Environment}
use Rattle.sig_base.specs.LongIdentifiers.{parts}
use Rattle.elab_rules.specs.LongIdentifiers.{Found, structure_along, type_along}
use Rattle.elab_rules.specs.Outcome.{Outcome}
use Rattle.elab_types.specs.Outcome.{and_then, checked, required}
use Rattle.elab_rules.specs.Replacing.{flexible, replaced_in}
use Rattle.elab_types.specs.Sources.{text_at}
use Rattle.elab_rules.specs.States.{State}

-- the flags, of which that of this number is set
abbrev pub with_gone : ℕ → List Bool → List Bool
with_gone n [] = []
with_gone zero (flag ∷ flags) = true ∷ flags
with_gone (suc n) (flag ∷ flags) = flag ∷ with_gone n flags

-- the state in which a name was joined to another, which takes its place and has the equality of both
abbrev pub joined_away : ℕ → ℕ → State → State
joined_away kept n s = record {
  names = with_equality kept (joined_equality (equality_at s.names kept) (equality_at s.names n)) s.names;
  gone = with_gone n s.gone;
  weight = s.weight;
}

-- a name is joined to the lesser one, of the same arity, in the environment and in the state
abbrev pub joined_to : ℕ → ℕ → Environment → State → Environment × State
joined_to kept n env s =
    (replaced_in (record { name = record { 0 = n }; fun = name_function kept (arity_of (slice_get s.names n)) }) env, joined_away kept n s)

-- names joined to the lesser one, which may be among them
abbrev pub all_joined : ℕ → List ℕ → Environment × State → Environment × State
all_joined kept [] r = r
all_joined kept (n ∷ ns) r = all_joined kept ns (if n == kept then r else joined_to kept n r.0 r.1)

-- the least of numbers, of which the first is given
abbrev pub least_of : ℕ → List ℕ → ℕ
least_of n [] = n
least_of n (m ∷ ms) = least_of (min n m) ms

-- no number twice
abbrev pub without_number : ℕ → List ℕ → List ℕ
without_number n ns = filter (λ m. not (m == n)) ns

abbrev pub distinct : List ℕ → List ℕ
distinct [] = []
distinct (n ∷ ns) = n ∷ without_number n (distinct ns)

-- the names are joined: the least of them takes the place of the others
abbrev pub joined : List ℕ → Environment → State → Environment × State
joined [] env s = (env, s)
joined (n ∷ ns) env s = all_joined (least_of n ns) (distinct (n ∷ ns)) (env, s)

-- the flexible name of the type constructor at a token, which stands in the body
abbrev pub flexible_at : ℕ → Site → Environment → State → Outcome ℕ
flexible_at token site own s =
    required (type_along (parts (text_at site.texts token)) own) Unbound token (λ found.
    required (flexible site.base s found.entry.fun) NotFlexible token (λ n. Ok n))

-- the same of further constructors, which have to have the first one's arity
abbrev pub others_flexible : ℕ → List ℕ → Site → Environment → State → Outcome (List ℕ)
others_flexible arity [] site own s = Ok []
others_flexible arity (token ∷ tokens) site own s =
    and_then (flexible_at token site own s) (λ n.
    checked (arity_of (slice_get s.names n) == arity) ArityClash token
    (and_then (others_flexible arity tokens site own s) (λ ns. Ok (n ∷ ns))))

-- `sharing type`: the names of the constructors are joined
abbrev pub types_shared : List ℕ → Specified
types_shared [] site own s = Ok (own, s)
types_shared (token ∷ tokens) site own s =
    and_then (flexible_at token site own s) (λ n.
    and_then (others_flexible (arity_of (slice_get s.names n)) tokens site own s) (λ ns.
    Ok (joined (n ∷ ns) own s)))

abbrev pub paths_step : Entry-F (List (List ℕ) → List (List (List ℕ))) → List (List ℕ) → List (List (List ℕ))
paths_step (Tycon entry) path = (path ++ entry.id ∷ []) ∷ []
paths_step (Value entry) path = []
paths_step (Structure id entries) path = concatenated (map (λ entry. entry (path ++ id ∷ [])) entries)

-- the paths of an entry's type constructors, in order and depth first
abbrev pub entry_paths : Entry → List (List ℕ) → List (List (List ℕ))
entry_paths = fold-Entry (List (List ℕ) → List (List (List ℕ))) paths_step

-- the paths of the type constructors of entries that stand at a path
abbrev pub paths_from : List (List ℕ) → Environment → List (List (List ℕ))
paths_from path env = concatenated (map (λ entry. entry_paths entry path) env)

abbrev pub type_paths : Environment → List (List (List ℕ))
type_paths env = paths_from [] env

-- whether two type functions are one
abbrev pub same_function : TypeFn → TypeFn → Bool
same_function f g = (f.arity == g.arity) && types_equal f.body g.body

-- two names that have to be of one arity, joined
abbrev pub pair_joined : ℕ → ℕ → ℕ → Environment → State → Described
pair_joined n m token own s =
    checked (arity_of (slice_get s.names n) == arity_of (slice_get s.names m)) ArityClash token
    (Ok (joined (n ∷ m ∷ []) own s))

-- two type functions made one: they are the same, or both are flexible names
abbrev pub functions_shared : TypeFn → TypeFn → ℕ → Specified
functions_shared f g token site own s =
    if same_function f g then Ok (own, s)
    else required (flexible site.base s f) NotFlexible token (λ n.
    required (flexible site.base s g) NotFlexible token (λ m.
    pair_joined n m token own s))

-- what stands at one path in two structures of the body; where one of them has nothing there, nothing is shared
abbrev pub if_both : Option Found → Option Found → ℕ → Specified
if_both None g token site own s = Ok (own, s)
if_both (Some f) None token site own s = Ok (own, s)
if_both (Some f) (Some g) token site own s = functions_shared f.entry.fun g.entry.fun token site own s

-- the type constructors at these paths in two structures of the body, which stand along a and b
abbrev pub paths_shared : List (List ℕ) → List (List ℕ) → ℕ → List (List (List ℕ)) → Specified
paths_shared a b token [] site own s = Ok (own, s)
paths_shared a b token (path ∷ paths) site own s =
    and_then (if_both (type_along (a ++ path) own) (type_along (b ++ path) own) token site own s) (λ r.
    paths_shared a b token paths site r.0 r.1)

-- what a structure has that was looked up
abbrev pub entries_of : Option Environment → Environment
entries_of None = []
entries_of (Some env) = env

-- two structures of the body
abbrev pub structures_shared : ℕ → ℕ → Specified
structures_shared i j site own s =
    paths_shared (parts (text_at site.texts i)) (parts (text_at site.texts j)) j
    (type_paths (entries_of (structure_along (parts (text_at site.texts i)) own))) site own s

-- the first structure with each of the others
abbrev pub first_shared : ℕ → List ℕ → Specified
first_shared i [] site own s = Ok (own, s)
first_shared i (j ∷ js) site own s = and_then (structures_shared i j site own s) (λ r. first_shared i js site r.0 r.1)

-- each pair of structures, in lexicographic order
abbrev pub pairs_shared : List ℕ → Specified
pairs_shared [] site own s = Ok (own, s)
pairs_shared (i ∷ js) site own s = and_then (first_shared i js site own s) (λ r. pairs_shared js site r.0 r.1)

-- each of the structures stands in the body
abbrev pub structures_found : List ℕ → Site → Environment → Outcome (Unit {0})
structures_found [] site own = Ok tt
structures_found (token ∷ tokens) site own =
    checked (is_some (structure_along (parts (text_at site.texts token)) own)) Unbound token (structures_found tokens site own)

-- `sharing` of structures
abbrev pub shared : List ℕ → Specified
shared tokens site own s = and_then (structures_found tokens site own) (λ done. pairs_shared tokens site own s)
