-- The flexible names of type constructors, step by step.
use Rattle.std.proofs.Common.{◌≡◌, ℕ, ◌+◌, ◌-◌, ◌<◌, ◌≤◌, ◌==◌, true, false, if◌then◌else◌, List, [], ◌∷◌, ◌++◌, length, drop, take, get_or, slice_get, Option, Some, None, Ok, Err, refl, sym, ap, ap₂, ◌∙◌, append_assoc, arith}
use Rattle.std.proofs.lemmas.List.{map-append, take_rest}
use Rattle.std.specs.Option.{option_map}
use Rattle.type_core.specs.declared.ty.NameId.{NameId}
use Rattle.type_core.specs.declared.type_fn.TypeFn.{TypeFn}
use Rattle.elab_env.specs.Names.{arity_of}
use Rattle.elab_env.specs.Realizations.{function_resolved, resolved}
use Rattle.elab_rules.specs.declared.progress.Progress.{Progress}
use Rattle.elab_rules.specs.declared.refusal.Why.TheVariants.{ArityClash, NotFlexible, Unbound}
use Rattle.elab_rules.specs.declared.site.Site.{Site}
use Rattle.elab_rules.specs.Bodies as bodies
use Rattle.elab_rules.specs.Bodies.{Described}
use Rattle.elab_rules.specs.Environments.{Environment}
use Rattle.sig_base.specs.LongIdentifiers.{parts}
use Rattle.elab_rules.specs.LongIdentifiers.{Found, type_along}
use Rattle.elab_rules.specs.Outcome.{Outcome}
use Rattle.elab_types.specs.Outcome.{and_then, checked, failed, required}
use Rattle.elab_rules.specs.Replacing.{flexible}
use Rattle.elab_rules.specs.Sharing.{flexible_at, functions_shared, joined, others_flexible, pair_joined, same_function, types_shared}
use Rattle.elab_types.specs.Sources.{text_at}
use Rattle.elab_rules.specs.States.{State}
use Rattle.elab_rules.specs.Views.{body_at, numbers, site_at, state_of}
use Rattle.elab_types.specs.Views.{texts}
use Rattle.elab_rules.proofs.LookedUp.{found_with, type_along_with}
use Rattle.elab_types.proofs.Lists.{dropped}

-- ---- the name at a token
module _ (token : ℕ) (p : Progress) (site : Site) (own : Environment) where
  abbrev name_there : Outcome ℕ
  name_there = flexible_at token (site_at p site) (body_at p own) (state_of p)

  abbrev ids : List (List ℕ)
  ids = parts (text_at (texts site.source) token)

  abbrev if_found : Option Found → Outcome ℕ
  if_found found = required found Unbound token (λ f. required (flexible site.base (state_of p) f.entry.fun) NotFlexible token (λ n. Ok n))

  looked_up : (o : Option Found) → o ≡ type_along ids own → name_there ≡ if_found (option_map (found_with (resolved p.table.realizations)) o)
  looked_up o is = ap if_found (type_along_with (resolved p.table.realizations) ids own ∙ ap (option_map (found_with (resolved p.table.realizations))) (sym is))

  -- no type constructor stands there
  pub none_there : None ≡ type_along ids own → name_there ≡ failed Unbound token
  none_there = looked_up None

  module _ (found : Found) (is : Some found ≡ type_along ids own) where
    by_name : (o : Option ℕ) → o ≡ flexible site.base (state_of p) (function_resolved p.table.realizations found.entry.fun) → name_there ≡ required o NotFlexible token (λ n. Ok n)
    by_name o flexible_is = looked_up (Some found) is ∙ ap (λ n. required n NotFlexible token (λ m. Ok m)) (sym flexible_is)

    -- its name isn't flexible
    pub rigid_there : None ≡ flexible site.base (state_of p) (function_resolved p.table.realizations found.entry.fun) → name_there ≡ failed NotFlexible token
    rigid_there = by_name None

    pub flexible_there : (n : ℕ) → Some n ≡ flexible site.base (state_of p) (function_resolved p.table.realizations found.entry.fun) → name_there ≡ Ok n
    flexible_there n = by_name (Some n)

-- ---- the names at further tokens
one_before : (o : Outcome (List ℕ)) (done : List ℕ) (n : ℕ) → and_then (and_then o (λ ns. Ok (n ∷ ns))) (λ ns. Ok (done ++ ns)) ≡ and_then o (λ ns. Ok ((done ++ n ∷ []) ++ ns))
one_before (Ok ns) done n = ap Ok (sym (append_assoc done (n ∷ []) ns))
one_before (Err failure) done n = refl

pub none_before : (o : Outcome (List ℕ)) (names : List NameId) → names ≡ [] → and_then o (λ ns. Ok (numbers names ++ ns)) ≡ o
none_before o names none = ap (λ done. and_then o (λ ns. Ok (numbers done ++ ns))) none ∙ by_case o
  where
    by_case : (o : Outcome (List ℕ)) → and_then o (λ ns. Ok ([] ++ ns)) ≡ o
    by_case (Ok ns) = refl
    by_case (Err failure) = refl

module _ (arity : ℕ) (tokens : List ℕ) (i token d : ℕ) (site : bodies.Site) (own : Environment) (s : State) (done : List NameId) (whole : Outcome (List ℕ))
    (within : i < length tokens) (is : token ≡ get_or tokens i d) (so_far : and_then (others_flexible arity (drop i tokens) site own s) (λ ns. Ok (numbers done ++ ns)) ≡ whole) where
  abbrev rest : Outcome (List ℕ)
  rest = others_flexible arity (drop (i + 1) tokens) site own s

  abbrev after_name : ℕ → Outcome (List ℕ)
  after_name n = and_then (checked (arity_of (slice_get s.names n) == arity) ArityClash token (and_then rest (λ ns. Ok (n ∷ ns)))) (λ ns. Ok (numbers done ++ ns))

  regrouped : (o : Outcome ℕ) (next : ℕ → Outcome (List ℕ)) (last : List ℕ → Outcome (List ℕ)) → and_then (and_then o next) last ≡ and_then o (λ n. and_then (next n) last)
  regrouped (Ok n) next last = refl
  regrouped (Err failure) next last = refl

  pub name_turn : and_then (flexible_at token site own s) after_name ≡ whole
  name_turn =
      sym (regrouped (flexible_at token site own s) (λ n. checked (arity_of (slice_get s.names n) == arity) ArityClash token (and_then rest (λ ns. Ok (n ∷ ns)))) (λ ns. Ok (numbers done ++ ns)))
      ∙ sym (ap (λ ts. and_then (others_flexible arity ts site own s) (λ ns. Ok (numbers done ++ ns))) (dropped tokens i token d within is))
      ∙ so_far

  -- its arity is another one
  pub arities_clash : (n : ℕ) → flexible_at token site own s ≡ Ok n → (arity_of (slice_get s.names n) == arity) ≡ false → whole ≡ failed ArityClash token
  arities_clash n ok other =
      sym name_turn ∙ ap (λ o. and_then o after_name) ok
      ∙ ap (λ b. and_then (checked b ArityClash token (and_then rest (λ ns. Ok (n ∷ ns)))) (λ ns. Ok (numbers done ++ ns))) other

  -- one name more
  pub name_more : (name : NameId) (more : List NameId) → flexible_at token site own s ≡ Ok name.0 → (arity_of (slice_get s.names name.0) == arity) ≡ true → more ≡ done ++ name ∷ []
      → and_then rest (λ ns. Ok (numbers more ++ ns)) ≡ whole
  name_more name more ok same pushed =
      ap (λ ns. and_then rest (λ ms. Ok (ns ++ ms))) (ap numbers pushed ∙ map-append (λ (m : NameId). m.0) done (name ∷ []))
      ∙ sym (one_before rest (numbers done) name.0)
      ∙ sym (ap (λ b. and_then (checked b ArityClash token (and_then rest (λ ns. Ok (name.0 ∷ ns)))) (λ ns. Ok (numbers done ++ ns))) same)
      ∙ sym (ap (λ o. and_then o after_name) ok) ∙ name_turn

-- ---- two type functions made one
module _ (f g : TypeFn) (token : ℕ) (site : bodies.Site) (own : Environment) (s : State) where
  abbrev both : Described
  both = functions_shared f g token site own s

  abbrev if_named : Option ℕ → Option ℕ → Described
  if_named o q = required o NotFlexible token (λ n. required q NotFlexible token (λ m. pair_joined n m token own s))

  pub same_shared : same_function f g ≡ true → both ≡ Ok (own, s)
  same_shared same = ap (λ b. if b then Ok (own, s) else if_named (flexible site.base s f) (flexible site.base s g)) same

  module _ (differ : same_function f g ≡ false) where
    apart : both ≡ if_named (flexible site.base s f) (flexible site.base s g)
    apart = ap (λ b. if b then Ok (own, s) else if_named (flexible site.base s f) (flexible site.base s g)) differ

    pub first_rigid : None ≡ flexible site.base s f → both ≡ failed NotFlexible token
    first_rigid none = apart ∙ ap (λ o. if_named o (flexible site.base s g)) (sym none)

    module _ (n : ℕ) (named : Some n ≡ flexible site.base s f) where
      pub second_rigid : None ≡ flexible site.base s g → both ≡ failed NotFlexible token
      second_rigid none = apart ∙ ap₂ if_named (sym named) (sym none)

      module _ (m : ℕ) (other : Some m ≡ flexible site.base s g) where
        pub arities_differ : (arity_of (slice_get s.names n) == arity_of (slice_get s.names m)) ≡ false → both ≡ failed ArityClash token
        arities_differ e = apart ∙ ap₂ if_named (sym named) (sym other) ∙ ap (λ b. checked b ArityClash token (Ok (joined (n ∷ m ∷ []) own s))) e

        pub both_joined : (arity_of (slice_get s.names n) == arity_of (slice_get s.names m)) ≡ true → both ≡ Ok (joined (n ∷ m ∷ []) own s)
        both_joined e = apart ∙ ap₂ if_named (sym named) (sym other) ∙ ap (λ b. checked b ArityClash token (Ok (joined (n ∷ m ∷ []) own s))) e

-- ---- types that are shared
pub no_types : (tokens : List ℕ) (site : bodies.Site) (own : Environment) (s : State) → length tokens < 1 → types_shared tokens site own s ≡ Ok (own, s)
no_types [] site own s none = refl
no_types (token ∷ tokens) site own s none = absurd (omega (arith, none))

-- the first token, and those after it
pub first_token : (tokens : List ℕ) → 1 ≤ length tokens → tokens ≡ get_or tokens 0 0 ∷ take (length tokens - 1) (drop 1 tokens)
first_token [] some = absurd (omega (arith, some))
first_token (token ∷ tokens) some = ap (λ rest. token ∷ rest) (sym (take_rest (token ∷ tokens) 1))

module _ (tokens others : List ℕ) (token : ℕ) (site : bodies.Site) (own : Environment) (s : State) (front : tokens ≡ token ∷ others) where
  abbrev after_first : ℕ → Described
  after_first n = and_then (others_flexible (arity_of (slice_get s.names n)) others site own s) (λ ns. Ok (joined (n ∷ ns) own s))

  pub types_turn : and_then (flexible_at token site own s) after_first ≡ types_shared tokens site own s
  types_turn = ap (λ ts. types_shared ts site own s) (sym front)

  module _ (n : ℕ) (ok : flexible_at token site own s ≡ Ok n) where
    pub others_turn : after_first n ≡ types_shared tokens site own s
    others_turn = sym (ap (λ o. and_then o after_first) ok) ∙ types_turn

    pub types_joined : (ns : List ℕ) → others_flexible (arity_of (slice_get s.names n)) others site own s ≡ Ok ns → types_shared tokens site own s ≡ Ok (joined (n ∷ ns) own s)
    types_joined ns found = sym others_turn ∙ ap (λ o. and_then o (λ ms. Ok (joined (n ∷ ms) own s))) found
