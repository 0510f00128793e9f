-- Bodies: where one stands, and how an entry is added to it.
use Rattle.std.specs.Prelude.{ℕ, List, [], ◌∷◌, ◌++◌, Ok}
use Rattle.elab_rules.specs.declared.entry.Entry.{Entry}
use Rattle.elab_rules.specs.declared.entry.UnitEntry.{UnitEntry}
use Rattle.elab_rules.specs.Environments.{Environment}
use Rattle.elab_rules.specs.Outcome.{Outcome}
use Rattle.elab_types.specs.Outcome.{and_then}
use Rattle.elab_rules.specs.States.{State, entry_weight, weighed}

-- where a body stands: the texts of the file's tokens, the path of the body, the bodies around it from within outwards,
-- the number of names when it began, the top identifiers that were declared before, and those of the present declaration
pub record Site : Type 0 where
  pub texts : List (List ℕ)
  pub path : List ℕ
  pub around : List Environment
  pub base : ℕ
  pub units : List UnitEntry
  pub declaring : List (List ℕ)

-- the environment and the state after a phrase
abbrev pub Described : Type 0
Described = Outcome (Environment × State)

-- what a specification makes of the body before it
abbrev pub Specified : Type 0
Specified = Site → Environment → State → Described

-- each of the phrases in turn, in the body that those before it made
abbrev pub in_turn : {A : Type 0} → (A → Specified) → List A → Specified
in_turn step [] site own s = Ok (own, s)
in_turn step (x ∷ xs) site own s = and_then (step x site own s) (λ r. in_turn step xs site r.0 r.1)

-- an environment with one more entry, which is weighed at the token
abbrev pub added : Site → Entry → ℕ → Environment → State → Described
added site entry token env s = and_then (weighed (entry_weight site.path entry) token s) (λ after. Ok (env ++ entry ∷ [], after))

-- the site of what stands in a body, at a path
abbrev pub site_within : List ℕ → Environment → Site → Site
site_within path own site = record { texts = site.texts; path = path; around = own ∷ site.around; base = site.base; units = site.units; declaring = site.declaring }

-- the site of a body that begins with so many names
abbrev pub site_from : ℕ → Site → Site
site_from base site = record { texts = site.texts; path = site.path; around = site.around; base = base; units = site.units; declaring = site.declaring }
