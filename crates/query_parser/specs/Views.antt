-- What the contracts of the code see of its values.
use Rattle.std.specs.Prelude.{◌≡◌, ◌≤◌, ℕ, List, length, ⊤, Option, Some, None, Result, Ok, Err}
use Rattle.elab_types.specs.declared.fault.TextRefusal.{TextRefusal}
use Rattle.elab_types.specs.declared.fault.TextRefusal.TheVariants as text
use Rattle.elab_types.specs.Outcome.{Outcome, failed}
use Rattle.elab_types.specs.Stages.{Flaw}
use Rattle.elab_types.specs.Views.{texts}
use Rattle.query_parser.specs.declared.place.Place as code
use Rattle.query_parser.specs.declared.refusal.QueryRefusal.{QueryRefusal}
use Rattle.query_parser.specs.declared.refusal.QueryRefusal.TheVariants as refusal
use Rattle.query_parser.specs.declared.refusal.QueryWhy.{QueryWhy}
use Rattle.query_parser.specs.declared.refusal.Stop.{Stop}
use Rattle.query_parser.specs.declared.refusal.Stop.TheVariants as stop
use Rattle.query_parser.specs.Queries.{of_text}
use Rattle.query_parser.specs.Types.{Place}

-- where a query is read
abbrev pub place_of : code.Place → Place
place_of place = record { texts = texts place.source; library = place.library.now }

-- what a refusal tells of a query; want of memory tells nothing
abbrev pub flaw_of : QueryRefusal → Option (Flaw QueryWhy)
flaw_of (refusal.Refused why place) = Some (record { why = why; place = place })
flaw_of refusal.NoMemory = None

-- the refusal of a query whose text is refused
abbrev pub refusal_of : TextRefusal → QueryRefusal
refusal_of (text.Refused wrong place) = refusal.Refused (of_text wrong) place
refusal_of text.NoMemory = refusal.NoMemory

-- the answer is the outcome; want of memory is free
abbrev pub Gives : {A : Type 0} → Outcome QueryWhy A → Result A Stop → Type 0
Gives outcome (Ok a) = outcome ≡ Ok a
Gives outcome (Err (stop.Failed why token)) = outcome ≡ failed why token
Gives outcome (Err stop.NoMemory) = ⊤

-- the place of a refusal is a byte of the query, or its end, and no further than a source may be long
abbrev pub IsWithin : List ℕ → QueryRefusal → Type 0
IsWithin bytes (refusal.Refused why place) = (place ≤ length bytes) × (place ≤ 4194304)
IsWithin bytes refusal.NoMemory = ⊤
