-- What the refusal of a text tells of a query.
use Rattle.std.proofs.Common.{◌≡◌, ◌≤◌, ℕ, List, length, refl, arith}
use Rattle.std.specs.Prelude.{Result, Ok, Err}
use Rattle.type_core.specs.declared.library.Library.{Library}
use Rattle.type_core.specs.declared.ty.Scheme.{Scheme}
use Rattle.elab_types.specs.declared.fault.TextRefusal.{TextRefusal}
use Rattle.elab_types.specs.declared.fault.TextRefusal.TheVariants as text
use Rattle.elab_types.specs.Stages.{Flaw, IsWithin as IsTextWithin, Reads, Tells, flaw_of_text, refused}
use Rattle.query_parser.specs.declared.refusal.QueryRefusal.{QueryRefusal}
use Rattle.query_parser.specs.declared.refusal.QueryRefusal.TheVariants as refusal
use Rattle.query_parser.specs.declared.refusal.QueryWhy.{QueryWhy}
use Rattle.query_parser.specs.Queries.{Asks, of_text, queries, short}
use Rattle.query_parser.specs.Views.{IsWithin, flaw_of, refusal_of}

pub told : (t : TextRefusal) → flaw_of (refusal_of t) ≡ flaw_of_text of_text t
told (text.Refused wrong place) = refl
told text.NoMemory = refl

pub refused_within : (bytes : List ℕ) (t : TextRefusal) → length bytes ≤ 4194304 → IsTextWithin bytes t → IsWithin bytes (refusal_of t)
refused_within bytes (text.Refused wrong place) few within = (within, omega (arith, within, few))
refused_within bytes text.NoMemory few within = tt

-- what tells what comes, tells exactly that, where one thing comes
pub exactly : (comes : Result Scheme (Flaw QueryWhy) → Type 0) → ((a b : Result Scheme (Flaw QueryWhy)) → comes a → comes b → a ≡ b) → (result : Result Scheme QueryRefusal) → Tells flaw_of comes result
    → (due : Result Scheme (Flaw QueryWhy)) → comes due → Tells flaw_of (λ told. told ≡ due) result
exactly comes one (Ok s) tells due is = one (Ok s) due tells is
exactly comes one (Err (refusal.Refused why place)) tells due is = one (refused why place) due tells is
exactly comes one (Err refusal.NoMemory) tells due is = tt

-- what is read of a query that isn't too long
pub query_read : (library : Library) (bytes : List ℕ) (result : Result Scheme QueryRefusal) → length bytes ≤ 4194304 → Tells flaw_of (Reads (queries library) bytes) result → Tells flaw_of (Asks library bytes) result
query_read library bytes (Ok s) size reads = short size reads
query_read library bytes (Err (refusal.Refused why place)) size reads = short size reads
query_read library bytes (Err refusal.NoMemory) size reads = tt
