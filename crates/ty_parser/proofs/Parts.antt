-- Reading a part: the invariant of the loop, and what each way on or out gives.
use Rattle.std.proofs.Common.{◌≡◌, ℕ, ◌+◌, ◌<◌, ◌≤◌, Bool, true, false, List, length, get_or, drop, Option, Some, None, is_some, Result, Ok, Err, refl, ap, sym, ◌∙◌, subst, arith, inl, inr}
use Rattle.std.specs.Prelude.{◌⊎◌, IfOk, IfErr}
use Rattle.sml_lexer.specs.declared.token.Token.{Token}
use Rattle.ty_parser.specs.declared.sort.Sort.{Sort}
use Rattle.ty_parser.specs.declared.sort.Sort.TheVariants as s
use Rattle.ty_parser.specs.declared.tree.TypePart.{TypePart}
use Rattle.ty_parser.specs.declared.tree.ParseRefusal.{ParseRefusal}
use Rattle.ty_parser.specs.declared.tree.ParseRefusal.TheVariants as refusal
use Rattle.ty_parser.specs.Sorts.{sort_of, sorts_of}
use Rattle.ty_parser.specs.Phrases.{PhraseFrom, Reaches, most_open, opens, closes}
use Rattle.ty_parser.specs.Parts.{Takes, PartIs, NoPartAt, DeepPartAt, TellsPart}
use Rattle.ty_parser.specs.machine.Machine.{State, start, step, finish, depth, taken}
use Rattle.ty_parser.proofs.Runs.{of_some}
use Rattle.ty_parser.proofs.Viable.{ReadTo, opens_one, start_read, step_read, step_deep, step_reaches, end_reaches, finish_found, finish_none}
use Rattle.ty_parser.proofs.Types.{types, step_depth}
use Rattle.ty_parser.proofs.Tokens.{sort_within, sorts_end, sort_is}

-- the tokens from a place up to another have led to the state
pub record ReadPart (outside first : ℕ) (ss : List Sort) (place : ℕ) (st : State) : Type 0 where
  pub taken : ℕ
  pub place_is : place ≡ first + taken
  pub read : ReadTo (types first) outside ss taken st

pub start_part : (outside first : ℕ) (ss : List Sort) (st : State) → outside ≤ most_open → st ≡ start → ReadPart outside first ss first st
start_part outside first ss st le e = record { taken = 0; place_is = omega arith; read = start_read (types first) outside ss st le e }

pub taken_some : (can : Bool) (st : State) (o : Option State) → taken can st ≡ o → can ≡ true → Some st ≡ o
taken_some can st o e h = sym (ap (λ can. taken can st) h) ∙ e

not_some : (o : Option State) → is_some o ≡ false → o ≡ None
not_some None e = refl
not_some (Some st) e = cc

-- the token at the place
module _ (bytes : List ℕ) (ts : List Token) (outside first place : ℕ) (st : State) (d : Token) (so : Sort) (to : ReadPart outside first (drop first (sorts_of bytes ts)) place st) (lt : place < length ts) (is : so ≡ sort_of bytes (get_or ts place d)) where
  there : to.taken < length (drop first (sorts_of bytes ts))
  there = sort_within bytes ts first to.taken place to.place_is lt

  sort_there : so ≡ get_or (drop first (sorts_of bytes ts)) to.taken s.Variable
  sort_there = sort_is bytes ts first to.taken place to.place_is d so lt is

  here : (o : Option State) → step st (place, so) ≡ o → step st (first + to.taken, so) ≡ o
  here o e = ap (λ i. step st (i, so)) (sym to.place_is) ∙ e

  module _ (st' : State) (e : Some st' ≡ step st (place, so)) where
    stepped : step st (first + to.taken, so) ≡ Some st'
    stepped = here (Some st') (sym e)

    pub part_low : outside + depth st' ≤ most_open + 1
    part_low =
        let few = opens_one so in
        let deepens = of_some (λ x. opens so + depth st ≡ closes so + depth x) _ st' stepped (step_depth st (first + to.taken) so) in
        omega (arith, few, deepens, to.read.low)

    pub part_read : outside + depth st' ≤ most_open → ReadPart outside first (drop first (sorts_of bytes ts)) (place + 1) st'
    part_read low = record { taken = to.taken + 1; place_is = omega (arith, to.place_is); read = step_read (types first) outside _ to.taken so st there sort_there to.read st' stepped low }

    pub part_deep : most_open < outside + depth st' → DeepPartAt outside first (drop first (sorts_of bytes ts)) place
    part_deep high =
        let h = step_deep (types first) outside _ to.taken so st there sort_there to.read st' stepped high in
        record { taken = to.taken; deep = h.0; shallow = h.1; next = to.place_is }

  pub part_reaches : (accepted : Bool) → accepted ≡ is_some (step st (place, so)) → accepted ≡ false → Reaches (PhraseFrom first) (drop first (sorts_of bytes ts)) to.taken
  part_reaches accepted e refused = step_reaches (types first) outside _ to.taken so st there sort_there to.read (here None (not_some (step st (place, so)) (sym e ∙ refused)))

-- the end of the tokens
pub part_ends : (bytes : List ℕ) (ts : List Token) (outside first place : ℕ) (st : State) (to : ReadPart outside first (drop first (sorts_of bytes ts)) place st) → first ≤ length ts → place ≡ length ts → Reaches (PhraseFrom first) (drop first (sorts_of bytes ts)) to.taken
part_ends bytes ts outside first place st to le e = end_reaches (types first) outside _ to.taken st to.read (sorts_end bytes ts first to.taken place to.place_is le e)

-- where no more is taken
module _ (outside first : ℕ) (ss : List Sort) (place : ℕ) (st : State) (to : ReadPart outside first ss place st) (reaches : Reaches (PhraseFrom first) ss to.taken) where
  takes : Takes outside first ss to.taken
  takes = record { reaches = reaches; shallow = to.read.shallow }

  pub part_found : (r : Result TypePart ParseRefusal) → IfOk r (λ part. finish st ≡ Some part.ty.ty) → IfOk r (λ part. (part.ty.first ≡ first) × (part.next ≡ place)) → IfOk r (PartIs outside first ss)
  part_found (Ok part) ended places =
      record { taken = to.taken; takes = takes; tree = finish_found (types first) outside ss to.taken st to.read part.ty.ty ended; next = places.1 ∙ to.place_is }
  part_found (Err r) ended places = tt

  no_part : finish st ≡ None → NoPartAt outside first ss place
  no_part e = record { taken = to.taken; takes = takes; no_type = finish_none (types first) outside ss to.taken st to.read e; next = to.place_is }

  pub part_refused : (r : Result TypePart ParseRefusal) → IfErr r (λ r. (r ≡ refusal.NoMemory) ⊎ ((r ≡ refusal.Syntax place) × (finish st ≡ None))) → IfErr r (TellsPart outside first ss)
  part_refused (Ok part) ended = tt
  part_refused (Err r) (inl e) = subst (TellsPart outside first ss) (sym e) tt
  part_refused (Err r) (inr e) = subst (TellsPart outside first ss) (sym e.0) (no_part e.1)
