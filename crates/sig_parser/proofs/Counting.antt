-- What the reader does where bodies are open, and where a type begins and ends.
use Rattle.std.proofs.Common.{◌≡◌, ℕ, Bool, true, false, List, Option, Some, None, refl, ap, ◌∙◌, is_some}
use Rattle.std.specs.Option.{option_map}
use Rattle.ty_parser.specs.declared.sort.Sort.{Sort}
use Rattle.ty_parser.specs.declared.tree.TyExp.{TyExp}
use Rattle.ty_parser.specs.machine.Machine as types
use Rattle.ty_parser.specs.machine.Machine.{taken}
use Rattle.sig_parser.specs.declared.tree.TopDec.{TopDec}
use Rattle.sig_parser.specs.machine.Goals.{Level}
use Rattle.sig_parser.specs.machine.Owners.{Owner}
use Rattle.sig_parser.specs.machine.Machine.{InType, begin_type, in_type, behind_type}

module _ (decs : List TopDec) (ls : List Level) (o : Owner) (i : ℕ) where
  taken_in_type : (can : Bool) (st : types.State) → taken can (InType decs ls o i st) ≡ option_map (InType decs ls o i) (taken can st)
  taken_in_type true st = refl
  taken_in_type false st = refl

  -- a type begins
  pub type_begun : (st st' : types.State) (t : ℕ) (so : Sort) (can : Bool) → st ≡ types.start → taken can st' ≡ types.step st (t, so)
      → taken can (InType decs ls o i st') ≡ begin_type decs ls o i (types.step types.start (t, so))
  unfolding begin_type
  type_begun st st' t so can begun e = taken_in_type can st' ∙ ap (option_map (InType decs ls o i)) (e ∙ ap (λ st. types.step st (t, so)) begun)

  -- a type goes on where it can
  pub type_goes_on : (next : Option types.State) (e : Option TyExp) (t : ℕ) (so : Sort) (can : Bool) (st : types.State) → true ≡ is_some next → taken can st ≡ next
      → taken can (InType decs ls o i st) ≡ in_type decs ls o i next e t so
  unfolding in_type
  type_goes_on None e t so can st some is = cc
  type_goes_on (Some st') e t so can st some is = taken_in_type can st ∙ ap (option_map (InType decs ls o i)) is

  -- and ends where it cannot
  pub type_ends : (next : Option types.State) (e : Option TyExp) (t : ℕ) (so : Sort) → false ≡ is_some next → behind_type decs ls o i e t so ≡ in_type decs ls o i next e t so
  unfolding in_type
  type_ends None e t so none = refl
  type_ends (Some st) e t so none = cc
