-- Where a file may end.
use Rattle.std.proofs.Common.{◌≡◌, ℕ, Bool, true, false, List, [], ◌∷◌, Option, Some, None, Result, Ok, Err, reverse, refl, ap, sym, ◌∙◌}
use Rattle.std.specs.Prelude.{IfOk, option_and_then}
use Rattle.std.specs.Option.{option_map}
use Rattle.std.proofs.lemmas.List.{reverse-reverse}
use Rattle.sig_base.specs.declared.no_memory.NoMemory.{NoMemory}
use Rattle.ty_parser.specs.declared.tree.TyExp.{TyExp}
use Rattle.ty_parser.specs.machine.Machine as types
use Rattle.ty_parser.specs.machine.Machine.{taken}
use Rattle.sig_parser.specs.declared.tree.SourceFile.{SourceFile}
use Rattle.sig_parser.specs.declared.tree.TopDec.{TopDec}
use Rattle.sig_parser.specs.declared.tree.Bind.{Bind}
use Rattle.sig_parser.specs.declared.tree.Spec.{Spec}
use Rattle.sig_parser.specs.declared.point.Level as held
use Rattle.sig_parser.specs.declared.point.Point as the_point
use Rattle.sig_parser.specs.declared.point.Point.TheVariants as points
use Rattle.sig_parser.specs.declared.point.Reading.{Reading}
use Rattle.sig_parser.specs.machine.Goals.{Level}
use Rattle.sig_parser.specs.machine.Owners.{Owner}
use Rattle.sig_parser.specs.machine.Machine.{State, At, InType, owned, ended_type, finish}
use Rattle.sig_parser.specs.machine.Views.{levels_of, levels_over, state_at, type_ended, ended_outside}

-- the bodies that are not ended
abbrev pub bodies : State → List Level
bodies (At decs ls p) = ls
bodies (InType decs ls o first st) = ls

bodies_at : (p : the_point.Point) (r : Reading) → (bs : List Bind) × (bodies (state_at p r) ≡ levels_over r bs)
bodies_at points.Items r = (_, refl)
bodies_at (points.WantId k n) r = (_, refl)
bodies_at (points.HaveId k n i) r = (_, refl)
bodies_at (points.Bound k n) r = (_, refl)
bodies_at (points.WantSig g) r = (_, refl)
bodies_at (points.HaveName g i) r = (_, refl)
bodies_at (points.HaveSig o) r = (_, refl)
bodies_at (points.AfterWhere o at) r = (_, refl)
bodies_at (points.HavePart o) r = (_, refl)
bodies_at (points.AfterAnd o at) r = (_, refl)
bodies_at points.WantVal r = (_, refl)
bodies_at (points.HaveVal i) r = (_, refl)
bodies_at points.Vals r = (_, refl)
bodies_at (points.WantParams h) r = (_, refl)
bodies_at (points.WantParam h) r = (_, refl)
bodies_at (points.HaveParam h) r = (_, refl)
bodies_at (points.WantTycon h) r = (_, refl)
bodies_at (points.HaveTycon h i) r = (_, refl)
bodies_at points.Types r = (_, refl)
bodies_at points.Eqtypes r = (_, refl)
bodies_at (points.AfterEquals i) r = (_, refl)
bodies_at (points.WantReplica i) r = (_, refl)
bodies_at (points.WantCon c) r = (_, refl)
bodies_at (points.HaveCon c i) r = (_, refl)
bodies_at (points.HaveCons c) r = (_, refl)
bodies_at points.Datatypes r = (_, refl)
bodies_at points.Includes r = (_, refl)
bodies_at points.AfterSharing r = (_, refl)
bodies_at points.AfterSharingType r = (_, refl)
bodies_at (points.OneShared k i) r = (_, refl)
bodies_at (points.WantShared k) r = (_, refl)
bodies_at (points.HaveShared k) r = (_, refl)
bodies_at (points.WantType o) r = (_, refl)
bodies_at (points.InType o first) r = (_, refl)

some_body : (ls : List held.Level) (xs : List Spec) (bs : List Bind) → (ls ≡ [] → ⊥) → levels_of ls xs bs ≡ [] → ⊥
some_body [] xs bs some e = some refl
some_body (l ∷ ls) xs bs some e = cc

-- no file ends where a body is open
open_none : (st : State) → (bodies st ≡ [] → ⊥) → None ≡ finish st
open_none (At decs [] p) some = absurd (some refl)
open_none (At decs (l ∷ ls) p) some = refl
open_none (InType decs [] o first st) some = absurd (some refl)
open_none (InType decs (l ∷ ls) o first st) some = refl

pub finish_open : (p : the_point.Point) (r : Reading) → (r.levels ≡ [] → ⊥) → None ≡ finish (state_at p r)
finish_open p r some =
    let at = bodies_at p r in
    open_none (state_at p r) (λ none. some_body (reverse r.levels) _ at.0 (λ e. some (sym (reverse-reverse r.levels) ∙ ap reverse e)) (sym at.1 ∙ none))

-- else it ends where the type that is read, if there is one, ends it
ends_behind : (decs : List TopDec) (o : Owner) (first : ℕ) (e : Option TyExp) → ended_type decs o first e ≡ option_and_then ended_outside (option_map (λ e. At decs [] (owned o (record { first = first; ty = e }))) e)
unfolding ended_type
ends_behind decs o first None = refl
ends_behind decs o first (Some e) = refl

ends_at : (st : State) → bodies st ≡ [] → finish st ≡ option_and_then ended_outside (type_ended st)
ends_at (At decs [] p) none = refl
ends_at (At decs (l ∷ ls) p) none = cc
ends_at (InType decs [] o first st) none = ends_behind decs o first (types.finish st)
ends_at (InType decs (l ∷ ls) o first st) none = cc

module _ (p : the_point.Point) (r : Reading) (none : r.levels ≡ []) where
  closed : bodies (state_at p r) ≡ []
  closed = let at = bodies_at p r in at.1 ∙ ap (λ ls. levels_of (reverse ls) r.specs at.0) none

  pub finish_refused : (can : Bool) (st : State) → taken can st ≡ type_ended (state_at p r) → can ≡ false → None ≡ finish (state_at p r)
  finish_refused can st e h = ap (option_and_then ended_outside) (sym (ap (λ can. taken can st) h) ∙ e) ∙ sym (ends_at (state_at p r) closed)

  pub finish_ended : (can : Bool) (st : State) → taken can st ≡ type_ended (state_at p r) → can ≡ true → (f : SourceFile) (ended : Result Bool NoMemory) → IfOk ended (λ can. taken can f ≡ ended_outside st)
      → IfOk ended (λ can. taken can f ≡ finish (state_at p r))
  finish_ended can st e h f (Ok can') is = is ∙ ap (option_and_then ended_outside) (sym (ap (λ can. taken can st) h) ∙ e) ∙ sym (ends_at (state_at p r) closed)
  finish_ended can st e h f (Err x) is = tt
