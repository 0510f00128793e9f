use Rattle.std.proofs.Common.{◌≡◌, ◌⊎◌, List, [], ◌∷◌, ◌++◌, Some, slice_get, sym, subst, true}
use Rattle.type_intern.specs.declared.node.TyId.{TyId}
use Rattle.type_intern.specs.Numbering.{StandsOnce}
use Rattle.type_numbers.specs.Numbers.{IsNumbered}
use Rattle.type_numbers.proofs.Numbering.{grown, id_eq, inserted, inserted_once}
use Rattle.type_numbers.proofs.numbers.place_of.Goals as goal

pub returns-clause-value : goal.returns-clause-value
returns-clause-value c =
    subst (λ (keys : List TyId). IsNumbered c.args.ids.now.keys c.args.id keys c.in_ok-place.place)
    (sym c.in_ok-place.ensures.keys)
    (inserted c.args.ids.now.keys c.args.id c.in_ok-place.place
    (subst (λ (keys : List TyId). (k : TyId) × (slice_get keys c.in_ok-place.place ≡ Some k) × (id_eq c.args.id k ≡ true))
    c.in_ok-place.ensures.keys c.in_ok-place.ensures.stored))

pub returns-clause-once : goal.returns-clause-once
returns-clause-once c = λ once. subst (λ (keys : List TyId). StandsOnce keys) (sym c.in_ok-place.ensures.keys)
    (inserted_once c.args.ids.now.keys c.args.id once)

pub returns-clause-grows : goal.returns-clause-grows
returns-clause-grows c = subst (λ (keys : List TyId). (keys ≡ c.args.ids.now.keys) ⊎ (keys ≡ c.args.ids.now.keys ++ c.args.id ∷ []))
    (sym c.in_ok-place.ensures.keys) (grown c.args.ids.now.keys c.args.id)
