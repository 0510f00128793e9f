-- The steps to the coordinates of a type lead to them.
use Rattle.std.proofs.Common.{◌≡◌, ℕ, ◌+◌, ◌-◌, ◌<◌, ◌≤◌, if◌then◌else◌, ◌⊎◌, inl, inr, List, [], ◌∷◌, ◌++◌, map, length, drop, refl, sym, ap, ap₂, ◌∙◌, subst, Some, slice_get, zero, suc, lt-ltb, le-ltb, append-nil}
use Rattle.std.proofs.lemmas.List.{append_assoc, length-append, length-map, map-append}
use Rattle.type_core.specs.declared.ty.VarId.{VarId}
use Rattle.type_core.specs.declared.ty.NameId.{NameId}
use Rattle.type_core.specs.declared.ty.Ty.{Ty}
use Rattle.type_core.specs.declared.ty.Field.{Field}
use Rattle.type_core.specs.declared.ty.Ty.TheVariants as ty
use Rattle.type_core.specs.declared.ty.Ty.TheVariants.{rolls-Var, rolls-Con, rolls-Rec, rolls-Tup, rolls-Arrow}
use Rattle.type_core.specs.declared.ty.Ty.TheFolds.{para-roll-Ty}
use Rattle.type_core.specs.Coordinates.{coordinates, taking}
use Rattle.type_core.specs.Lists.{concatenated}
use Rattle.type_core.proofs.Trees.{EachOf, induct_type, coordinates_arrow, coordinates_tup}
use Rattle.iso_normal.proofs.Inverses.{of_map}
use Rattle.iso_normal.proofs.Permutations.{some_injective}
use Rattle.conv_terms.specs.declared.term.Term.{Term}
use Rattle.conv_terms.specs.declared.term.Term.TheVariants as term
use Rattle.conv_terms.proofs.Forms.{none_not}
use Rattle.conv_terms.proofs.Moving.{below_or_from}
use Rattle.conv_build.specs.declared.step.Step.{Step}
use Rattle.conv_build.specs.declared.step.Step.TheVariants as step
use Rattle.conv_build.specs.direct.References.{no_reference}
use Rattle.conv_build.specs.direct.TwoPasses.{built, leaves, reached, way}
use Rattle.conv_build.specs.direct.Steps.{after_steps, no_step, steps_each, steps_of, steps_of_all, steps_step}
use Rattle.conv_build.specs.direct.AlongSteps.{AreSteps, reached_along, way_along}
use Rattle.conv_build.proofs.PassEquations.{count_con, count_rec, count_var, reached_all, reached_arrow, reached_con, reached_rec, reached_tup, reached_var, way_all, way_arrow, way_con, way_rec, way_tup, way_var}
use Rattle.conv_build.proofs.Reaching.{later, sooner}

-- the steps to the coordinates of each form of type
steps_var : (v : VarId) → steps_of (ty.Var v) ≡ no_step
unfolding steps_of
steps_var v = ap steps_of (sym (rolls-Var v)) ∙ para-roll-Ty _ _ steps_step _ _

steps_con : (name : NameId) (ts : List Ty) → steps_of (ty.Con name ts) ≡ no_step
unfolding steps_of
steps_con name ts = ap steps_of (sym (rolls-Con name ts)) ∙ para-roll-Ty _ _ steps_step _ _

steps_rec : (fields : List Field) → steps_of (ty.Rec fields) ≡ no_step
unfolding steps_of
steps_rec fields = ap steps_of (sym (rolls-Rec fields)) ∙ para-roll-Ty _ _ steps_step _ _

abbrev with_steps : Ty → Ty × List (List Step)
with_steps t = (t, steps_of t)

steps_tup : (ts : List Ty) → steps_of (ty.Tup ts) ≡ steps_each (map with_steps ts) 1 (length ts)
unfolding steps_of
steps_tup ts = ap steps_of (sym (rolls-Tup ts)) ∙ para-roll-Ty _ _ steps_step _ _ ∙ ap (steps_each (map with_steps ts) 1) (length-map ts with_steps)

steps_arrow : (a b : Ty) → steps_of (ty.Arrow a b) ≡ map (λ steps. step.Argument a ∷ steps) (steps_of b)
unfolding steps_of
steps_arrow a b = ap steps_of (sym (rolls-Arrow a b)) ∙ para-roll-Ty _ _ steps_step _ _

-- steps, behind others
behind_step : (first : List Step) (s : Step) (all : List (List Step)) → map (after_steps first) (map (λ steps. s ∷ steps) all) ≡ map (after_steps (first ++ s ∷ [])) all
behind_step first s [] = refl
behind_step first s (steps ∷ all) = ap₂ ◌∷◌ (sym (append_assoc first (s ∷ []) steps)) (behind_step first s all)

behind_each : (first : List Step) (ts : List Ty) (i count : ℕ) → map (after_steps first) (steps_each (map with_steps ts) i count) ≡ steps_of_all first ts i count
behind_each first [] i count = refl
behind_each first (t ∷ ts) i count =
    map-append (after_steps first) (map (λ steps. step.Component i count ∷ steps) (steps_of t)) (steps_each (map with_steps ts) (i + 1) count)
    ∙ ap₂ ◌++◌ (behind_step first (step.Component i count) (steps_of t)) (behind_each first ts (i + 1) count)

behind_atom : (t : Ty) (first : List Step) → steps_of t ≡ no_step → map (after_steps first) (steps_of t) ≡ first ∷ []
behind_atom t first is = ap (map (after_steps first)) is ∙ ap (λ steps. steps ∷ []) (append-nil first)

pub behind_var : (v : VarId) (first : List Step) → map (after_steps first) (steps_of (ty.Var v)) ≡ first ∷ []
behind_var v first = behind_atom (ty.Var v) first (steps_var v)

pub behind_con : (name : NameId) (ts : List Ty) (first : List Step) → map (after_steps first) (steps_of (ty.Con name ts)) ≡ first ∷ []
behind_con name ts first = behind_atom (ty.Con name ts) first (steps_con name ts)

pub behind_rec : (fields : List Field) (first : List Step) → map (after_steps first) (steps_of (ty.Rec fields)) ≡ first ∷ []
behind_rec fields first = behind_atom (ty.Rec fields) first (steps_rec fields)

pub behind_tup : (ts : List Ty) (first : List Step) → map (after_steps first) (steps_of (ty.Tup ts)) ≡ steps_of_all first ts 1 (length ts)
behind_tup ts first = ap (map (after_steps first)) (steps_tup ts) ∙ behind_each first ts 1 (length ts)

pub behind_arrow : (a b : Ty) (first : List Step) → map (after_steps first) (steps_of (ty.Arrow a b)) ≡ map (after_steps (first ++ step.Argument a ∷ [])) (steps_of b)
behind_arrow a b first = ap (map (after_steps first)) (steps_arrow a b) ∙ behind_step first (step.Argument a) (steps_of b)

pub ruleset steps_behind = (behind_var, behind_con, behind_rec, behind_tup, behind_arrow)

pub behind_none : (all : List (List Step)) → map (after_steps []) all ≡ all
behind_none [] = refl
behind_none (steps ∷ all) = ap (λ x. steps ∷ x) (behind_none all)

-- as many as there are coordinates
abbrev HasAll : Ty → Type 0
HasAll t = length (steps_of t) ≡ length (coordinates t)

pub steps_length : (t : Ty) → HasAll t
steps_length = induct_type HasAll
    (λ v. ap length (steps_var v) ∙ sym (count_var v))
    (λ name ts ihs. ap length (steps_con name ts) ∙ sym (count_con name ts))
    (λ fields ihs. ap length (steps_rec fields) ∙ sym (count_rec fields))
    (λ ts ihs. ap length (steps_tup ts) ∙ all ts ihs 1 (length ts) ∙ sym (ap length (coordinates_tup ts)))
    (λ a b iha ihb. ap length (steps_arrow a b) ∙ length-map (steps_of b) (λ steps. step.Argument a ∷ steps) ∙ ihb ∙ sym (length-map (coordinates b) (taking (coordinates a))) ∙ sym (ap length (coordinates_arrow a b)))
  where
    all : (ts : List Ty) → EachOf HasAll ts → (i count : ℕ) → length (steps_each (map with_steps ts) i count) ≡ length (concatenated (map coordinates ts))
    all [] ihs i count = refl
    all (t ∷ ts) ihs i count =
        length-append (map (λ steps. step.Component i count ∷ steps) (steps_of t)) (steps_each (map with_steps ts) (i + 1) count)
        ∙ ap₂ ◌+◌ (length-map (steps_of t) (λ steps. step.Component i count ∷ steps) ∙ ihs.0) (all ts ihs.1 (i + 1) count)
        ∙ sym (length-append (coordinates t) (concatenated (map coordinates ts)))

-- each leads to its coordinate
abbrev Lead : Ty → Type 0
Lead t = (place : ℕ) (steps : List Step) → slice_get (steps_of t) place ≡ Some steps → AreSteps steps t place

-- of the components of a tuple, where components count from i on
record LeadAll (steps : List Step) (ts : List Ty) (place i count : ℕ) : Type 0 where
  way_is : (n : ℕ) → way_all ts place n ≡ way_along steps n
  reached_is : (e : Term) (terms : List Term) → reached_all ts place i count e terms ≡ reached_along steps e terms

atom_leads : (t : Ty) → steps_of t ≡ no_step → ((place n : ℕ) → way t place n ≡ []) → ((place : ℕ) (e : Term) (terms : List Term) → reached t place e terms ≡ e) → Lead t
atom_leads t is no_way here place steps at = one place (sym (ap (λ all. slice_get all place) is) ∙ at)
  where
    one : (place : ℕ) → slice_get no_step place ≡ Some steps → AreSteps steps t place
    one zero at = subst (λ steps. AreSteps steps t 0) (some_injective [] steps at) (record { way_is = no_way 0; reached_is = here 0 })
    one (suc place) at = absurd (none_not steps at)

arrow_leads : (a b : Ty) → Lead b → Lead (ty.Arrow a b)
arrow_leads a b leads place steps at =
    let (others, there, is) = of_map (λ steps. step.Argument a ∷ steps) (steps_of b) place steps (sym (ap (λ all. slice_get all place) (steps_arrow a b)) ∙ at) in
    let inner : AreSteps others b place = leads place others there in
    subst (λ steps. AreSteps steps (ty.Arrow a b) place) is
    (record {
      way_is = λ n. way_arrow a b place n ∙ ap (λ ls. leaves a n ++ ls) (inner.way_is n);
      reached_is = λ e terms. reached_arrow a b place e terms ∙ inner.reached_is (term.App e (built a terms)) (drop (length (coordinates a)) terms);
    })

-- in the first component
first_leads : (t : Ty) (ts : List Ty) (place i count : ℕ) (steps : List Step) → place < length (coordinates t) → Lead t → slice_get (map (λ steps. step.Component i count ∷ steps) (steps_of t)) place ≡ Some steps → LeadAll steps (t ∷ ts) place i count
first_leads t ts place i count steps less leads at =
    let (others, there, is) = of_map (λ steps. step.Component i count ∷ steps) (steps_of t) place steps at in
    let inner : AreSteps others t place = leads place others there in
    subst (λ steps. LeadAll steps (t ∷ ts) place i count) is
    (record {
      way_is = λ n. ap (λ b. if b then way t place n else way_all ts (place - length (coordinates t)) n) (lt-ltb place (length (coordinates t)) less) ∙ inner.way_is n;
      reached_is = λ e terms. ap (λ b. if b then reached t place (term.Proj i count e) terms else reached_all ts (place - length (coordinates t)) (i + 1) count e terms) (lt-ltb place (length (coordinates t)) less) ∙ inner.reached_is (term.Proj i count e) terms;
    })

-- in a later one
others_lead : (t : Ty) (ts : List Ty) (place i count : ℕ) (steps : List Step) → length (coordinates t) ≤ place → LeadAll steps ts (place - length (coordinates t)) (i + 1) count → LeadAll steps (t ∷ ts) place i count
others_lead t ts place i count steps from inner = record {
  way_is = λ n. ap (λ b. if b then way t place n else way_all ts (place - length (coordinates t)) n) (le-ltb place (length (coordinates t)) from) ∙ inner.way_is n;
  reached_is = λ e terms. ap (λ b. if b then reached t place (term.Proj i count e) terms else reached_all ts (place - length (coordinates t)) (i + 1) count e terms) (le-ltb place (length (coordinates t)) from) ∙ inner.reached_is e terms;
}

-- in the one or in the other
component_leads : (t : Ty) (ts : List Ty) (place i count : ℕ) (steps : List Step) → Lead t → ((place i : ℕ) → slice_get (steps_each (map with_steps ts) i count) place ≡ Some steps → LeadAll steps ts place i count)
    → slice_get (steps_each (map with_steps (t ∷ ts)) i count) place ≡ Some steps → LeadAll steps (t ∷ ts) place i count
component_leads t ts place i count steps leads later_ones at = cases (below_or_from place (length (coordinates t)))
  where
    here : List (List Step)
    here = map (λ steps. step.Component i count ∷ steps) (steps_of t)

    others : List (List Step)
    others = steps_each (map with_steps ts) (i + 1) count

    as_many : length here ≡ length (coordinates t)
    as_many = length-map (steps_of t) (λ steps. step.Component i count ∷ steps) ∙ steps_length t

    cases : (place < length (coordinates t)) ⊎ (length (coordinates t) ≤ place) → LeadAll steps (t ∷ ts) place i count
    cases (inl less) = first_leads t ts place i count steps less leads (sym (sooner here others place (subst (λ n. place < n) (sym as_many) less)) ∙ at)
    cases (inr from) = others_lead t ts place i count steps from
        (later_ones (place - length (coordinates t)) (i + 1) (ap (λ n. slice_get others (place - n)) (sym as_many) ∙ sym (later here others place (subst (λ n. n ≤ place) (sym as_many) from)) ∙ at))

all_lead : (ts : List Ty) → EachOf Lead ts → (place i count : ℕ) (steps : List Step) → slice_get (steps_each (map with_steps ts) i count) place ≡ Some steps → LeadAll steps ts place i count
all_lead [] ihs place i count steps at = absurd (none_not steps at)
all_lead (t ∷ ts) ihs place i count steps at = component_leads t ts place i count steps ihs.0 (λ place i at. all_lead ts ihs.1 place i count steps at) at

tuple_leads : (ts : List Ty) → EachOf Lead ts → Lead (ty.Tup ts)
tuple_leads ts ihs place steps at =
    let inner : LeadAll steps ts place 1 (length ts) = all_lead ts ihs place 1 (length ts) steps (sym (ap (λ all. slice_get all place) (steps_tup ts)) ∙ at) in
    record {
      way_is = λ n. way_tup ts place n ∙ inner.way_is n;
      reached_is = λ e terms. reached_tup ts place e terms ∙ inner.reached_is e terms;
    }

pub steps_lead : (t : Ty) → Lead t
steps_lead = induct_type Lead
    (λ v. atom_leads (ty.Var v) (steps_var v) (way_var v) (reached_var v))
    (λ name ts ihs. atom_leads (ty.Con name ts) (steps_con name ts) (way_con name ts) (reached_con name ts))
    (λ fields ihs. atom_leads (ty.Rec fields) (steps_rec fields) (way_rec fields) (reached_rec fields))
    tuple_leads
    (λ a b iha ihb. arrow_leads a b ihb)

-- there is no step where there is no reference
pub none_lead : AreSteps [] no_reference.type no_reference.place
none_lead = record { way_is = λ n. way_tup [] 0 n; reached_is = λ e terms. reached_tup [] 0 e terms }

-- all steps, made behind no others
pub all_steps : (t : Ty) (before : List Step) (all after : List (List Step)) → before ≡ [] → all ≡ [] → after ≡ all ++ map (after_steps before) (steps_of t) → after ≡ steps_of t
all_steps t before all after before_none all_none is =
    is ∙ ap₂ (λ before all. all ++ map (after_steps before) (steps_of t)) before_none all_none ∙ behind_none (steps_of t)
