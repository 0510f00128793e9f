-- Declarations in turn, and their identifiers.
use Rattle.std.proofs.Common.{◌≡◌, ℕ, ◌+◌, ◌<◌, ◌≤◌, Bool, true, false, not, ◌&&◌, is_some, if◌then◌else◌, List, [], ◌∷◌, ◌++◌, map, length, take, drop, get_or, bytes_eq, Option, Some, Result, Ok, Err, IsErrAnd, refl, sym, ap, ap₂, ◌∙◌, subst}
use Rattle.std.proofs.lemmas.List.{map-append, take_all, take_more}
use Rattle.sig_parser.specs.declared.tree.Bind.{Bind}
use Rattle.type_core.specs.declared.library.UnitKind.{UnitKind}
use Rattle.sig_elab.specs.declared.draft.Draft.{Draft}
use Rattle.elab_rules.specs.declared.entry.UnitEntry.{UnitEntry}
use Rattle.elab_rules.specs.declared.refusal.ElabRefusal.{ElabRefusal}
use Rattle.elab_rules.specs.declared.refusal.ElabRefusal.TheVariants.{Refused, NoMemory}
use Rattle.elab_rules.specs.declared.refusal.Why.TheVariants.{Duplicate, LateUnit}
use Rattle.sig_elab.specs.Elaborators.{GivesBasis}
use Rattle.elab_rules.specs.Files.{all_bound, bindings_declared, identifiers_checked, is_from, is_new_unit}
use Rattle.elab_types.specs.Finding.{none_of}
use Rattle.elab_rules.specs.Library.{Basis}
use Rattle.elab_rules.specs.Outcome.{Outcome}
use Rattle.elab_types.specs.Outcome.{and_then, checked, failed}
use Rattle.elab_types.specs.Sources.{text_at}
use Rattle.elab_rules.specs.Specifications.{Signature, binding_of}
use Rattle.elab_rules.specs.States.{State}
use Rattle.elab_types.proofs.Lists.{dropped}
use Rattle.elab_rules.proofs.Outcomes.{handed_on}
use Rattle.elab_rules.proofs.ParameterTexts.{held_more, none_more}
use Rattle.elab_phrases.proofs.SoughtLevels.{none_mapped}
use Rattle.elab_rules.proofs.Levels.{binding_is}

-- ---- a step that fails ends what follows it
basis_fails : (o : Outcome Basis) (next : Basis → Outcome Basis) (e : ElabRefusal) → GivesBasis o (Err e) → GivesBasis (and_then o next) (Err e)
basis_fails o next (Refused why token) gives = ap (λ q. and_then q next) gives
basis_fails o next NoMemory gives = tt

basis_ends : (o : Outcome Basis) (next : Basis → Outcome Basis) (whole : Outcome Basis) (result : Result Draft ElabRefusal) (e : ElabRefusal) → and_then o next ≡ whole → IsErrAnd result (λ other. other ≡ e) → GivesBasis o (Err e)
    → GivesBasis whole result
basis_ends o next whole result e is handed gives =
    subst (λ r. GivesBasis whole r) (sym (handed_on result e handed)) (subst (λ q. GivesBasis q (Err e)) is (basis_fails o next e gives))

-- ---- phrases in turn
module _ {A : Type 0} (step : A → Basis → Outcome Basis) (all : List A → Basis → Outcome Basis) (law : (x : A) (xs : List A) (b : Basis) → all (x ∷ xs) b ≡ and_then (step x b) (all xs)) where
  turn : (xs : List A) (i : ℕ) (x d : A) (b : Basis) → i < length xs → x ≡ get_or xs i d → all (drop i xs) b ≡ and_then (step x b) (all (drop (i + 1) xs))
  turn xs i x d b within is = ap (λ rest. all rest b) (dropped xs i x d within is) ∙ law x (drop (i + 1) xs) b

  pub all_end : (xs : List A) (i : ℕ) (x d : A) (b : Basis) (whole : Outcome Basis) (result : Result Draft ElabRefusal) (e : ElabRefusal) → i < length xs → x ≡ get_or xs i d → all (drop i xs) b ≡ whole → IsErrAnd result (λ other. other ≡ e)
      → GivesBasis (step x b) (Err e) → GivesBasis whole result
  all_end xs i x d b whole result e within is so_far handed gives = basis_ends (step x b) _ whole result e (sym (turn xs i x d b within is) ∙ so_far) handed gives

  pub all_go_on : (xs : List A) (i : ℕ) (x d : A) (b more : Basis) (whole : Outcome Basis) → i < length xs → x ≡ get_or xs i d → all (drop i xs) b ≡ whole → step x b ≡ Ok more → all (drop (i + 1) xs) more ≡ whole
  all_go_on xs i x d b more whole within is so_far ok = sym (ap (λ o. and_then o (all (drop (i + 1) xs))) ok) ∙ sym (turn xs i x d b within is) ∙ so_far

-- ---- the identifiers of a declaration
abbrev pub bound_text : List (List ℕ) → Bind → List ℕ
bound_text texts bind = text_at texts bind.id

pub all_seen : (texts : List (List ℕ)) (binds : List Bind) (n : ℕ) (id : List ℕ) (place : Option ℕ) → length binds ≤ n → is_some place ≡ not (none_of (bytes_eq id) (map (bound_text texts) (take n binds)))
    → is_some place ≡ not (none_of (λ bind. bytes_eq id (text_at texts bind.id)) binds)
all_seen texts binds n id place whole seen =
    seen ∙ ap (λ bs. not (none_of (bytes_eq id) (map (bound_text texts) bs))) (take_all n binds whole) ∙ ap not (none_mapped (bytes_eq id) (bound_text texts) binds)

bounds_more : (texts : List (List ℕ)) (binds : List Bind) (n : ℕ) (bind d : Bind) → n < length binds → bind ≡ get_or binds n d → map (bound_text texts) (take (n + 1) binds) ≡ map (bound_text texts) (take n binds) ++ bound_text texts bind ∷ []
bounds_more texts binds n bind d within is =
    ap (map (bound_text texts)) (take_more binds n d within)
    ∙ map-append (bound_text texts) (take n binds) (get_or binds n d ∷ [])
    ∙ ap (λ b. map (bound_text texts) (take n binds) ++ bound_text texts b ∷ []) (sym is)

pub seen_more : (texts : List (List ℕ)) (binds : List Bind) (n : ℕ) (bind d : Bind) (text other : List ℕ) (old new : Option ℕ) → n < length binds → bind ≡ get_or binds n d → text ≡ text_at texts bind.id
    → is_some old ≡ not (none_of (bytes_eq other) (map (bound_text texts) (take n binds))) → new ≡ (if bytes_eq other text then Some 0 else old)
    → is_some new ≡ not (none_of (bytes_eq other) (map (bound_text texts) (take (n + 1) binds)))
seen_more texts binds n bind d text other old new within is t was now =
    ap is_some now
    ∙ held_more (bytes_eq other text) old (none_of (bytes_eq other) (map (bound_text texts) (take n binds))) was
    ∙ ap not (sym (none_more (bytes_eq other) (map (bound_text texts) (take n binds)) text)
    ∙ ap (λ x. none_of (bytes_eq other) (map (bound_text texts) (take n binds) ++ x ∷ [])) t
    ∙ ap (none_of (bytes_eq other)) (sym (bounds_more texts binds n bind d within is)))

and_false : (b : Bool) → (b && false) ≡ false
and_false true = refl
and_false false = refl

-- the test that a thing is there says whether none is
pub none_is : (found none expected : Bool) → found ≡ not none → found ≡ not expected → none ≡ expected
none_is found true true e f = refl
none_is found true false e f = cc
none_is found false true e f = cc
none_is found false false e f = refl

-- the binding whose turn it is
module _ (texts : List (List ℕ)) (basis : Basis) (binds : List Bind) (n : ℕ) (bind d : Bind) (text : List ℕ) (whole : Outcome (Unit {0})) (within : n < length binds) (is : bind ≡ get_or binds n d) (t : text ≡ text_at texts bind.id)
    (so_far : identifiers_checked texts basis (map (bound_text texts) (take n binds)) (map binding_of (drop n binds)) ≡ whole) where
  abbrev follows : Outcome (Unit {0})
  follows = identifiers_checked texts basis (map (bound_text texts) (take n binds) ++ text_at texts bind.id ∷ []) (map binding_of (drop (n + 1) binds))

  abbrev late : Outcome (Unit {0})
  late = checked (none_of (is_from text) basis.state.names) LateUnit bind.id follows

  whole_is : whole ≡ checked (is_new_unit text basis.units && none_of (bytes_eq text) (map (bound_text texts) (take n binds))) Duplicate bind.id late
  whole_is =
      sym so_far
      ∙ ap (λ rest. identifiers_checked texts basis (map (bound_text texts) (take n binds)) (map binding_of rest)) (dropped binds n bind d within is)
      ∙ ap (λ (b : ℕ × Signature). identifiers_checked texts basis (map (bound_text texts) (take n binds)) (b ∷ map binding_of (drop (n + 1) binds))) (binding_is bind)
      ∙ ap (λ x. checked (is_new_unit x basis.units && none_of (bytes_eq x) (map (bound_text texts) (take n binds))) Duplicate bind.id (checked (none_of (is_from x) basis.state.names) LateUnit bind.id follows)) (sym t)

  -- a unit has its identifier
  pub declared_before : is_new_unit text basis.units ≡ false → whole ≡ failed Duplicate bind.id
  declared_before old = whole_is ∙ ap (λ b. checked (b && none_of (bytes_eq text) (map (bound_text texts) (take n binds))) Duplicate bind.id late) old

  -- it stood in the declaration
  pub declared_again : none_of (bytes_eq text) (map (bound_text texts) (take n binds)) ≡ false → whole ≡ failed Duplicate bind.id
  declared_again again = whole_is ∙ ap (λ b. checked b Duplicate bind.id late) (ap (λ b. is_new_unit text basis.units && b) again ∙ and_false _)

  module _ (new : is_new_unit text basis.units ≡ true) (fresh : none_of (bytes_eq text) (map (bound_text texts) (take n binds)) ≡ true) where
    whole_late : whole ≡ late
    whole_late =
        whole_is
        ∙ ap (λ b. checked (b && none_of (bytes_eq text) (map (bound_text texts) (take n binds))) Duplicate bind.id late) new
        ∙ ap (λ b. checked b Duplicate bind.id late) fresh

    -- it was the first part of a name from elsewhere
    pub declared_late : none_of (is_from text) basis.state.names ≡ false → whole ≡ failed LateUnit bind.id
    declared_late from = whole_late ∙ ap (λ b. checked b LateUnit bind.id follows) from

    -- none of these
    pub declared_newly : none_of (is_from text) basis.state.names ≡ true → identifiers_checked texts basis (map (bound_text texts) (take (n + 1) binds)) (map binding_of (drop (n + 1) binds)) ≡ whole
    declared_newly from =
        ap (λ seen. identifiers_checked texts basis seen (map binding_of (drop (n + 1) binds))) (bounds_more texts binds n bind d within is)
        ∙ sym (whole_late ∙ ap (λ b. checked b LateUnit bind.id follows) from)

-- ---- a declaration
ids_are : (texts : List (List ℕ)) (binds : List Bind) → map (λ (b : ℕ × Signature). text_at texts b.0) (map binding_of binds) ≡ map (bound_text texts) binds
ids_are texts [] = refl
ids_are texts (bind ∷ binds) = ap₂ (λ (b : ℕ × Signature) ids. text_at texts b.0 ∷ ids) (binding_is bind) (ids_are texts binds)

-- its bindings see all units before it
pub then_bound : (kind : UnitKind) (texts : List (List ℕ)) (binds : List Bind) (before added : List UnitEntry) (count : ℕ) (state : State) (result : Result Draft ElabRefusal) → length added ≤ count
    → identifiers_checked texts (record { units = before ++ added; state = state }) [] (map binding_of binds) ≡ Ok tt
    → GivesBasis (all_bound kind texts (before ++ take count added) (map (bound_text texts) binds) (map binding_of binds) (record { units = before ++ added; state = state })) result
    → GivesBasis (bindings_declared kind texts (map binding_of binds) (record { units = before ++ added; state = state })) result
then_bound kind texts binds before added count state result whole checked gives =
    let basis : Basis = record { units = before ++ added; state = state } in
    subst (λ o. GivesBasis o result)
    (ap₂ (λ us ids. all_bound kind texts (before ++ us) ids (map binding_of binds) basis) (take_all count added whole) (sym (ids_are texts binds))
    ∙ sym (ap (λ o. and_then o (λ done. all_bound kind texts basis.units (map (λ (b : ℕ × Signature). text_at texts b.0) (map binding_of binds)) (map binding_of binds) basis)) checked)) gives
