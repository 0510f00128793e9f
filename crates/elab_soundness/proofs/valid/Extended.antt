-- A unit stays sound where names are added.
use Rattle.std.proofs.Common.{◌≡◌, ℕ, zero, suc, ◌+◌, ◌≤◌, Bool, List, [], ◌∷◌, ◌++◌, drop, length, take, refl, sym, ap, ◌∙◌, subst, arith}
use Rattle.std.proofs.lemmas.List.{length-append}
use Rattle.type_core.specs.declared.names.TypeName.{TypeName}
use Rattle.elab_rules.specs.declared.entry.UnitEntry.{UnitEntry}
use Rattle.elab_soundness.specs.Soundness.{AreNamed, IsSoundUnit, known_by, paths_within}
use Rattle.elab_rules.specs.States.{State}
use Rattle.elab_soundness.proofs.valid.Body.{Extends, known_extended}
use Rattle.elab_soundness.proofs.valid.Weaker.{environment_still}

-- a stretch of a list is that of a longer one
take_appended : {A : Type 0} (xs ys : List A) (count : ℕ) → count ≤ length xs → take count (xs ++ ys) ≡ take count xs
take_appended xs ys zero l = refl
take_appended [] ys (suc count) l = absurd (omega (arith, l))
take_appended (x ∷ xs) ys (suc count) l = ap (λ rest. x ∷ rest) (take_appended xs ys count (omega (arith, l)))

pub stretch_appended : {A : Type 0} (xs ys : List A) (first count : ℕ) → first + count ≤ length xs → take count (drop first (xs ++ ys)) ≡ take count (drop first xs)
stretch_appended xs ys zero count l = take_appended xs ys count (omega (arith, l))
stretch_appended [] ys (suc first) count l = absurd (omega (arith, l))
stretch_appended (x ∷ xs) ys (suc first) count l = stretch_appended xs ys first count (omega (arith, l))

pub unit_extended : (s t : State) (more : List TypeName) (flags : List Bool) → length s.gone ≡ length s.names → Extends s t more flags → (unit : UnitEntry) → IsSoundUnit s unit → IsSoundUnit t unit
unit_extended s t more flags counted x unit h =
    let names = ap (λ ns. take unit.name_count (drop unit.first_name ns)) x.names ∙ stretch_appended s.names more unit.first_name unit.name_count h.made in
    let gone = ap (λ fs. take unit.name_count (drop unit.first_name fs)) x.gone ∙ stretch_appended s.gone flags unit.first_name unit.name_count (omega (arith, h.made, counted)) in
    record {
      id = h.id;
      entries = environment_still (known_by s) (known_by t) (known_extended s t more flags counted x) unit.entries h.entries;
      later = h.later;
      made = omega (arith, h.made, ap length x.names, length-append s.names more);
      named = subst (λ ns. AreNamed (paths_within unit.id unit.entries) ns (take unit.name_count (drop unit.first_name t.gone))) (sym names)
          (subst (λ fs. AreNamed (paths_within unit.id unit.entries) (take unit.name_count (drop unit.first_name s.names)) fs) (sym gone) h.named);
    }
