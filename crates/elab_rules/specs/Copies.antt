-- Copies of signatures (the Definition, rule 63 and section 5.3).
use Rattle.std.specs.Prelude.{ℕ, zero, suc, ◌+◌, ◌==◌, false, List, [], ◌∷◌, ◌++◌, Option, Some, None, drop, length, map, slice_get, Ok}
use Rattle.std.specs.List.{filter}
use Rattle.std.specs.Option.{option_and_then, option_to_list}
use Rattle.type_core.specs.declared.library.UnitKind.{UnitKind}
use Rattle.type_core.specs.declared.library.UnitKind.TheVariants.{Sig, Str}
use Rattle.type_core.specs.declared.names.TypeName.{TypeName}
use Rattle.type_core.specs.declared.ty.Ty.{Ty}
use Rattle.type_core.specs.declared.ty.Field.{Field}
use Rattle.type_core.specs.declared.ty.Ty.TheVariants as ty
use Rattle.type_core.specs.declared.ty.Ty.TheOpen.{Ty-F, Field-F, Var, Con, Rec, Tup, Arrow}
use Rattle.type_core.specs.declared.ty.Ty.TheFolds.{fold-Field, fold-Ty}
use Rattle.type_core.specs.Lists.{sum_of}
use Rattle.elab_rules.specs.declared.entry.Entry.TheOpen.{Entry-F, Tycon as tycon, Value, Structure}
use Rattle.elab_rules.specs.declared.entry.Entry.TheFolds.{fold-Entry}
use Rattle.elab_rules.specs.declared.entry.UnitEntry.{UnitEntry}
use Rattle.elab_rules.specs.declared.refusal.Why.TheVariants.{UnboundSignature}
use Rattle.elab_rules.specs.Bodies.{Site, Described}
use Rattle.elab_rules.specs.Environments.{Environment, the_type, the_value}
use Rattle.elab_types.specs.Finding.{place_of}
use Rattle.elab_rules.specs.LookUps.{unit_in}
use Rattle.elab_types.specs.Outcome.{and_then, required}
use Rattle.elab_rules.specs.Replacing.{environment_with}
use Rattle.elab_types.specs.Sources.{text_at}
use Rattle.elab_rules.specs.States.{State, is_free, entry_weight, weighed, within}

-- the unit, where it is a signature
abbrev pub if_signature : UnitKind → UnitEntry → Option UnitEntry
if_signature Sig unit = Some unit
if_signature Str unit = None

-- the signature of an identifier
abbrev pub signature_in : List ℕ → List UnitEntry → Option UnitEntry
signature_in id units = option_and_then (λ unit. if_signature unit.kind unit) (unit_in id units)

-- so many numbers from one on
abbrev pub numbers_from : ℕ → ℕ → List ℕ
numbers_from n zero = []
numbers_from n (suc count) = n ∷ numbers_from (n + 1) count

-- the free names among so many from a number on
abbrev pub free_among : ℕ → ℕ → State → List ℕ
free_among first count s = filter (is_free s) (numbers_from first count)

-- the numbers of a unit's own names: those made while it was elaborated that are free
abbrev pub own_names : UnitEntry → State → List ℕ
own_names unit s = free_among unit.first_name unit.name_count s

abbrev pub new_or_old : ℕ → ℕ → Option ℕ → ℕ
new_or_old n m None = m
new_or_old n m (Some place) = n + place

-- the number that a name gets where these are numbered anew from n on; another keeps its own
abbrev pub renumbered : List ℕ → ℕ → ℕ → ℕ
renumbered own n m = new_or_old n m (place_of (λ k. k == m) own)

abbrev pub rename_step : (ℕ → ℕ) → Ty-F Ty Field → Ty
rename_step f (Var v) = ty.Var v
rename_step f (Con name arguments) = ty.Con (record { 0 = f name.0 }) arguments
rename_step f (Rec fields) = ty.Rec fields
rename_step f (Tup components) = ty.Tup components
rename_step f (Arrow from to) = ty.Arrow from to

abbrev pub rename_field_step : Field-F Ty Field → Field
rename_field_step field = record { label = field.label; ty = field.ty }

-- a type with its names numbered anew
abbrev pub with_numbers : (ℕ → ℕ) → Ty → Ty
with_numbers f = fold-Ty Ty Field (rename_step f) rename_field_step

-- a field with the names of its type numbered anew
abbrev pub field_with_numbers : (ℕ → ℕ) → Field → Field
field_with_numbers f = fold-Field Ty Field (rename_step f) rename_field_step

-- a name whose path begins with another one in place of so many bytes
abbrev pub name_copied : List ℕ → ℕ → TypeName → TypeName
name_copied path count name = record { path = path ++ drop count name.path; arity = name.arity; equality = name.equality; external = name.external }

-- the names of these numbers
abbrev pub names_at : List TypeName → List ℕ → List TypeName
names_at names [] = []
names_at names (n ∷ ns) = option_to_list (slice_get names n) ++ names_at names ns

abbrev pub weights_step : Entry-F (List ℕ → ℕ) → List ℕ → ℕ
weights_step (tycon entry) path = entry_weight path (the_type entry)
weights_step (Value entry) path = entry_weight path (the_value entry)
weights_step (Structure id entries) path = 1 + (length (within path id) + sum_of (map (λ entry. entry (within path id)) entries))

-- the weight of an environment at a path, with all that is in its structures
abbrev pub environment_weight : List ℕ → Environment → ℕ
environment_weight path env = sum_of (map (λ entry. fold-Entry (List ℕ → ℕ) weights_step entry path) env)

-- the state with copies of these names at its end
abbrev pub with_copies : List ℕ → ℕ → List ℕ → State → State
with_copies path count own s = record {
  names = s.names ++ map (name_copied path count) (names_at s.names own);
  gone = s.gone ++ map (λ n. false) own;
  weight = s.weight;
}

-- a copy of a signature at a path, with new names in place of its own, weighed at the token
abbrev pub copied : UnitEntry → ℕ → Site → State → Described
copied unit token site s =
    and_then (weighed (environment_weight site.path unit.entries) token (with_copies site.path (length unit.id) (own_names unit s) s)) (λ after.
    Ok (environment_with (with_numbers (renumbered (own_names unit s) (length s.names))) unit.entries, after))

-- the signature of the identifier at a token, copied
abbrev pub named_signature : ℕ → Site → State → Described
named_signature token site s =
    required (signature_in (text_at site.texts token) site.units) UnboundSignature token (λ unit. copied unit token site s)
