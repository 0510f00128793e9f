-- Top declarations and files (the Definition, rules 65 to 68 and 82 and following).
use Rattle.std.specs.Prelude.{ℕ, ◌+◌, ◌&&◌, Bool, nat_le, bytes_eq, List, [], ◌∷◌, ◌++◌, length, map, ◌-◌, Ok}
use Rattle.sig_parser.specs.declared.tree.SourceFile.{SourceFile}
use Rattle.sig_parser.specs.declared.tree.TopDec.{TopDec}
use Rattle.sig_parser.specs.declared.tree.TopDec.TheVariants.{Signature as signature, Structure as structure}
use Rattle.type_core.specs.declared.library.UnitKind.{UnitKind}
use Rattle.type_core.specs.declared.library.UnitKind.TheVariants.{Sig, Str}
use Rattle.type_core.specs.declared.names.TypeName.{TypeName}
use Rattle.type_core.specs.Lists.{sum_of}
use Rattle.type_core.specs.NormalSize.{normal_size_of}
use Rattle.type_core.specs.Weight.{library_weight}
use Rattle.elab_rules.specs.declared.entry.UnitEntry.{UnitEntry}
use Rattle.elab_rules.specs.declared.refusal.Why.TheVariants.{Duplicate, LateUnit, TooManyMembers, LibraryTooLarge}
use Rattle.elab_rules.specs.Bodies.{Site}
use Rattle.elab_rules.specs.Environments.{Environment}
use Rattle.elab_types.specs.Finding.{none_of}
use Rattle.elab_rules.specs.Library.{Basis, library}
use Rattle.sig_base.specs.LongIdentifiers.{parts}
use Rattle.elab_rules.specs.Outcome.{Outcome}
use Rattle.elab_types.specs.Outcome.{and_then, checked}
use Rattle.elab_types.specs.Sources.{text_at}
use Rattle.elab_rules.specs.Specifications.{Signature, binding_of}
use Rattle.elab_rules.specs.States.{weighed}

-- whether no unit has the identifier
abbrev pub is_new_unit : List ℕ → List UnitEntry → Bool
is_new_unit id units = none_of (λ unit. bytes_eq id unit.id) units

abbrev pub first_of : List (List ℕ) → List ℕ
first_of [] = []
first_of (part ∷ parts) = part

-- whether the identifier is the first part of a path
abbrev pub is_first_part : List ℕ → List ℕ → Bool
is_first_part id path = bytes_eq id (first_of (parts path))

-- whether the name comes from elsewhere, and the identifier is the first part of its path
abbrev pub is_from : List ℕ → TypeName → Bool
is_from id name = name.external && is_first_part id name.path

-- the identifiers of a declaration, of which the first are seen already: none was declared before, and none was used as
-- the first part of a name from elsewhere
abbrev pub identifiers_checked : List (List ℕ) → Basis → List (List ℕ) → List (ℕ × Signature) → Outcome (Unit {0})
identifiers_checked texts basis seen [] = Ok tt
identifiers_checked texts basis seen (bind ∷ binds) =
    checked (is_new_unit (text_at texts bind.0) basis.units && none_of (bytes_eq (text_at texts bind.0)) seen) Duplicate bind.0
    (checked (none_of (is_from (text_at texts bind.0)) basis.state.names) LateUnit bind.0
    (identifiers_checked texts basis (seen ++ text_at texts bind.0 ∷ []) binds))

-- the sum of the normal sizes of all members so far
abbrev pub normal_sum : Basis → ℕ
normal_sum basis = sum_of (map (λ member. normal_size_of member.scheme.body) (library basis).members)

-- the limits on the library of all units so far
abbrev pub library_limited : ℕ → Basis → Outcome Basis
library_limited token basis =
    checked (nat_le (length (library basis).members) 100000) TooManyMembers token
    (checked (nat_le (library_weight (library basis)) 8000000 && nat_le (normal_sum basis) 4000000) LibraryTooLarge token
    (Ok basis))

-- the site of a top signature expression: nothing stands around it but the basis before the declaration
abbrev pub top_site : List (List ℕ) → List UnitEntry → List (List ℕ) → List ℕ → Site
top_site texts units declaring id = record { texts = texts; path = id; around = []; base = 0; units = units; declaring = declaring }

-- a unit, for which the names from a number on were made, up to another one
abbrev pub unit_made : UnitKind → List ℕ → Environment → ℕ → ℕ → UnitEntry
unit_made kind id entries first after = record { kind = kind; id = id; entries = entries; first_name = first; name_count = after - first }

-- a binding: its right side, with the identifier as path, then the weight of the identifier, then the limits
abbrev pub bound : UnitKind → List (List ℕ) → List UnitEntry → List (List ℕ) → ℕ × Signature → Basis → Outcome Basis
bound kind texts units declaring bind basis =
    and_then (bind.1.elaborated (top_site texts units declaring (text_at texts bind.0)) basis.state) (λ r.
    and_then (weighed (1 + length (text_at texts bind.0)) bind.0 r.1) (λ after.
    library_limited bind.0 (record {
      units = basis.units ++ unit_made kind (text_at texts bind.0) r.0 (length basis.state.names) (length after.names) ∷ [];
      state = after;
    })))

-- bindings, each of which sees the units before the declaration
abbrev pub all_bound : UnitKind → List (List ℕ) → List UnitEntry → List (List ℕ) → List (ℕ × Signature) → Basis → Outcome Basis
all_bound kind texts units declaring [] basis = Ok basis
all_bound kind texts units declaring (bind ∷ binds) basis =
    and_then (bound kind texts units declaring bind basis) (λ after. all_bound kind texts units declaring binds after)

-- a declaration: first all identifiers, then the bindings in order
abbrev pub bindings_declared : UnitKind → List (List ℕ) → List (ℕ × Signature) → Basis → Outcome Basis
bindings_declared kind texts binds basis =
    and_then (identifiers_checked texts basis [] binds) (λ done.
    all_bound kind texts basis.units (map (λ bind. text_at texts bind.0) binds) binds basis)

abbrev pub declared : List (List ℕ) → TopDec → Basis → Outcome Basis
declared texts (signature binds) basis = bindings_declared Sig texts (map binding_of binds) basis
declared texts (structure binds) basis = bindings_declared Str texts (map binding_of binds) basis

abbrev pub all_declared : List (List ℕ) → List TopDec → Basis → Outcome Basis
all_declared texts [] basis = Ok basis
all_declared texts (dec ∷ decs) basis = and_then (declared texts dec basis) (λ after. all_declared texts decs after)

-- a file, by the texts of its tokens: the basis after it, or the first condition that fails
abbrev pub elaborated : List (List ℕ) → SourceFile → Basis → Outcome Basis
elaborated texts file basis = all_declared texts file.decs basis
