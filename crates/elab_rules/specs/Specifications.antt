-- Specifications, bodies and signature expressions (the Definition, rules 61 to 81).
use Rattle.std.specs.Prelude.{ℕ, ◌&&◌, Bool, true, List, [], ◌∷◌, ◌++◌, length, Ok}
use Rattle.sig_parser.specs.declared.tree.Bind.{Bind}
use Rattle.sig_parser.specs.declared.tree.Spec.{Spec}
use Rattle.sig_parser.specs.declared.tree.SigBase.{SigBase}
use Rattle.sig_parser.specs.declared.tree.SigExp.{SigExp}
use Rattle.sig_parser.specs.declared.tree.WherePart.{WherePart}
use Rattle.sig_parser.specs.declared.tree.SigBase.TheOpen.{Bind-F, SigExp-F, SigBase-F, Spec-F, Body, Name, Val, Abbrev, Eqtype, Datatype, Replica, Exception, Structure, Include, SharingType, Sharing}
use Rattle.sig_parser.specs.declared.tree.SigBase.TheFolds.{fold-Bind, fold-SigBase, fold-SigExp, fold-Spec}
use Rattle.type_core.specs.declared.names.Equality.TheVariants.{Never, IfArgs}
use Rattle.elab_rules.specs.declared.entry.Entry.{Entry, out-Entry}
use Rattle.elab_rules.specs.declared.entry.Entry.TheOpen.{Entry-F, Tycon, Value, Structure as structure}
use Rattle.elab_rules.specs.declared.refusal.Why.TheVariants.{Duplicate}
use Rattle.elab_rules.specs.Bodies.{Site, Described, Specified, added, in_turn, site_from, site_within}
use Rattle.elab_rules.specs.Copies.{named_signature}
use Rattle.elab_rules.specs.Datatypes.{datatypes_described}
use Rattle.elab_rules.specs.Environments.{Environment, is_new_structure, is_new_type, is_new_value, the_structure}
use Rattle.elab_rules.specs.Exceptions.{exceptions_described}
use Rattle.elab_types.specs.Outcome.{and_then, checked}
use Rattle.elab_rules.specs.Replications.{replica_described}
use Rattle.elab_rules.specs.Sharing.{shared, types_shared}
use Rattle.elab_types.specs.Sources.{text_at}
use Rattle.elab_rules.specs.States.{State, within}
use Rattle.elab_rules.specs.TypeDescriptions.{types_described}
use Rattle.elab_rules.specs.Values.{values_described}
use Rattle.elab_rules.specs.Wheres.{parts_applied}

-- a signature expression: its first token, and the environment that it gives
pub record Signature : Type 0 where
  pub first : ℕ
  pub elaborated : Site → State → Described

-- what stands before `where`
abbrev pub Base : Type 0
Base = Site → State → Described

-- a structure of a group: it is new in the body and in the group, and sees the body before the group
abbrev pub structure_described : Environment → ℕ × Signature → Specified
structure_described before bind site own s =
    checked (is_new_structure (text_at site.texts bind.0) own) Duplicate bind.0
    (and_then (bind.1.elaborated (site_within (within site.path (text_at site.texts bind.0)) before site) s) (λ r.
    added site (the_structure (text_at site.texts bind.0) r.0) bind.0 own r.1))

-- structures, whose entries are added after the group: none sees those beside it
abbrev pub structures_described : List (ℕ × Signature) → Specified
structures_described binds site own s = in_turn (structure_described own) binds site own s

-- whether the entry's identifier is new in the body, among those of its kind
abbrev pub is_new_step : Environment → Entry-F Entry → Bool
is_new_step own (Tycon entry) = is_new_type entry.id own
is_new_step own (Value entry) = is_new_value entry.id own
is_new_step own (structure id entries) = is_new_structure id own

abbrev pub are_new : List Entry → Environment → Bool
are_new [] own = true
are_new (entry ∷ entries) own = is_new_step own (out-Entry entry) && are_new entries own

-- an inclusion: what the expression gives at the present path, where all of its identifiers are new
abbrev pub included : Signature → Specified
included signature site own s =
    and_then (signature.elaborated (site_within site.path own site) s) (λ r.
    checked (are_new r.0 own) Duplicate signature.first (Ok (own ++ r.0, r.1)))

abbrev pub spec_step : Spec-F Base Specified (ℕ × Signature) Signature → Specified
spec_step (Val values) = values_described values
spec_step (Abbrev ds) = types_described Never ds
spec_step (Eqtype ds) = types_described IfArgs ds
spec_step (Datatype ds) = datatypes_described ds
spec_step (Replica id other) = replica_described id other
spec_step (Exception cs) = exceptions_described cs
spec_step (Structure binds) = structures_described binds
spec_step (Include signatures) = in_turn included signatures
spec_step (SharingType tokens) = types_shared tokens
spec_step (Sharing tokens) = shared tokens

-- a body, or a copy of the signature of an identifier
abbrev pub base_step : SigBase-F Base Specified (ℕ × Signature) Signature → Base
base_step (Body specs) site s = in_turn (λ spec. spec) specs (site_from (length s.names) site) [] s
base_step (Name token) site s = named_signature token site s

-- an expression with the parts of its `where`
abbrev pub with_parts : List WherePart → Base → Base
with_parts parts base site s = and_then (base site s) (λ r. parts_applied parts (length s.names) site r.0 r.1)

abbrev pub signature_step : SigExp-F Base Specified (ℕ × Signature) Signature → Signature
signature_step e = record { first = e.first; elaborated = with_parts e.parts e.base }

abbrev pub bind_step : Bind-F Base Specified (ℕ × Signature) Signature → ℕ × Signature
bind_step bind = (bind.id, bind.rhs)

-- what a specification makes of the body before it
abbrev pub specified : Spec → Specified
specified = fold-Spec Base Specified (ℕ × Signature) Signature base_step spec_step bind_step signature_step

-- a signature expression
abbrev pub signature_of : SigExp → Signature
signature_of = fold-SigExp Base Specified (ℕ × Signature) Signature base_step spec_step bind_step signature_step

-- a binding: its identifier and its right side
abbrev pub binding_of : Bind → ℕ × Signature
binding_of = fold-Bind Base Specified (ℕ × Signature) Signature base_step spec_step bind_step signature_step

-- what stands before `where`
abbrev pub base_of : SigBase → Base
base_of = fold-SigBase Base Specified (ℕ × Signature) Signature base_step spec_step bind_step signature_step
