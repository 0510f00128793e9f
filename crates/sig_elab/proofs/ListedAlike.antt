-- What is listed of units whose types were changed: as much, where what is measured of each stays.
use Rattle.std.proofs.Common.{◌≡◌, ℕ, Bool, List, [], ◌∷◌, ◌++◌, map, refl, sym, ap, ap₂, ◌∙◌}
use Rattle.std.proofs.lemmas.List.{map-append}
use Rattle.type_core.specs.declared.library.Tycon.{Tycon}
use Rattle.type_core.specs.declared.member.Member.{Member}
use Rattle.type_core.specs.declared.ty.Ty.{Ty}
use Rattle.type_core.specs.Lists.{concatenated}
use Rattle.type_core.proofs.Trees.{EachOf}
use Rattle.elab_env.proofs.Parts.{map_map}
use Rattle.elab_rules.specs.declared.entry.Entry.{Entry}
use Rattle.elab_rules.specs.declared.entry.TypeEntry.{TypeEntry}
use Rattle.elab_rules.specs.declared.entry.UnitEntry.{UnitEntry}
use Rattle.elab_rules.specs.declared.entry.ValueEntry.{ValueEntry}
use Rattle.elab_rules.specs.Copies.{with_numbers}
use Rattle.elab_rules.specs.Environments.{Environment}
use Rattle.elab_rules.specs.Library.{entry_members, entry_tycons, number_kept, unit_members, unit_renumbered, unit_tycons}
use Rattle.elab_rules.specs.Replacing.{entry_with, environment_with, type_with, value_with}
use Rattle.elab_rules.specs.States.{member_of, tycon_of, within}
use Rattle.elab_rules.proofs.Entries.{each_entry, induct_entry, with_structure, with_type, with_value}
use Rattle.sig_elab.proofs.Listings.{members_structure, members_type, members_value, tycons_structure, tycons_type, tycons_value}

-- lists that are put together, each of which is measured alike
module _ {A B C : Type 0} (measure : B → C) (f g : A → List B) where
  pub together : (xs : List A) → EachOf (λ x. map measure (f x) ≡ map measure (g x)) xs → map measure (concatenated (map f xs)) ≡ map measure (concatenated (map g xs))
  together [] h = refl
  together (x ∷ xs) h =
      map-append measure (f x) (concatenated (map f xs))
      ∙ ap₂ ◌++◌ h.0 (together xs h.1)
      ∙ sym (map-append measure (g x) (concatenated (map g xs)))

all_of : {A : Type 0} (P : A → Type 0) → ((x : A) → P x) → (xs : List A) → EachOf P xs
all_of P each [] = tt
all_of P each (x ∷ xs) = (each x, all_of P each xs)

at_path : (P : List ℕ → Entry → Type 0) (path : List ℕ) (es : List Entry) → EachOf (λ e. (at : List ℕ) → P at e) es → EachOf (P path) es
at_path P path [] h = tt
at_path P path (e ∷ es) h = (h.0 path, at_path P path es h.1)

-- ---- type constructors
module _ {A : Type 0} (measure : Tycon → A) (g : Ty → Ty) (same : (path : List ℕ) (type : TypeEntry) → measure (tycon_of path (type_with g type)) ≡ measure (tycon_of path type)) where
  abbrev AlikeAt : List ℕ → Entry → Type 0
  AlikeAt path e = map measure (entry_tycons (entry_with g e) path) ≡ map measure (entry_tycons e path)

  entries_alike : (path : List ℕ) (es : Environment) → EachOf (AlikeAt path) es → map measure (concatenated (map (λ e. entry_tycons e path) (environment_with g es))) ≡ map measure (concatenated (map (λ e. entry_tycons e path) es))
  entries_alike path es hs =
      ap (λ ls. map measure (concatenated ls)) (map_map (λ e. entry_tycons e path) (entry_with g) es)
      ∙ together measure (λ e. entry_tycons (entry_with g e) path) (λ e. entry_tycons e path) es hs

  entry_alike : (e : Entry) (path : List ℕ) → AlikeAt path e
  entry_alike = induct_entry (λ e. (path : List ℕ) → AlikeAt path e)
      (λ type path. ap (map measure) (tycons_type _ (type_with g type) path (with_type g type)) ∙ ap (λ x. x ∷ []) (same path type) ∙ sym (ap (map measure) (tycons_type _ type path refl)))
      (λ value path. ap (map measure) (tycons_value _ (value_with g value) path (with_value g value)) ∙ sym (ap (map measure) (tycons_value _ value path refl)))
      (λ id es hs path. ap (map measure) (tycons_structure _ id (environment_with g es) path (with_structure g id es))
      ∙ entries_alike (within path id) es (at_path AlikeAt (within path id) es hs)
      ∙ sym (ap (map measure) (tycons_structure _ id es path refl)))

  pub tycons_alike : (path : List ℕ) (es : Environment) → map measure (concatenated (map (λ e. entry_tycons e path) (environment_with g es))) ≡ map measure (concatenated (map (λ e. entry_tycons e path) es))
  tycons_alike path es = entries_alike path es (each_entry (AlikeAt path) (λ e. entry_alike e path) es)

-- ---- members
module _ {A : Type 0} (measure : Member → A) (g : Ty → Ty) (same : (path : List ℕ) (value : ValueEntry) → measure (member_of path (value_with g value)) ≡ measure (member_of path value)) where
  abbrev AlikeMembers : List ℕ → Entry → Type 0
  AlikeMembers path e = map measure (entry_members (entry_with g e) path) ≡ map measure (entry_members e path)

  entries_members_alike : (path : List ℕ) (es : Environment) → EachOf (AlikeMembers path) es → map measure (concatenated (map (λ e. entry_members e path) (environment_with g es))) ≡ map measure (concatenated (map (λ e. entry_members e path) es))
  entries_members_alike path es hs =
      ap (λ ls. map measure (concatenated ls)) (map_map (λ e. entry_members e path) (entry_with g) es)
      ∙ together measure (λ e. entry_members (entry_with g e) path) (λ e. entry_members e path) es hs

  entry_members_alike : (e : Entry) (path : List ℕ) → AlikeMembers path e
  entry_members_alike = induct_entry (λ e. (path : List ℕ) → AlikeMembers path e)
      (λ type path. ap (map measure) (members_type _ (type_with g type) path (with_type g type)) ∙ sym (ap (map measure) (members_type _ type path refl)))
      (λ value path. ap (map measure) (members_value _ (value_with g value) path (with_value g value)) ∙ ap (λ x. x ∷ []) (same path value) ∙ sym (ap (map measure) (members_value _ value path refl)))
      (λ id es hs path. ap (map measure) (members_structure _ id (environment_with g es) path (with_structure g id es))
      ∙ entries_members_alike (within path id) es (at_path AlikeMembers (within path id) es hs)
      ∙ sym (ap (map measure) (members_structure _ id es path refl)))

  pub members_alike : (path : List ℕ) (es : Environment) → map measure (concatenated (map (λ e. entry_members e path) (environment_with g es))) ≡ map measure (concatenated (map (λ e. entry_members e path) es))
  members_alike path es = entries_members_alike path es (each_entry (AlikeMembers path) (λ e. entry_members_alike e path) es)

-- ---- units whose names were numbered anew
module _ (flags : List Bool) where
  abbrev numbering : Ty → Ty
  numbering = with_numbers (number_kept flags)

  pub units_tycons_alike : {A : Type 0} (measure : Tycon → A) → ((path : List ℕ) (type : TypeEntry) → measure (tycon_of path (type_with numbering type)) ≡ measure (tycon_of path type))
      → (units : List UnitEntry) → map measure (concatenated (map unit_tycons (map (unit_renumbered flags) units))) ≡ map measure (concatenated (map unit_tycons units))
  units_tycons_alike measure same units =
      ap (λ ls. map measure (concatenated ls)) (map_map unit_tycons (unit_renumbered flags) units)
      ∙ together measure (λ unit. unit_tycons (unit_renumbered flags unit)) unit_tycons units (all_of _ (λ unit. tycons_alike measure numbering same unit.id unit.entries) units)

  pub units_members_alike : {A : Type 0} (measure : Member → A) → ((path : List ℕ) (value : ValueEntry) → measure (member_of path (value_with numbering value)) ≡ measure (member_of path value))
      → (units : List UnitEntry) → map measure (concatenated (map unit_members (map (unit_renumbered flags) units))) ≡ map measure (concatenated (map unit_members units))
  units_members_alike measure same units =
      ap (λ ls. map measure (concatenated ls)) (map_map unit_members (unit_renumbered flags) units)
      ∙ together measure (λ unit. unit_members (unit_renumbered flags unit)) unit_members units (all_of _ (λ unit. members_alike measure numbering same unit.id unit.entries) units)
