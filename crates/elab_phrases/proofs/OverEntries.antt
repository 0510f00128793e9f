-- What holds of all types of entries holds of those in an entry, as code meets it.
use Rattle.std.proofs.Common.{◌≡◌, ℕ, ◌<◌, List, [], ◌∷◌, length, get_or, Some, subst, sym, ap, ◌∙◌}
use Rattle.std.specs.List.{All}
use Rattle.std.proofs.lemmas.List.Elements.{All-head}
use Rattle.std.proofs.lemmas.Option.{slice_get-get_or}
use Rattle.type_core.specs.declared.ty.Ty.{Ty}
use Rattle.elab_rules.specs.declared.entry.Entry.{Entry}
use Rattle.elab_rules.specs.declared.entry.Entry.TheVariants as entry
use Rattle.elab_rules.specs.declared.entry.TypeEntry.{TypeEntry}
use Rattle.elab_rules.specs.declared.entry.ValueEntry.{ValueEntry}
use Rattle.elab_rules.specs.Wheres.{types_of}
use Rattle.elab_rules.proofs.Entries.{all_types_parts, entry_types, types_structure, types_type, types_value}
use Rattle.elab_rules.proofs.FoundOver.{entry_over}

module _ (P : Ty → Type 0) where
  -- an entry by itself
  alone : (x : Entry) → All P (types_of (x ∷ [])) → All P (entry_types x)
  alone x all = (all_types_parts P x [] all).0

  -- the entry that a loop is at
  pub item_over : (xs : List Entry) (i : ℕ) (x d : Entry) → i < length xs → x ≡ get_or xs i d → All P (types_of xs) → All P (types_of (x ∷ []))
  item_over xs i x d within is all = entry_over P xs i x all (slice_get-get_or xs i d within ∙ ap (λ e. Some e) (sym is))

  pub type_over : (x : Entry) (type : TypeEntry) → x ≡ entry.Tycon type → All P (types_of (x ∷ [])) → P type.fun.body
  type_over x type is all = All-head P type.fun.body [] (subst (All P) (ap entry_types is ∙ types_type type) (alone x all))

  pub value_over : (x : Entry) (value : ValueEntry) → x ≡ entry.Value value → All P (types_of (x ∷ [])) → P value.scheme.body
  value_over x value is all = All-head P value.scheme.body [] (subst (All P) (ap entry_types is ∙ types_value value) (alone x all))

  pub structure_over : (x : Entry) (id : List ℕ) (entries : List Entry) → x ≡ entry.Structure id entries → All P (types_of (x ∷ [])) → All P (types_of entries)
  structure_over x id entries is all = subst (All P) (ap entry_types is ∙ types_structure id entries) (alone x all)
