-- What holds of all types of an environment holds of what is found in it.
use Rattle.std.proofs.Common.{◌≡◌, ℕ, zero, suc, Bool, true, false, if◌then◌else◌, bytes_eq, List, [], ◌∷◌, slice_get, Option, Some, None, refl, sym, ap, ◌∙◌, subst}
use Rattle.std.specs.List.{All}
use Rattle.std.specs.Option.{option_and_then, option_or}
use Rattle.std.proofs.lemmas.List.Elements.{All-head, All-nil}
use Rattle.type_core.specs.declared.ty.Ty.{Ty}
use Rattle.elab_rules.specs.declared.entry.Entry.{Entry}
use Rattle.elab_rules.specs.declared.entry.TypeEntry.{TypeEntry}
use Rattle.elab_rules.specs.declared.entry.ValueEntry.{ValueEntry}
use Rattle.elab_rules.specs.Environments.{Environment, structure_at, structure_in, structure_of, type_at, type_in, type_of, value_at, value_in, value_of}
use Rattle.elab_rules.specs.LongIdentifiers.{structure_along}
use Rattle.elab_rules.specs.Wheres.{types_of}
use Rattle.elab_rules.proofs.Entries.{all_types_cons, all_types_parts, entry_types, induct_entry, out_structure, out_type, out_value, types_structure, types_type, types_value}

chosen : {A : Type 0} (b : Bool) (x y : A) → (if b then Some x else None) ≡ Some y → x ≡ y
chosen true x y e = cc
chosen false x y e = cc

module _ (P : Ty → Type 0) where
  -- ---- in one entry
  type_of_over : (id : List ℕ) (type : TypeEntry) (e : Entry) → type_of id e ≡ Some type → All P (entry_types e) → P type.fun.body
  type_of_over id type = induct_entry (λ e. type_of id e ≡ Some type → All P (entry_types e) → P type.fun.body)
      (λ here is all.
      let same : here ≡ type = chosen (bytes_eq id here.id) here type (sym (ap (type_at id) (out_type here)) ∙ is) in
      subst (λ (t : TypeEntry). P t.fun.body) same (All-head P here.fun.body [] (subst (All P) (types_type here) all)))
      (λ value is all. let no : None ≡ Some type = sym (ap (type_at id) (out_value value)) ∙ is in cc)
      (λ name es hs is all. let no : None ≡ Some type = sym (ap (type_at id) (out_structure name es)) ∙ is in cc)

  value_of_over : (id : List ℕ) (value : ValueEntry) (e : Entry) → value_of id e ≡ Some value → All P (entry_types e) → P value.scheme.body
  value_of_over id value = induct_entry (λ e. value_of id e ≡ Some value → All P (entry_types e) → P value.scheme.body)
      (λ type is all. let no : None ≡ Some value = sym (ap (value_at id) (out_type type)) ∙ is in cc)
      (λ here is all.
      let same : here ≡ value = chosen (bytes_eq id here.id) here value (sym (ap (value_at id) (out_value here)) ∙ is) in
      subst (λ (v : ValueEntry). P v.scheme.body) same (All-head P here.scheme.body [] (subst (All P) (types_value here) all)))
      (λ name es hs is all. let no : None ≡ Some value = sym (ap (value_at id) (out_structure name es)) ∙ is in cc)

  structure_of_over : (id : List ℕ) (entries : Environment) (e : Entry) → structure_of id e ≡ Some entries → All P (entry_types e) → All P (types_of entries)
  structure_of_over id entries = induct_entry (λ e. structure_of id e ≡ Some entries → All P (entry_types e) → All P (types_of entries))
      (λ type is all. let no : None ≡ Some entries = sym (ap (structure_at id) (out_type type)) ∙ is in cc)
      (λ value is all. let no : None ≡ Some entries = sym (ap (structure_at id) (out_value value)) ∙ is in cc)
      (λ name es hs is all.
      let same : es ≡ entries = chosen (bytes_eq id name) es entries (sym (ap (structure_at id) (out_structure name es)) ∙ is) in
      subst (λ xs. All P (types_of xs)) same (subst (All P) (types_structure name es) all))

  -- ---- in an environment
  pub type_in_over : (id : List ℕ) (type : TypeEntry) (env : Environment) → All P (types_of env) → type_in id env ≡ Some type → P type.fun.body
  type_in_over id type [] all is = cc
  type_in_over id type (e ∷ env) all is = by_case (λ found. type_in_over id type env (all_types_parts P e env all).1 found) (type_of id e) refl is
    where
      by_case : (type_in id env ≡ Some type → P type.fun.body) → (o : Option TypeEntry) → type_of id e ≡ o → option_or o (type_in id env) ≡ Some type → P type.fun.body
      by_case later (Some here) at found = type_of_over id type e (at ∙ found) (all_types_parts P e env all).0
      by_case later None at found = later found

  pub value_in_over : (id : List ℕ) (value : ValueEntry) (env : Environment) → All P (types_of env) → value_in id env ≡ Some value → P value.scheme.body
  value_in_over id value [] all is = cc
  value_in_over id value (e ∷ env) all is = by_case (λ found. value_in_over id value env (all_types_parts P e env all).1 found) (value_of id e) refl is
    where
      by_case : (value_in id env ≡ Some value → P value.scheme.body) → (o : Option ValueEntry) → value_of id e ≡ o → option_or o (value_in id env) ≡ Some value → P value.scheme.body
      by_case later (Some here) at found = value_of_over id value e (at ∙ found) (all_types_parts P e env all).0
      by_case later None at found = later found

  pub structure_in_over : (id : List ℕ) (entries env : Environment) → All P (types_of env) → structure_in id env ≡ Some entries → All P (types_of entries)
  structure_in_over id entries [] all is = cc
  structure_in_over id entries (e ∷ env) all is = by_case (λ found. structure_in_over id entries env (all_types_parts P e env all).1 found) (structure_of id e) refl is
    where
      by_case : (structure_in id env ≡ Some entries → All P (types_of entries)) → (o : Option Environment) → structure_of id e ≡ o → option_or o (structure_in id env) ≡ Some entries → All P (types_of entries)
      by_case later (Some here) at found = structure_of_over id entries e (at ∙ found) (all_types_parts P e env all).0
      by_case later None at found = later found

  -- the entry at a place
  pub entry_over : (env : Environment) (n : ℕ) (e : Entry) → All P (types_of env) → slice_get env n ≡ Some e → All P (types_of (e ∷ []))
  entry_over [] n e all at = cc
  entry_over (x ∷ env) zero e all at =
      let same : x ≡ e = cc in
      subst (λ y. All P (types_of (y ∷ []))) same (all_types_cons P x [] (all_types_parts P x env all).0 (All-nil P))
  entry_over (x ∷ env) (suc n) e all at = entry_over env n e (all_types_parts P x env all).1 at

  -- ---- along a path
  pub structure_along_over : (ids : List (List ℕ)) (entries env : Environment) → All P (types_of env) → structure_along ids env ≡ Some entries → All P (types_of entries)
  structure_along_over [] entries env all is = let same : env ≡ entries = cc in subst (λ xs. All P (types_of xs)) same all
  structure_along_over (id ∷ ids) entries env all is = by_case (λ es over found. structure_along_over ids entries es over found) (structure_in id env) refl is
    where
      by_case : ((es : Environment) → All P (types_of es) → structure_along ids es ≡ Some entries → All P (types_of entries))
          → (o : Option Environment) → structure_in id env ≡ o → option_and_then (structure_along ids) o ≡ Some entries → All P (types_of entries)
      by_case rest (Some es) at found = rest es (structure_in_over id es env all at) found
      by_case rest None at found = cc
