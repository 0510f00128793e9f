-- What is asked of a type constructor and of a value by now.
use Rattle.std.proofs.Common.{◌≡◌, ℕ, ◌==◌, ◌&&◌, ◌||◌, Bool, true, false, not, is_some, nat_le, List, [], ◌∷◌, map, Option, Some, None, IfSome, IfNone, refl, sym, ap, ap₂, ◌∙◌, subst, append-nil}
use Rattle.type_core.specs.declared.ty.NameId.{NameId}
use Rattle.type_core.specs.declared.ty.Ty.{Ty}
use Rattle.type_core.specs.declared.type_fn.TypeFn.{TypeFn}
use Rattle.type_core.specs.Lists.{all_true}
use Rattle.type_core.specs.Schemes.{closed, numbered_among}
use Rattle.type_core.specs.Size.{size_of}
use Rattle.type_core.specs.Variables.{by_first_occurrence}
use Rattle.elab_env.specs.Parameters.{name_function}
use Rattle.elab_rules.specs.declared.entry.Entry.{Entry}
use Rattle.elab_rules.specs.declared.entry.Entry.TheVariants as entry
use Rattle.elab_rules.specs.declared.entry.ValueEntry.{ValueEntry}
use Rattle.elab_rules.specs.Replacing.{denoted, entry_with, environment_with, value_with}
use Rattle.elab_rules.specs.Wheres.{is_empty, is_name, types_of}
use Rattle.elab_phrases.proofs.DenotedNames.{denoted_is, nothing_denoted}
use Rattle.elab_rules.proofs.Entries.{entry_types, types_value, with_value}
use Rattle.elab_types.proofs.Renamed.{size_renamed}

and_true : (b : Bool) → (b && true) ≡ b
and_true true = refl
and_true false = refl

and_false : (b : Bool) → (b && false) ≡ false
and_false true = refl
and_false false = refl

-- ---- a datatype of a name
-- the list is empty exactly where the answer says so
pub empty_is : {A : Type 0} (xs : List A) (r : Bool) → (r ≡ true → xs ≡ []) → (xs ≡ [] → r ≡ true) → is_empty xs ≡ r
empty_is [] r h k = sym (k refl)
empty_is (x ∷ xs) true h k = let e = h refl in cc
empty_is (x ∷ xs) false h k = refl

module _ (n : ℕ) (fun f : TypeFn) (empty : Bool) (is : fun ≡ f) where
  pub datatype_named : (m : ℕ) → fun ≡ name_function m fun.arity → empty ≡ false → (m == n) ≡ (is_name n (denoted f) && not empty)
  datatype_named m named some = sym (ap₂ (λ o b. is_name n o && not b) (denoted_is f m (subst (λ g. g ≡ name_function m g.arity) is named)) some ∙ and_true (m == n))

  pub datatype_unnamed : ((m : ℕ) → fun ≡ name_function m fun.arity → ⊥) → false ≡ (is_name n (denoted f) && not empty)
  datatype_unnamed none = sym (ap (λ o. is_name n o && not empty) (nothing_denoted f (subst (λ g. (m : ℕ) → g ≡ name_function m g.arity → ⊥) is none)))

pub datatype_empty : (n : ℕ) (f : TypeFn) (empty : Bool) → empty ≡ true → false ≡ (is_name n (denoted f) && not empty)
datatype_empty n f empty none = sym (ap (λ b. is_name n (denoted f) && not b) none ∙ and_false (is_name n (denoted f)))

-- ---- whether a type function denotes a name
pub some_denoted : (f : TypeFn) (found : Option NameId) → IfSome found (λ n. f ≡ name_function n.0 f.arity) → IfNone found ((n : ℕ) → f ≡ name_function n f.arity → ⊥) → is_some (denoted f) ≡ is_some found
some_denoted f None some none = ap is_some (nothing_denoted f none)
some_denoted f (Some n) some none = ap is_some (denoted_is f n.0 some)

pub or_true : (a b : Bool) → b ≡ true → true ≡ (a || b)
or_true true b e = refl
or_true false b e = sym e

pub or_false : (a b : Bool) → b ≡ false → a ≡ (a || b)
or_false true b e = refl
or_false false b e = sym e

-- ---- the size of a value's type, which is closed again
pub value_small : (g : Ty → Ty) (x : Entry) (value : ValueEntry) → x ≡ entry.Value value
    → nat_le (size_of (g value.scheme.body)) 2000 ≡ all_true (map (λ t. nat_le (size_of t) 2000) (types_of (environment_with g (x ∷ []))))
value_small g x value is =
    let small : List Ty → Bool = λ ts. all_true (map (λ t. nat_le (size_of t) 2000) ts) in
    ap (λ n. nat_le n 2000) (sym (size_renamed (numbered_among (by_first_occurrence (g value.scheme.body))) (g value.scheme.body)))
    ∙ sym (and_true (nat_le (size_of (closed (g value.scheme.body)).body) 2000))
    ∙ ap small (sym (types_value (value_with g value)))
    ∙ ap (λ e. small (entry_types e)) (sym (with_value g value))
    ∙ ap (λ y. small (entry_types (entry_with g y))) (sym is)
    ∙ ap small (sym (append-nil (entry_types (entry_with g x))))
