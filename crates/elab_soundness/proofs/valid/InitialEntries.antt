-- The initial environment can be used.
use Rattle.std.proofs.Common.{◌≡◌, inl, inr, ℕ, ◌+◌, ◌*◌, ◌≤◌, ◌&&◌, Bool, true, false, not, nat_le, bytes_eq, if◌then◌else◌, List, [], ◌∷◌, ◌++◌, length, map, slice_get, codes, refl, sym, ap, subst, arith}
use Rattle.std.proofs.lemmas.Bool.{and_parts, leb-true}
use Rattle.std.proofs.lemmas.List.Elements.{All-cons, All-nil}
use Rattle.std.proofs.lemmas.Slice.Eq.{bytes_eq-Decides}
use Rattle.std.specs.List.{All, AllByRecursion}
use Rattle.sig_base.specs.Identifiers.{IsAlphanumericByte, IsSymbolicByte, IsUnreserved, is_letter, is_symbolic_byte, spelling}
use Rattle.sig_base.proofs.WordBytes.{letter_alphanumeric}
use Rattle.sig_base.specs.declared.word.Word.{Word}
use Rattle.sig_base.specs.declared.word.Word.TheVariants as word
use Rattle.type_core.specs.declared.member.Kind.TheVariants.{Con}
use Rattle.type_core.specs.declared.ty.Ty.{Ty}
use Rattle.type_core.specs.declared.ty.Ty.TheVariants as ty
use Rattle.type_core.specs.Coordinates.{coordinate_count}
use Rattle.type_core.specs.Height.{height_of}
use Rattle.type_core.specs.InitialNames.{initial_names}
use Rattle.type_core.specs.Lists.{all_true}
use Rattle.type_core.specs.NormalSize.{normal_size_of}
use Rattle.type_core.specs.Paths.{IsMemberIdentifier}
use Rattle.type_core.specs.Schemes.{IsScheme}
use Rattle.type_core.specs.Size.{size_of}
use Rattle.type_core.specs.Types.{takes}
use Rattle.type_core.specs.ValidLibrary.{IsWithinLimits}
use Rattle.type_core.proofs.NormalSizes.{count_con}
use Rattle.type_core.proofs.Trees.{height_arrow, height_con, height_tup, height_var, normal_size_arrow, normal_size_con, normal_size_tup, normal_size_var, labels_tup, size_arrow, size_con, size_tup, size_var}
use Rattle.elab_env.proofs.Units.{unit_is_function, unit_is_over}
use Rattle.elab_rules.specs.Environments.{Environment}
use Rattle.elab_rules.specs.InitialEnvironment.{alpha, arrow, base_constructors, base_type, base_types, constant, constructor, initial_environment, pair, unary, unary_constructors, unary_type, unary_types}
use Rattle.elab_soundness.specs.Soundness.{IsSoundFunction, IsSoundType, IsSoundValue, Known, no_entries, type_entry, value_entry}
use Rattle.type_core.specs.ValidLibrary.{IsLabel}
use Rattle.elab_soundness.proofs.valid.KnownNames.{names_tup}
use Rattle.elab_soundness.proofs.valid.Everywhere.{all_together}
use Rattle.elab_types.proofs.Lists.{unlike}
use Rattle.elab_rules.proofs.InitialSettled.{first_variable, scheme_by, variables_cons, variables_constant, variables_made, variables_unary}
use Rattle.elab_soundness.proofs.valid.Made.{IsMade, made_con, made_tup, made_var, name_sound, sound_arrow}
use Rattle.elab_soundness.proofs.valid.Weaker.{AreUsable, HasFunction, IsAnything}

-- ---- small types
-- a type from which a sound scheme is made
record IsClosable (known : Known) (t : Ty) : Type 0 where
  sound : IsSoundType known t
  limits : IsWithinLimits t
  normal : normal_size_of t ≤ 8000

record IsSmall (known : Known) (t : Ty) : Type 0 where
  made : IsMade known (λ v. true) t
  size : size_of t ≤ 10
  height : height_of t ≤ 10
  normal : normal_size_of t ≤ 10

module _ (known : Known) where
  closable : (t : Ty) → IsSmall known t → IsClosable known t
  closable t h = record { sound = h.made.sound; limits = record { nodes = omega (arith, h.size); height = omega (arith, h.height) }; normal = omega (arith, h.normal) }

  small_arrow : (a b : Ty) → IsSmall known a → IsSmall known b → coordinate_count b ≡ 1 → IsClosable known (arrow a b)
  small_arrow a b h k count = record {
    sound = sound_arrow known a b h.made.sound k.made.sound;
    limits = record { nodes = omega (arith, size_arrow a b, h.size, k.size); height = omega (arith, height_arrow a b, h.height, k.height) };
    normal = omega (arith, normal_size_arrow a b, ap (λ n. n * normal_size_of a + normal_size_of b) count, h.normal, k.normal);
  }

  small_alpha : IsSmall known alpha
  small_alpha = record { made = made_var known (λ v. true) first_variable refl; size = omega (arith, size_var first_variable); height = omega (arith, height_var first_variable); normal = omega (arith, normal_size_var first_variable, size_var first_variable) }

  small_constant : (n : ℕ) → known n 0 ≡ true → IsSmall known (constant n)
  small_constant n may =
      let size = size_con (record { 0 = n }) [] in
      record { made = made_con known (λ v. true) (record { 0 = n }) [] may (All-nil _); size = omega (arith, size); height = omega (arith, height_con (record { 0 = n }) []); normal = omega (arith, normal_size_con (record { 0 = n }) [], size) }

  small_unary : (n : ℕ) → known n 1 ≡ true → IsSmall known (unary n alpha)
  small_unary n may =
      let size = size_con (record { 0 = n }) (alpha ∷ []) in
      record {
        made = made_con known (λ v. true) (record { 0 = n }) (alpha ∷ []) may (All-cons (IsMade known (λ v. true)) alpha [] small_alpha.made (All-nil _));
        size = omega (arith, size, size_var first_variable);
        height = omega (arith, height_con (record { 0 = n }) (alpha ∷ []), height_var first_variable);
        normal = omega (arith, normal_size_con (record { 0 = n }) (alpha ∷ []), size, size_var first_variable);
      }

  small_pair : (n : ℕ) → known n 1 ≡ true → IsSmall known (pair alpha (unary n alpha))
  small_pair n may =
      let P = IsMade known (λ v. true) in
      let parts = alpha ∷ unary n alpha ∷ [] in
      let one = size_con (record { 0 = n }) (alpha ∷ []) in
      record {
        made = made_tup known (λ v. true) parts (λ e. absurd (omega (arith, e))) (All-cons P alpha (unary n alpha ∷ []) small_alpha.made (All-cons P (unary n alpha) [] (small_unary n may).made (All-nil P)));
        size = omega (arith, size_tup parts, size_var first_variable, one);
        height = omega (arith, height_tup parts, height_var first_variable, height_con (record { 0 = n }) (alpha ∷ []));
        normal = omega (arith, normal_size_tup parts, normal_size_var first_variable, size_var first_variable, normal_size_con (record { 0 = n }) (alpha ∷ []), one);
      }

-- ---- identifiers
abbrev texts : List (List ℕ)
texts = codes "false" ∷ codes "true" ∷ codes "LESS" ∷ codes "EQUAL" ∷ codes "GREATER" ∷ codes "nil" ∷ codes "::" ∷ codes "ref" ∷ codes "NONE" ∷ codes "SOME" ∷ []

abbrev are_not : List (List ℕ) → Word → Bool
are_not ts w = all_true (map (λ text. not (bytes_eq text (spelling w))) ts)

none_reserved : (w : Word) → are_not texts w ≡ true
none_reserved word.KwAbstype = refl
none_reserved w = refl

unreserved : (ts : List (List ℕ)) → ((w : Word) → are_not ts w ≡ true) → AllByRecursion IsUnreserved ts
unreserved [] h = tt
unreserved (text ∷ ts) h = (λ w e. unlike (bytes_eq text (spelling w)) ((bytes_eq-Decides text (spelling w)).1 e) (and_parts _ _ (h w)).0, unreserved ts (λ w. (and_parts _ _ (h w)).1))

free : AllByRecursion IsUnreserved texts
free = unreserved texts none_reserved

letters_are : (text : List ℕ) → all_true (map is_letter text) ≡ true → All IsAlphanumericByte text
letters_are [] h = All-nil _
letters_are (b ∷ text) h = let p = and_parts (is_letter b) _ h in All-cons IsAlphanumericByte b text (letter_alphanumeric b p.0) (letters_are text p.1)

word_of_letters : (b : ℕ) (text : List ℕ) → all_true (map is_letter (b ∷ text)) ≡ true → IsUnreserved (b ∷ text) → IsMemberIdentifier (b ∷ text)
word_of_letters b text h k = let p = and_parts (is_letter b) _ h in inl (inl ((p.0, letters_are text p.1), k))

colon : IsSymbolicByte 58
unfolding is_symbolic_byte
colon = refl

double_colon : IsUnreserved (codes "::") → IsMemberIdentifier (codes "::")
double_colon k = inl (inr ((colon, All-cons IsSymbolicByte 58 [] colon (All-nil _)), k))

-- ---- the entries
module _ (known : Known) (base : (n count : ℕ) → takes (slice_get initial_names n) count ≡ true → known n count ≡ true) where
  value_has : (id : List ℕ) (vars : ℕ) (t : Ty) (es : Environment) → IsMemberIdentifier id → length id ≤ 255 → IsScheme (record { vars = vars; body = t }) → IsClosable known t → AreUsable known es → AreUsable known (constructor id vars t ∷ es)
  value_has id vars t es spelled short scheme h k =
      value_entry {value = record { id = id; kind = Con; scheme = record { vars = vars; body = t } }}
      (record { id = record { spelled = spelled; short = short }; scheme = record { formed = record { scheme = scheme; body = h.sound }; limits = h.limits; normal = h.normal } }) k

  constant_has : (b : ℕ) (text : List ℕ) (n : ℕ) (es : Environment) → all_true (map is_letter (b ∷ text)) ≡ true → IsUnreserved (b ∷ text) → length (b ∷ text) ≤ 255 → takes (slice_get initial_names n) 0 ≡ true → AreUsable known es → AreUsable known (constructor (b ∷ text) 0 (constant n) ∷ es)
  constant_has b text n es letters free_text short may =
      value_has (b ∷ text) 0 (constant n) es (word_of_letters b text letters free_text) short (scheme_by (constant n) [] 0 (variables_constant n) refl) (closable known (constant n) (small_constant known n (base n 0 may)))

  unary_has : (b : ℕ) (text : List ℕ) (n : ℕ) (es : Environment) → all_true (map is_letter (b ∷ text)) ≡ true → IsUnreserved (b ∷ text) → length (b ∷ text) ≤ 255 → takes (slice_get initial_names n) 1 ≡ true → AreUsable known es → AreUsable known (constructor (b ∷ text) 1 (unary n alpha) ∷ es)
  unary_has b text n es letters free_text short may =
      value_has (b ∷ text) 1 (unary n alpha) es (word_of_letters b text letters free_text) short (scheme_by (unary n alpha) (first_variable ∷ []) 1 (variables_unary n) refl) (closable known (unary n alpha) (small_unary known n (base n 1 may)))

  made_has : (b : ℕ) (text : List ℕ) (n : ℕ) (es : Environment) → all_true (map is_letter (b ∷ text)) ≡ true → IsUnreserved (b ∷ text) → length (b ∷ text) ≤ 255 → takes (slice_get initial_names n) 1 ≡ true → AreUsable known es → AreUsable known (constructor (b ∷ text) 1 (arrow alpha (unary n alpha)) ∷ es)
  made_has b text n es letters free_text short may =
      value_has (b ∷ text) 1 (arrow alpha (unary n alpha)) es (word_of_letters b text letters free_text) short (scheme_by (arrow alpha (unary n alpha)) (first_variable ∷ first_variable ∷ []) 1 (variables_made n) refl)
      (small_arrow known alpha (unary n alpha) (small_alpha known) (small_unary known n (base n 1 may)) (count_con (record { 0 = n }) (alpha ∷ [])))

  cons_has : (es : Environment) → IsUnreserved (codes "::") → AreUsable known es → AreUsable known (constructor (codes "::") 1 (arrow (pair alpha (unary 9 alpha)) (unary 9 alpha)) ∷ es)
  cons_has es free_text =
      value_has (codes "::") 1 (arrow (pair alpha (unary 9 alpha)) (unary 9 alpha)) es (double_colon free_text) (omega arith) (scheme_by _ (first_variable ∷ first_variable ∷ first_variable ∷ []) 1 (variables_cons 9) refl)
      (small_arrow known (pair alpha (unary 9 alpha)) (unary 9 alpha) (small_pair known 9 (base 9 1 refl)) (small_unary known 9 (base 9 1 refl)) (count_con (record { 0 = 9 }) (alpha ∷ [])))

  base_has : (id : List ℕ) (n : ℕ) (constructors : List (List ℕ)) (es : Environment) → takes (slice_get initial_names n) 0 ≡ true → AreUsable known es → AreUsable known (base_type id n constructors ∷ es)
  base_has id n constructors es may k = type_entry {type = record { id = id; fun = record { arity = 0; body = constant n }; constructors = constructors }} (name_sound known n 0 (base n 0 may) (omega arith)) k

  one_has : (id : List ℕ) (n : ℕ) (constructors : List (List ℕ)) (es : Environment) → takes (slice_get initial_names n) 1 ≡ true → AreUsable known es → AreUsable known (unary_type id n constructors ∷ es)
  one_has id n constructors es may k = type_entry {type = record { id = id; fun = record { arity = 1; body = unary n alpha }; constructors = constructors }} (name_sound known n 1 (base n 1 may) (omega arith)) k

  unit_sound : IsSoundFunction known (record { arity = 0; body = ty.Tup [] })
  unit_sound = record {
    formed = record {
      arity = omega arith;
      function = unit_is_function 0;
      body = record { is_type = (unit_is_over []).is_type; names = names_tup known []; labels = subst (All IsLabel) (sym (labels_tup [])) (All-nil IsLabel) };
    };
    limits = record { nodes = omega (arith, size_tup []); height = omega (arith, height_tup []) };
  }

  base_types_have : AreUsable known base_types
  base_types_have =
      base_has (codes "int") 0 [] _ refl
      (base_has (codes "word") 1 [] _ refl
      (base_has (codes "real") 2 [] _ refl
      (base_has (codes "char") 3 [] _ refl
      (base_has (codes "string") 4 [] _ refl
      (base_has (codes "substring") 5 [] _ refl
      (base_has (codes "exn") 6 [] _ refl
      (base_has (codes "bool") 7 (codes "false" ∷ codes "true" ∷ []) _ refl
      (base_has (codes "order") 8 (codes "LESS" ∷ codes "EQUAL" ∷ codes "GREATER" ∷ []) [] refl no_entries))))))))

  unary_types_have : AreUsable known unary_types
  unary_types_have =
      one_has (codes "list") 9 (codes "nil" ∷ codes "::" ∷ []) _ refl
      (one_has (codes "ref") 10 (codes "ref" ∷ []) _ refl
      (one_has (codes "option") 11 (codes "NONE" ∷ codes "SOME" ∷ []) _ refl
      (one_has (codes "vector") 12 [] _ refl
      (one_has (codes "array") 13 [] _ refl
      (type_entry {type = record { id = codes "unit"; fun = record { arity = 0; body = ty.Tup [] }; constructors = [] }} unit_sound no_entries)))))

  base_constructors_have : AreUsable known base_constructors
  base_constructors_have =
      let texts_free = free in
      constant_has _ _ 7 _ refl texts_free.0 (omega arith) refl
      (constant_has _ _ 7 _ refl texts_free.1.0 (omega arith) refl
      (constant_has _ _ 8 _ refl texts_free.1.1.0 (omega arith) refl
      (constant_has _ _ 8 _ refl texts_free.1.1.1.0 (omega arith) refl
      (constant_has _ _ 8 [] refl texts_free.1.1.1.1.0 (omega arith) refl no_entries))))

  unary_constructors_have : AreUsable known unary_constructors
  unary_constructors_have =
      let texts_free = free in
      unary_has _ _ 9 _ refl texts_free.1.1.1.1.1.0 (omega arith) refl
      (cons_has _ texts_free.1.1.1.1.1.1.0
      (made_has _ _ 10 _ refl texts_free.1.1.1.1.1.1.1.0 (omega arith) refl
      (unary_has _ _ 11 _ refl texts_free.1.1.1.1.1.1.1.1.0 (omega arith) refl
      (made_has _ _ 11 [] refl texts_free.1.1.1.1.1.1.1.1.1.0 (omega arith) refl no_entries))))

  pub initial_usable : AreUsable known initial_environment
  unfolding initial_environment
  initial_usable =
      let P = HasFunction known in
      let Q = IsSoundValue known in
      all_together P Q IsAnything base_types (unary_types ++ base_constructors ++ unary_constructors) base_types_have
      (all_together P Q IsAnything unary_types (base_constructors ++ unary_constructors) unary_types_have
      (all_together P Q IsAnything base_constructors unary_constructors base_constructors_have unary_constructors_have))
