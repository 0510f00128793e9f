-- The types that queries stand for are types over the library's names, of at most 200 nodes.
use Rattle.std.proofs.Common.{◌≡◌, ◌≢◌, ℕ, suc, ◌≤◌, ◌==◌, ◌&&◌, Bool, true, false, nat_le, bytes_eq, codes, if◌then◌else◌, List, [], ◌∷◌, ◌++◌, length, map, slice_get, Option, Some, None, Ok, refl, sym, ap, ◌∙◌, subst, arith, eqb-true}
use Rattle.std.proofs.lemmas.Bool.{and_parts, leb-true}
use Rattle.std.proofs.lemmas.List.Elements.{All-cons, All-head, All-nil, All-push, All-tail}
use Rattle.std.proofs.lemmas.List.Quantifiers.{all_pairs_push}
use Rattle.std.specs.List.{All}
use Rattle.std.specs.Option.{option_or}
use Rattle.ty_parser.specs.declared.tree.FieldExp.{FieldExp}
use Rattle.ty_parser.specs.declared.tree.TyExp.{TyExp}
use Rattle.ty_parser.specs.declared.tree.TyExp.TheVariants as e
use Rattle.type_core.specs.declared.library.Library.{Library}
use Rattle.type_core.specs.declared.library.Tycon.{Tycon}
use Rattle.type_core.specs.declared.names.TypeName.{TypeName}
use Rattle.type_core.specs.declared.ty.Field.{Field}
use Rattle.type_core.specs.declared.ty.Ty.{Ty}
use Rattle.type_core.specs.declared.ty.Ty.TheVariants as ty
use Rattle.type_core.specs.declared.ty.VarId.{VarId}
use Rattle.type_core.specs.InitialNames.{initial_names}
use Rattle.type_core.specs.Size.{size_of}
use Rattle.type_core.specs.TypeFunctions.{applied}
use Rattle.type_core.specs.Types.{takes}
use Rattle.type_core.specs.ValidLibrary.{IsLabel, IsValidLibrary, own_names}
use Rattle.type_core.proofs.Trees.{size_var}
use Rattle.type_core.specs.Arrows.{arrows}
use Rattle.elab_types.specs.Records.{in_label_order, is_new_label, record_of}
use Rattle.elab_types.specs.Soundness.{IsSoundFunction}
use Rattle.elab_types.specs.Sources.{is_qualified, text_at, variable}
use Rattle.elab_types.specs.Spelling as spelling
use Rattle.elab_types.specs.Spelling.{AreSpelledFields, AreSpelledTypes, IsSpelledType, more_fields, more_types, no_fields, no_types}
use Rattle.elab_types.proofs.Fields.{AreApart, all_sorted, sorted_in_order}
use Rattle.elab_types.proofs.Lists.{no_some, other_texts}
use Rattle.elab_types.proofs.Made.{IsMade, IsMadeField, arrows_made, made_applied, made_con, made_tup, made_var, record_made}
use Rattle.elab_types.proofs.Outcomes.{checked_parts, ok_is, required_parts, then_parts}
use Rattle.query_parser.specs.Constructors.{constructor_applied, external_applied, external_of, initial_applied, is_external, number_of, of_name, qualified_applied, tycon_of, unit_applied, unqualified_applied, with_path}
use Rattle.query_parser.specs.Types.{Place, all_typed, constructed, constructed_all, constructed_on, field_typed, fields_typed, limited, typed}
use Rattle.query_parser.proofs.Levels.{field_is, typed_apply, typed_arrows, typed_fields, typed_tuple, typed_var}
use Rattle.query_parser.proofs.Searching.{in_front, place_found}

-- ---- limits
pub limited_parts : (t r : Ty) → limited t ≡ Ok r → (t ≡ r) × (size_of t ≤ 200)
limited_parts t r h =
    let p = checked_parts (nat_le (size_of t) 200) _ 0 _ r h in
    (ok_is t r p.1, leb-true (size_of t) 200 p.0)

-- ---- type constructors that are found
first_or : {A : Type 0} (P : A → Type 0) (o rest : Option A) (a : A) → ((x : A) → o ≡ Some x → P x) → ((x : A) → rest ≡ Some x → P x) → option_or o rest ≡ Some a → P a
first_or P None rest a h k e = k a e
first_or P (Some x) rest a h k e = h a e

some_if : {A : Type 0} (P : A → Type 0) (b : Bool) (x a : A) → P x → (if b then Some x else None) ≡ Some a → P a
some_if P true x a h e = subst P (let same : x ≡ a = cc in same) h
some_if P false x a h e = absurd (no_some a e)

tycon_found : (P : Tycon → Type 0) (path : List ℕ) (tycons : List Tycon) (tycon : Tycon) → All P tycons → tycon_of path tycons ≡ Some tycon → P tycon
tycon_found P path [] tycon h e = absurd (no_some tycon e)
tycon_found P path (first ∷ tycons) tycon h e =
    first_or P (with_path path first) (tycon_of path tycons) tycon
    (λ t f. some_if P (bytes_eq path first.path) first t (All-head P first tycons h) f)
    (λ t f. tycon_found P path tycons t (All-tail P first tycons h) f) e

-- any variable may stand in a query
abbrev pub any : VarId → Bool
any v = true

-- the type is one over the names, and within the limit
pub record IsTyped (names : List TypeName) (t : Ty) : Type 0 where
  pub made : IsMade names any t
  pub small : size_of t ≤ 200

module _ (library : Library) (valid : IsValidLibrary library) where
  abbrev names : List TypeName
  names = library.names

  abbrev AreMade : List Ty → Type 0
  AreMade = All (IsMade names any)

  -- the type functions of a valid library's type constructors are sound
  functions_sound : All (λ (tycon : Tycon). IsSoundFunction names tycon.fun) library.tycons
  functions_sound k d l = record {
    arity = valid.tycon_arities k d l;
    function = valid.tycon_functions k d l;
    body = record { over = (valid.tycon_types k d l).over; labels = (valid.tycon_types k d l).labels };
    limits = valid.tycon_limits k d l;
  }

  known_name : (n count : ℕ) (name : TypeName) → slice_get names n ≡ Some name → (name.arity == count) ≡ true → takes (slice_get names n) count ≡ true
  known_name n count name at arity = ap (λ o. takes o count) at ∙ arity

  initial_known : (n count : ℕ) → takes (slice_get initial_names n) count ≡ true → takes (slice_get names n) count ≡ true
  initial_known n count known = subst (λ ns. takes (slice_get ns n) count ≡ true) (sym valid.initial) (in_both (slice_get initial_names n) refl known)
    where
      in_both : (o : Option TypeName) → slice_get initial_names n ≡ o → takes o count ≡ true → takes (slice_get (initial_names ++ own_names library) n) count ≡ true
      in_both None at h = cc
      in_both (Some name) at h = ap (λ o. takes o count) (in_front initial_names (own_names library) n name at) ∙ h

  -- ---- constructors
  name_made : (n : ℕ) (arguments : List Ty) (t : Ty) → takes (slice_get names n) (length arguments) ≡ true → AreMade arguments → of_name n arguments ≡ t → IsMade names any t
  name_made n arguments t known made is = subst (IsMade names any) is (made_con names any (record { 0 = n }) arguments known made)

  initial_made : (token : ℕ) (number : Option ℕ) (arguments : List Ty) (t : Ty) → AreMade arguments → initial_applied token number arguments ≡ Ok t → IsMade names any t
  initial_made token number arguments t made h =
      let a = required_parts number _ token _ t h in
      let b = checked_parts (takes (slice_get initial_names a.0) (length arguments)) _ token _ t a.2 in
      name_made a.0 arguments t (initial_known a.0 (length arguments) b.0) made (ok_is (of_name a.0 arguments) t b.1)

  unit_made : (token : ℕ) (arguments : List Ty) (t : Ty) → unit_applied token arguments ≡ Ok t → IsMade names any t
  unit_made token arguments t h =
      let a = checked_parts (length arguments == 0) _ token _ t h in
      subst (IsMade names any) (ok_is (ty.Tup []) t a.1) (made_tup names any [] (λ e. absurd (omega (arith, e))) (All-nil _))

  unqualified_made : (token : ℕ) (id : List ℕ) (arguments : List Ty) (t : Ty) → AreMade arguments → unqualified_applied token id arguments ≡ Ok t → IsMade names any t
  unqualified_made token id arguments t made h = by_case (bytes_eq id (codes "unit")) h
    where
      by_case : (b : Bool) → (if b then unit_applied token arguments else initial_applied token (number_of id initial_names) arguments) ≡ Ok t → IsMade names any t
      by_case true k = unit_made token arguments t k
      by_case false k = initial_made token (number_of id initial_names) arguments t made k

  external_made : (token : ℕ) (path : List ℕ) (arguments : List Ty) (t : Ty) → AreMade arguments → external_applied token path names arguments ≡ Ok t → IsMade names any t
  external_made token path arguments t made h =
      let a = required_parts (external_of path (length arguments) names) _ token _ t h in
      let b = place_found (λ (name : TypeName). is_external path name && (name.arity == length arguments)) names a.0 a.1 in
      let c = and_parts (is_external path b.0) (b.0.arity == length arguments) b.2 in
      name_made a.0 arguments t (known_name a.0 (length arguments) b.0 b.1 c.1) made (ok_is (of_name a.0 arguments) t a.2)

  qualified_made : (token : ℕ) (path : List ℕ) (found : Option Tycon) (arguments : List Ty) (t : Ty) → ((tycon : Tycon) → found ≡ Some tycon → IsSoundFunction names tycon.fun) → AreMade arguments
      → qualified_applied token path names found arguments ≡ Ok t → IsMade names any t
  qualified_made token path None arguments t sound made h = external_made token path arguments t made h
  qualified_made token path (Some tycon) arguments t sound made h =
      let a = checked_parts (length arguments == tycon.fun.arity) _ token _ t h in
      subst (IsMade names any) (ok_is (applied tycon.fun arguments) t a.1) (made_applied names any tycon.fun arguments (sound tycon refl) (eqb-true (length arguments) tycon.fun.arity a.0) made)

  constructor_made : (token : ℕ) (path : List ℕ) (arguments : List Ty) (t : Ty) → AreMade arguments → constructor_applied library token path arguments ≡ Ok t → IsMade names any t
  constructor_made token path arguments t made h = by_case (is_qualified path) h
    where
      by_case : (b : Bool) → (if b then qualified_applied token path names (tycon_of path library.tycons) arguments else unqualified_applied token path arguments) ≡ Ok t → IsMade names any t
      by_case true k =
          qualified_made token path (tycon_of path library.tycons) arguments t
          (λ tycon f. tycon_found (λ (x : Tycon). IsSoundFunction names x.fun) path library.tycons tycon functions_sound f) made k
      by_case false k = unqualified_made token path arguments t made k

  module _ (texts : List (List ℕ)) where
    abbrev p : Place
    p = record { texts = texts; library = library }

    within : (t r : Ty) → IsMade names any t → limited t ≡ Ok r → IsTyped names r
    within t r made h = let a = limited_parts t r h in subst (IsTyped names) a.0 (record { made = made; small = a.1 })

    constructed_typed : (token : ℕ) (arguments : List Ty) (r : Ty) → AreMade arguments → constructed p token arguments ≡ Ok r → IsTyped names r
    constructed_typed token arguments r made h =
        let a = then_parts (constructor_applied library token (text_at texts token) arguments) limited r h in
        within a.0 r (constructor_made token (text_at texts token) arguments a.0 made a.1) a.2

    on_typed : (tokens : List ℕ) (t r : Ty) → IsTyped names t → constructed_on p t tokens ≡ Ok r → IsTyped names r
    on_typed [] t r typed h = subst (IsTyped names) (ok_is t r h) typed
    on_typed (token ∷ tokens) t r typed h =
        let a = then_parts (constructed p token (t ∷ [])) (λ q. constructed_on p q tokens) r h in
        on_typed tokens a.0 r (constructed_typed token (t ∷ []) a.0 (All-cons (IsMade names any) t [] typed.made (All-nil _)) a.1) a.2

    applied_typed : (tokens : List ℕ) (arguments : List Ty) (r : Ty) → 1 ≤ length tokens → AreMade arguments → constructed_all p arguments tokens ≡ Ok r → IsTyped names r
    applied_typed [] arguments r one made h = absurd (omega (arith, one))
    applied_typed (token ∷ tokens) arguments r one made h =
        let a = then_parts (constructed p token arguments) (λ q. constructed_on p q tokens) r h in
        on_typed tokens a.0 r (constructed_typed token arguments a.0 made a.1) a.2

    -- ---- the parts
    abbrev Parts : List TyExp → List Ty → Type 0
    Parts es ts = AreMade ts × (length ts ≡ length es)

    abbrev OfFields : List Field → Type 0
    OfFields fields = All (IsMadeField names any) fields × AreApart fields

    more_parts : (x : TyExp) (es : List TyExp) (r : List Ty) → ((t : Ty) → typed x p ≡ Ok t → IsTyped names t) → ((ts : List Ty) → all_typed (map typed es) p ≡ Ok ts → Parts es ts)
        → all_typed (map typed (x ∷ es)) p ≡ Ok r → Parts (x ∷ es) r
    more_parts x es r first rest h =
        let a = then_parts (typed x p) _ r h in
        let b = then_parts (all_typed (map typed es) p) _ r a.2 in
        let c = rest b.0 b.1 in
        subst (Parts (x ∷ es)) (ok_is (a.0 ∷ b.0) r b.2) (All-cons (IsMade names any) a.0 b.0 ((first a.0 a.1).made) c.0, ap (λ n. suc n) c.1)

    one_field : (part : FieldExp) (fields : List FieldExp) (done r : List Field) → OfFields done → IsLabel (text_at texts part.label) → ((t : Ty) → typed part.ty p ≡ Ok t → IsTyped names t)
        → ((more : List Field) → OfFields more → fields_typed p more (map field_typed fields) ≡ Ok r → OfFields r) → fields_typed p done (map field_typed (part ∷ fields)) ≡ Ok r → OfFields r
    one_field part fields done r so_far label first rest h =
        let h' = ap (λ f. fields_typed p done (f ∷ map field_typed fields)) (sym (field_is part)) ∙ h in
        let a = checked_parts (is_new_label (text_at texts part.label) done) _ part.label _ r h' in
        let b = then_parts (typed part.ty p) _ r a.1 in
        let new : Field = record { label = text_at texts part.label; ty = b.0 } in
        rest (done ++ new ∷ []) (
          All-push (IsMadeField names any) done new so_far.0 (record { label = label; type = (first b.0 b.1).made }),
          all_pairs_push (λ (x : Field) (y : Field). x.label ≢ y.label) done new so_far.1 (other_texts (λ (field : Field). field.label) (text_at texts part.label) done a.0),
        )
        b.2

    -- ---- the forms
    var_case : (token : ℕ) (r : Ty) → typed (e.Var token) p ≡ Ok r → IsTyped names r
    var_case token r h =
        let v = variable texts token in
        subst (IsTyped names) (ok_is (ty.Var v) r (sym (ap (λ f. f p) (typed_var token)) ∙ h)) (record { made = made_var names any v refl; small = omega (arith, size_var v) })

    fields_case : (fields : List FieldExp) (r : Ty) → ((done : List Field) → fields_typed p [] (map field_typed fields) ≡ Ok done → OfFields done) → typed (e.Fields fields) p ≡ Ok r → IsTyped names r
    fields_case fields r ih h =
        let a = then_parts (fields_typed p [] (map field_typed fields)) _ r (sym (ap (λ f. f p) (typed_fields fields)) ∙ h) in
        let b = ih a.0 a.1 in
        within (record_of (in_label_order a.0)) r
        (record_made names any (in_label_order a.0) (sorted_in_order a.0 b.1) (all_sorted (IsMadeField names any) a.0 [] b.0 (All-nil _))) a.2

    tuple_case : (parts : List TyExp) (r : Ty) → 2 ≤ length parts → ((ts : List Ty) → all_typed (map typed parts) p ≡ Ok ts → Parts parts ts) → typed (e.Tuple parts) p ≡ Ok r → IsTyped names r
    tuple_case parts r two ih h =
        let a = then_parts (all_typed (map typed parts) p) _ r (sym (ap (λ f. f p) (typed_tuple parts)) ∙ h) in
        let b = ih a.0 a.1 in
        within (ty.Tup a.0) r (made_tup names any a.0 (λ one. absurd (omega (arith, one, b.1, two))) b.0) a.2

    arrows_case : (sides : List TyExp) (r : Ty) → ((ts : List Ty) → all_typed (map typed sides) p ≡ Ok ts → Parts sides ts) → typed (e.Arrows sides) p ≡ Ok r → IsTyped names r
    arrows_case sides r ih h =
        let a = then_parts (all_typed (map typed sides) p) _ r (sym (ap (λ f. f p) (typed_arrows sides)) ∙ h) in
        within (arrows a.0) r (arrows_made names any a.0 ((ih a.0 a.1).0)) a.2

    apply_case : (arguments : List TyExp) (tokens : List ℕ) (r : Ty) → 1 ≤ length tokens → ((ts : List Ty) → all_typed (map typed arguments) p ≡ Ok ts → Parts arguments ts) → typed (e.Apply arguments tokens) p ≡ Ok r → IsTyped names r
    apply_case arguments tokens r one ih h =
        let a = then_parts (all_typed (map typed arguments) p) _ r (sym (ap (λ f. f p) (typed_apply arguments tokens)) ∙ h) in
        applied_typed tokens a.0 r one ((ih a.0 a.1).0) a.2

    mutual
      pub typed_sound : (x : TyExp) → IsSpelledType texts x → (r : Ty) → typed x p ≡ Ok r → IsTyped names r
      typed_sound x (spelling.variable {token = token}) r h = var_case token r h
      typed_sound x (spelling.fields {fields = fields} k) r h = fields_case fields r (λ done g. fields_sound fields k [] done (All-nil _, λ i j d l m. absurd (omega (arith, m))) g) h
      typed_sound x (spelling.tuple {parts = parts} two k) r h = tuple_case parts r two (λ ts g. types_sound parts k ts g) h
      typed_sound x (spelling.arrows {sides = sides} k) r h = arrows_case sides r (λ ts g. types_sound sides k ts g) h
      typed_sound x (spelling.application {arguments = arguments} {constructors = tokens} k one) r h = apply_case arguments tokens r one (λ ts g. types_sound arguments k ts g) h

      types_sound : (es : List TyExp) → AreSpelledTypes texts es → (r : List Ty) → all_typed (map typed es) p ≡ Ok r → Parts es r
      types_sound es no_types r h = subst (Parts []) (ok_is [] r h) (All-nil _, refl)
      types_sound es (more_types {e = x} {es = rest} k l) r h = more_parts x rest r (λ t g. typed_sound x k t g) (λ ts g. types_sound rest l ts g) h

      fields_sound : (fields : List FieldExp) → AreSpelledFields texts fields → (done r : List Field) → OfFields done → fields_typed p done (map field_typed fields) ≡ Ok r → OfFields r
      fields_sound fields no_fields done r so_far h = subst OfFields (ok_is done r h) so_far
      fields_sound fields (more_fields {field = part} {fields = rest} label k l) done r so_far h =
          one_field part rest done r so_far label (λ t g. typed_sound part.ty k t g) (λ more made g. fields_sound rest l more r made g) h
