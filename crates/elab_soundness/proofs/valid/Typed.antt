-- The types that type expressions stand for.
use Rattle.std.proofs.Common.{◌≡◌, ◌≢◌, ℕ, suc, ◌+◌, ◌<◌, ◌≤◌, ◌==◌, ◌&&◌, ◌||◌, Bool, true, false, true≢false, nat_le, if◌then◌else◌, List, [], ◌∷◌, ◌++◌, length, map, slice_get, append_assoc, Some, Ok, refl, sym, ap, ap₂, ◌∙◌, subst, arith, rules, eqb-true, lt-ltb}
use Rattle.std.proofs.lemmas.Bool.{and_from, leb-true}
use Rattle.std.proofs.lemmas.List.Elements.{All-cons, All-head, All-nil, All-push, All-tail, All-weaker}
use Rattle.std.proofs.lemmas.List.{length-append}
use Rattle.std.proofs.lemmas.List.Quantifiers.{all_pairs_push}
use Rattle.std.specs.List.{All}
use Rattle.ty_parser.specs.declared.tree.FieldExp.{FieldExp}
use Rattle.ty_parser.specs.declared.tree.TyExp.{TyExp}
use Rattle.ty_parser.specs.declared.tree.TyExp.TheVariants as e
use Rattle.ty_parser.specs.declared.tree.TyExp.TheVariants.{rolls-Apply, rolls-Arrows, rolls-Fields, rolls-Tuple, rolls-Var}
use Rattle.ty_parser.specs.declared.tree.TyExp.TheOpen.{Apply, Arrows, Fields, Tuple, Var}
use Rattle.ty_parser.specs.declared.tree.TyExp.TheFolds.{fold-roll-TyExp, fold_out-FieldExp}
use Rattle.type_core.specs.declared.names.TypeName.{TypeName}
use Rattle.type_core.specs.declared.ty.Field.{Field}
use Rattle.type_core.specs.declared.ty.Ty.{Ty}
use Rattle.type_core.specs.declared.ty.Ty.TheVariants as ty
use Rattle.type_core.specs.declared.ty.VarId.{VarId}
use Rattle.type_core.specs.Height.{height_of}
use Rattle.type_core.specs.Lists.{sum_of}
use Rattle.type_core.specs.Size.{size_of}
use Rattle.type_core.specs.Substitution.{allows, or_variable, substituted}
use Rattle.type_core.specs.declared.type_fn.TypeFn.{TypeFn}
use Rattle.type_core.specs.TypeFunctions.{applied}
use Rattle.type_core.specs.ValidLibrary.{IsLabel, IsWithinLimits}
use Rattle.type_core.specs.Variables.{occurs, place, same_variable}
use Rattle.type_core.proofs.Trees.{height_var, induct_type, size_arrow, size_con, size_rec, size_tup, size_var, substituted_con, substituted_var}
use Rattle.elab_env.specs.Parameters.{name_function, parameters, parameters_from}
use Rattle.elab_rules.specs.LookUps.{function_at}
use Rattle.elab_soundness.specs.Soundness.{HasSoundNames, Known}
use Rattle.elab_types.specs.Sources.{text_at, variable}
use Rattle.elab_soundness.specs.Spelling as spelling
use Rattle.elab_soundness.specs.Spelling.{AreSpelledFields, AreSpelledTypes, IsSpelledType, NamesLongType, more_fields, more_types, no_fields, no_types}
use Rattle.elab_rules.specs.States.{State}
use Rattle.elab_rules.specs.Types.{Any, Parameters, Place, Variables, all_typed, constructed, constructed_all, constructed_on, field_typed, fields_typed, limited, typed, typed_field_step, typed_step, variable_of}
use Rattle.type_core.specs.Arrows.{arrows, arrows_from}
use Rattle.elab_types.specs.Records.{in_label_order, is_new_label, record_of}
use Rattle.elab_types.proofs.Fields.{AreApart, all_sorted, sorted_in_order}
use Rattle.elab_types.proofs.Lists.{other_texts}
use Rattle.elab_soundness.proofs.valid.Made.{IsMade, IsMadeField, made_applied, made_arrow, made_tup, made_var, record_made}
use Rattle.elab_types.proofs.Outcomes.{checked_parts, ok_is, then_parts}
use Rattle.elab_soundness.proofs.valid.Sought.{CanStand, function_kept, stand_added}
use Rattle.elab_soundness.proofs.valid.States.{Adds, adds_none, adds_then}
use Rattle.elab_soundness.proofs.valid.Weaker.{type_still}

-- ---- by the outermost form
typed_var : (token : ℕ) → typed (e.Var token) ≡ typed_step (Var token)
typed_var token = ap typed (sym (rolls-Var token)) ∙ fold-roll-TyExp _ _ typed_step typed_field_step _

typed_fields : (fields : List FieldExp) → typed (e.Fields fields) ≡ typed_step (Fields (map field_typed fields))
typed_fields fields = ap typed (sym (rolls-Fields fields)) ∙ fold-roll-TyExp _ _ typed_step typed_field_step _

typed_tuple : (parts : List TyExp) → typed (e.Tuple parts) ≡ typed_step (Tuple (map typed parts))
typed_tuple parts = ap typed (sym (rolls-Tuple parts)) ∙ fold-roll-TyExp _ _ typed_step typed_field_step _

typed_arrows : (sides : List TyExp) → typed (e.Arrows sides) ≡ typed_step (Arrows (map typed sides))
typed_arrows sides = ap typed (sym (rolls-Arrows sides)) ∙ fold-roll-TyExp _ _ typed_step typed_field_step _

typed_apply : (arguments : List TyExp) (tokens : List ℕ) → typed (e.Apply arguments tokens) ≡ typed_step (Apply (map typed arguments) tokens)
typed_apply arguments tokens = ap typed (sym (rolls-Apply arguments tokens)) ∙ fold-roll-TyExp _ _ typed_step typed_field_step _

field_is : (part : FieldExp) → field_typed part ≡ (part.label, typed part.ty)
field_is part = search (rules, fold_out-FieldExp)

-- ---- a name applied to arguments
has_node : (t : Ty) → 1 ≤ size_of t
has_node = induct_type (λ t. 1 ≤ size_of t)
    (λ v. omega (arith, size_var v))
    (λ name ts ihs. omega (arith, size_con name ts))
    (λ fields ihs. omega (arith, size_rec fields))
    (λ ts ihs. omega (arith, size_tup ts))
    (λ a b p q. omega (arith, size_arrow a b))

nodes_of : (ts : List Ty) → length ts ≤ sum_of (map size_of ts)
nodes_of [] = omega arith
nodes_of (t ∷ ts) = omega (arith, has_node t, nodes_of ts)

get_seam : (done : List Ty) (t : Ty) (rest : List Ty) → slice_get (done ++ t ∷ rest) (length done) ≡ Some t
get_seam [] t rest = refl
get_seam (d ∷ done) t rest = get_seam done t rest

arguments_placed : (done rest whole : List Ty) (first : ℕ) → first ≡ length done → whole ≡ done ++ rest → map (substituted whole) (parameters_from first (length rest)) ≡ rest
arguments_placed done [] whole first e f = refl
arguments_placed done (t ∷ rest) whole first e f =
    let v : VarId = record { n = first; eq = false } in
    let here : substituted whole (ty.Var v) ≡ t = substituted_var whole v ∙ ap (or_variable v) (ap₂ (λ ts n. slice_get ts n) f e ∙ get_seam done t rest) in
    let next : first + 1 ≡ length (done ++ t ∷ []) = ap (λ n. n + 1) e ∙ sym (length-append done (t ∷ [])) in
    ap₂ ◌∷◌ here (arguments_placed (done ++ t ∷ []) rest whole (first + 1) next (f ∙ sym (append_assoc done (t ∷ []) rest)))

-- a name's type function, applied to as many arguments as it takes, is the name applied to them
pub name_applied : (n : ℕ) (ts : List Ty) → applied (name_function n (length ts)) ts ≡ ty.Con (record { 0 = n }) ts
name_applied n ts = substituted_con ts (record { 0 = n }) (parameters (length ts)) ∙ ap (ty.Con (record { 0 = n })) (arguments_placed [] ts ts 0 refl refl)

few_arguments : (f : TypeFn) (ts : List Ty) (n : ℕ) → IsWithinLimits (applied f ts) → f ≡ name_function n (length ts) → length ts ≤ 1999
few_arguments f ts n limits e =
    let size : size_of (applied f ts) ≡ 1 + sum_of (map size_of ts) = ap (λ g. size_of (applied g ts)) e ∙ ap size_of (name_applied n ts) ∙ size_con _ ts in
    omega (arith, size, nodes_of ts, limits.nodes)

-- ---- limits
pub limited_parts : (first : ℕ) (t : Ty) (s : State) (r : Ty × State) → limited first t s ≡ Ok r → ((t, s) ≡ r) × IsWithinLimits t
limited_parts first t s r h =
    let p = checked_parts (nat_le (size_of t) 2000) _ first _ r h in
    let q = checked_parts (nat_le (height_of t) 200) _ first _ r p.1 in
    (ok_is (t, s) r q.1, record { nodes = leb-true (size_of t) 2000 p.0; height = leb-true (height_of t) 200 q.0 })

-- ---- variables
-- which variables a type has that stands where these may
abbrev pub allowed : Variables → VarId → Bool
allowed Any v = true
allowed (Parameters marks parameters) v = allows (length parameters) marks v

or_holds : (a b : Bool) → (a || b) ≡ true → a ≡ false → b ≡ true
or_holds true b h f = absurd (true≢false f)
or_holds false b h f = h

one_more : (is : Bool) (n k : ℕ) → (is ≡ false → n < k) → (if is then 0 else 1 + n) < 1 + k
one_more true n k f = omega arith
one_more false n k f = omega (arith, f refl)

place_within : (v : VarId) (vs : List VarId) → occurs v vs ≡ true → place v vs < length vs
place_within v [] o = absurd (true≢false (sym o))
place_within v (w ∷ vs) o = omega (arith, one_more (same_variable v w) (place v vs) (length vs) (λ f. place_within v vs (or_holds (same_variable v w) (occurs v vs) o f)))

marked_so : (marks mark : Bool) → (if marks && mark then marks else true) ≡ true
marked_so true true = refl
marked_so true false = refl
marked_so false mark = refl

module _ (known : Known) where
  -- a type that may stand there, within the limits
  pub record IsTyped (is : VarId → Bool) (t : Ty) : Type 0 where
    pub made : IsMade known is t
    pub limits : IsWithinLimits t

  small_var : (v : VarId) → IsWithinLimits (ty.Var v)
  small_var v = record { nodes = omega (arith, size_var v); height = omega (arith, height_var v) }

  variable_typed : (vars : Variables) (v : VarId) (token : ℕ) (t : Ty) → variable_of vars v token ≡ Ok t → IsTyped (allowed vars) t
  variable_typed Any v token t h = subst (IsTyped (allowed Any)) (ok_is (ty.Var v) t h) (record { made = made_var known (allowed Any) v refl; limits = small_var v })
  variable_typed (Parameters marks parameters) v token t h =
      let p = checked_parts (occurs v parameters) _ token _ t h in
      let w : VarId = record { n = place v parameters; eq = marks && v.eq } in
      subst (IsTyped (allowed (Parameters marks parameters))) (ok_is (ty.Var w) t p.1)
      (record { made = made_var known (allowed (Parameters marks parameters)) w (and_from _ _ (lt-ltb _ _ (place_within v parameters p.0)) (marked_so marks v.eq)); limits = small_var w })

pub made_still : (known after : Known) → ((n count : ℕ) → known n count ≡ true → after n count ≡ true) → (is : VarId → Bool) (t : Ty) → IsMade known is t → IsMade after is t
made_still known after more is t h = record { sound = type_still known after more t h.sound; variables = h.variables }

module _
    (tops : List (List ℕ)) (T : State → Known)
    (grows : (s t : State) → Adds tops s t → (n count : ℕ) → T s n count ≡ true → T t n count ≡ true)
    (external_known : (s : State) (n : ℕ) (name : TypeName) → HasSoundNames tops s → slice_get s.names n ≡ Some name → name.external ≡ true → T s n name.arity ≡ true)
    (p : Place) where
  abbrev is : VarId → Bool
  is = allowed p.variables

  -- where the place can stand
  abbrev pub Stands : State → Type 0
  Stands s = CanStand tops T grows external_known p.site p.own s

  stands_later : (s t : State) → Adds tops s t → Stands s → Stands t
  stands_later s t = stand_added tops T grows external_known p.site p.own s t

  -- a type that may stand there was made, and names from elsewhere were added
  pub record IsOutcome (s : State) (r : Ty × State) : Type 0 where
    pub adds : Adds tops s r.1
    pub typed : IsTyped (T r.1) is r.0

  record AreParts (es : List TyExp) (s : State) (r : List Ty × State) : Type 0 where
    adds : Adds tops s r.1
    each : All (IsMade (T r.1) is) r.0
    count : length r.0 ≡ length es

  record AreFields (s : State) (r : List Field × State) : Type 0 where
    adds : Adds tops s r.1
    each : All (IsMadeField (T r.1) is) r.0
    apart : AreApart r.0

  unchanged : (s : State) → Adds tops s s
  unchanged s = adds_none tops s s (record { names = refl; gone = refl })

  all_still : (s t : State) → Adds tops s t → (ts : List Ty) → All (IsMade (T s) is) ts → All (IsMade (T t) is) ts
  all_still s t a = All-weaker (IsMade (T s) is) (IsMade (T t) is) (λ u. made_still (T s) (T t) (grows s t a) is u)

  fields_still : (s t : State) → Adds tops s t → (fields : List Field) → All (IsMadeField (T s) is) fields → All (IsMadeField (T t) is) fields
  fields_still s t a = All-weaker (IsMadeField (T s) is) (IsMadeField (T t) is) (λ field h. record { label = h.label; type = made_still (T s) (T t) (grows s t a) is field.ty h.type })

  within : (t : Ty) (s u : State) (r : Ty × State) → Adds tops s u → IsMade (T u) is t → limited p.first t u ≡ Ok r → IsOutcome s r
  within t s u r a made h = let d = limited_parts p.first t u r h in subst (IsOutcome s) d.0 (record { adds = a; typed = record { made = made; limits = d.1 } })

  -- ---- constructors
  constructed_typed : (token : ℕ) (arguments : List Ty) (s : State) (r : Ty × State) → NamesLongType p.site.texts token → Stands s → All (IsMade (T s) is) arguments → constructed p token arguments s ≡ Ok r → IsOutcome s r
  constructed_typed token arguments s r long stands made h =
      let a = then_parts (function_at token (length arguments) p.site p.own s) _ r h in
      let c = checked_parts (length arguments == a.0.0.arity) _ token _ r a.2 in
      let d = limited_parts p.first (applied a.0.0 arguments) a.0.1 r c.1 in
      let f = function_kept tops T grows external_known token (length arguments) p.site p.own s a.0 long (λ n is_name. few_arguments a.0.0 arguments n d.1 is_name) stands a.1 in
      subst (IsOutcome s) d.0 (record {
        adds = f.adds;
        typed = record { made = made_applied (T a.0.1) is a.0.0 arguments ((f.function).formed) (eqb-true (length arguments) a.0.0.arity c.0) (all_still s a.0.1 f.adds arguments made); limits = d.1 };
      })

  on_typed : (tokens : List ℕ) (t : Ty) (s : State) (r : Ty × State) → All (NamesLongType p.site.texts) tokens → Stands s → IsTyped (T s) is t → constructed_on p t tokens s ≡ Ok r → IsOutcome s r
  on_typed [] t s r long stands typed h = subst (IsOutcome s) (ok_is (t, s) r h) (record { adds = unchanged s; typed = typed })
  on_typed (token ∷ tokens) t s r long stands typed h =
      let a = then_parts (constructed p token (t ∷ []) s) _ r h in
      let b = constructed_typed token (t ∷ []) s a.0 (All-head (NamesLongType p.site.texts) token tokens long) stands (All-cons (IsMade (T s) is) t [] typed.made (All-nil _)) a.1 in
      let c = on_typed tokens a.0.0 a.0.1 r (All-tail (NamesLongType p.site.texts) token tokens long) (stands_later s a.0.1 b.adds stands) b.typed a.2 in
      record { adds = adds_then tops s a.0.1 r.1 b.adds c.adds; typed = c.typed }

  applied_typed : (tokens : List ℕ) (arguments : List Ty) (s : State) (r : Ty × State) → 1 ≤ length tokens → All (NamesLongType p.site.texts) tokens → Stands s → All (IsMade (T s) is) arguments → constructed_all p arguments tokens s ≡ Ok r → IsOutcome s r
  applied_typed [] arguments s r l long stands made h = absurd (omega (arith, l))
  applied_typed (token ∷ tokens) arguments s r l long stands made h =
      let a = then_parts (constructed p token arguments s) _ r h in
      let b = constructed_typed token arguments s a.0 (All-head (NamesLongType p.site.texts) token tokens long) stands made a.1 in
      let c = on_typed tokens a.0.0 a.0.1 r (All-tail (NamesLongType p.site.texts) token tokens long) (stands_later s a.0.1 b.adds stands) b.typed a.2 in
      record { adds = adds_then tops s a.0.1 r.1 b.adds c.adds; typed = c.typed }

  -- ---- arrows
  arrows_made : (known : Known) (side : Ty) (sides : List Ty) → All (IsMade known is) (side ∷ sides) → IsMade known is (arrows_from side sides)
  arrows_made known side [] h = All-head (IsMade known is) side [] h
  arrows_made known side (next ∷ sides) h = made_arrow known is side (arrows_from next sides) (All-head (IsMade known is) side (next ∷ sides) h) (arrows_made known next sides (All-tail (IsMade known is) side (next ∷ sides) h))

  all_arrows_made : (known : Known) (sides : List Ty) → All (IsMade known is) sides → IsMade known is (arrows sides)
  all_arrows_made known [] h = made_tup known is [] (λ e. absurd (omega (arith, e))) (All-nil _)
  all_arrows_made known (side ∷ sides) h = arrows_made known side sides h

  -- ---- the parts
  var_case : (token : ℕ) (s : State) (r : Ty × State) → typed (e.Var token) p s ≡ Ok r → IsOutcome s r
  var_case token s r h =
      let a = then_parts (variable_of p.variables (variable p.site.texts token) token) _ r (sym (ap (λ f. f p s) (typed_var token)) ∙ h) in
      subst (IsOutcome s) (ok_is (a.0, s) r a.2) (record { adds = unchanged s; typed = variable_typed (T s) p.variables (variable p.site.texts token) token a.0 a.1 })

  tuple_case : (parts : List TyExp) (s : State) (r : Ty × State) → 2 ≤ length parts → ((q : List Ty × State) → all_typed (map typed parts) p s ≡ Ok q → AreParts parts s q) → typed (e.Tuple parts) p s ≡ Ok r → IsOutcome s r
  tuple_case parts s r two ih h =
      let a = then_parts (all_typed (map typed parts) p s) _ r (sym (ap (λ f. f p s) (typed_tuple parts)) ∙ h) in
      let b = ih a.0 a.1 in
      within (ty.Tup a.0.0) s a.0.1 r b.adds (made_tup (T a.0.1) is a.0.0 (λ one. absurd (omega (arith, one, b.count, two))) b.each) a.2

  arrows_case : (sides : List TyExp) (s : State) (r : Ty × State) → ((q : List Ty × State) → all_typed (map typed sides) p s ≡ Ok q → AreParts sides s q) → typed (e.Arrows sides) p s ≡ Ok r → IsOutcome s r
  arrows_case sides s r ih h =
      let a = then_parts (all_typed (map typed sides) p s) _ r (sym (ap (λ f. f p s) (typed_arrows sides)) ∙ h) in
      let b = ih a.0 a.1 in
      within (arrows a.0.0) s a.0.1 r b.adds (all_arrows_made (T a.0.1) a.0.0 b.each) a.2

  apply_case : (arguments : List TyExp) (tokens : List ℕ) (s : State) (r : Ty × State) → 1 ≤ length tokens → All (NamesLongType p.site.texts) tokens → Stands s → ((q : List Ty × State) → all_typed (map typed arguments) p s ≡ Ok q → AreParts arguments s q) → typed (e.Apply arguments tokens) p s ≡ Ok r → IsOutcome s r
  apply_case arguments tokens s r one long stands ih h =
      let a = then_parts (all_typed (map typed arguments) p s) _ r (sym (ap (λ f. f p s) (typed_apply arguments tokens)) ∙ h) in
      let b = ih a.0 a.1 in
      let c = applied_typed tokens a.0.0 a.0.1 r one long (stands_later s a.0.1 b.adds stands) b.each a.2 in
      record { adds = adds_then tops s a.0.1 r.1 b.adds c.adds; typed = c.typed }

  fields_case : (fields : List FieldExp) (s : State) (r : Ty × State) → ((q : List Field × State) → fields_typed p [] (map field_typed fields) s ≡ Ok q → AreFields s q) → typed (e.Fields fields) p s ≡ Ok r → IsOutcome s r
  fields_case fields s r ih h =
      let a = then_parts (fields_typed p [] (map field_typed fields) s) (λ (q : List Field × State). limited p.first (record_of (in_label_order q.0)) q.1) r (sym (ap (λ f. f p s) (typed_fields fields)) ∙ h) in
      let b = ih a.0 a.1 in
      within (record_of (in_label_order a.0.0)) s a.0.1 r b.adds
      (record_made (T a.0.1) is (in_label_order a.0.0) (sorted_in_order a.0.0 b.apart) (all_sorted (IsMadeField (T a.0.1) is) a.0.0 [] b.each (All-nil (IsMadeField (T a.0.1) is)))) a.2

  more_parts : (x : TyExp) (es : List TyExp) (s : State) (r : List Ty × State) → Stands s → ((q : Ty × State) → typed x p s ≡ Ok q → IsOutcome s q) → ((u : State) (q : List Ty × State) → Stands u → all_typed (map typed es) p u ≡ Ok q → AreParts es u q)
      → all_typed (map typed (x ∷ es)) p s ≡ Ok r → AreParts (x ∷ es) s r
  more_parts x es s r stands first rest h =
      let a = then_parts (typed x p s) _ r h in
      let b = then_parts (all_typed (map typed es) p a.0.1) _ r a.2 in
      let c = first a.0 a.1 in
      let d = rest a.0.1 b.0 (stands_later s a.0.1 c.adds stands) b.1 in
      subst (AreParts (x ∷ es) s) (ok_is (a.0.0 ∷ b.0.0, b.0.1) r b.2) (record {
        adds = adds_then tops s a.0.1 b.0.1 c.adds d.adds;
        each = All-cons (IsMade (T b.0.1) is) a.0.0 b.0.0 (made_still (T a.0.1) (T b.0.1) (grows a.0.1 b.0.1 d.adds) is a.0.0 ((c.typed).made)) d.each;
        count = ap (λ n. suc n) d.count;
      })

  one_field : (part : FieldExp) (fields : List FieldExp) (done : List Field) (s : State) (r : List Field × State) → Stands s → All (IsMadeField (T s) is) done → AreApart done → IsLabel (text_at p.site.texts part.label)
      → ((q : Ty × State) → typed part.ty p s ≡ Ok q → IsOutcome s q)
      → ((more : List Field) (u : State) (q : List Field × State) → Stands u → All (IsMadeField (T u) is) more → AreApart more → fields_typed p more (map field_typed fields) u ≡ Ok q → AreFields u q)
      → fields_typed p done (map field_typed (part ∷ fields)) s ≡ Ok r → AreFields s r
  one_field part fields done s r stands made apart label first rest h =
      let h' = ap (λ f. fields_typed p done (f ∷ map field_typed fields) s) (sym (field_is part)) ∙ h in
      let a = checked_parts (is_new_label (text_at p.site.texts part.label) done) _ part.label _ r h' in
      let b = then_parts (typed part.ty p s) _ r a.1 in
      let c = first b.0 b.1 in
      let new : Field = record { label = text_at p.site.texts part.label; ty = b.0.0 } in
      let d = rest (done ++ new ∷ []) b.0.1 r (stands_later s b.0.1 c.adds stands)
      (All-push (IsMadeField (T b.0.1) is) done new (fields_still s b.0.1 c.adds done made) (record { label = label; type = (c.typed).made }))
      (all_pairs_push (λ (x : Field) (y : Field). x.label ≢ y.label) done new apart (other_texts (λ (field : Field). field.label) (text_at p.site.texts part.label) done a.0)) b.2 in
      record { adds = adds_then tops s b.0.1 r.1 c.adds d.adds; each = d.each; apart = d.apart }

  mutual
    pub typed_sound : (x : TyExp) → IsSpelledType p.site.texts x → (s : State) (r : Ty × State) → Stands s → typed x p s ≡ Ok r → IsOutcome s r
    typed_sound x (spelling.variable {token = token}) s r stands h = var_case token s r h
    typed_sound x (spelling.fields {fields = fields} k) s r stands h = fields_case fields s r (λ q g. fields_sound fields k [] s q stands (All-nil _) (λ i j d l m. absurd (omega (arith, m))) g) h
    typed_sound x (spelling.tuple {parts = parts} two k) s r stands h = tuple_case parts s r two (λ q g. types_sound parts k s q stands g) h
    typed_sound x (spelling.arrows {sides = sides} k) s r stands h = arrows_case sides s r (λ q g. types_sound sides k s q stands g) h
    typed_sound x (spelling.application {arguments = arguments} {constructors = tokens} k one long) s r stands h = apply_case arguments tokens s r one long stands (λ q g. types_sound arguments k s q stands g) h

    types_sound : (es : List TyExp) → AreSpelledTypes p.site.texts es → (s : State) (r : List Ty × State) → Stands s → all_typed (map typed es) p s ≡ Ok r → AreParts es s r
    types_sound es no_types s r stands h = subst (AreParts [] s) (ok_is ([], s) r h) (record { adds = unchanged s; each = All-nil _; count = refl })
    types_sound es (more_types {e = x} {es = rest} k l) s r stands h = more_parts x rest s r stands (λ q g. typed_sound x k s q stands g) (λ u q v g. types_sound rest l u q v g) h

    fields_sound : (fields : List FieldExp) → AreSpelledFields p.site.texts fields → (done : List Field) (s : State) (r : List Field × State) → Stands s → All (IsMadeField (T s) is) done → AreApart done
        → fields_typed p done (map field_typed fields) s ≡ Ok r → AreFields s r
    fields_sound fields no_fields done s r stands made apart h = subst (AreFields s) (ok_is (done, s) r h) (record { adds = unchanged s; each = made; apart = apart })
    fields_sound fields (more_fields {field = part} {fields = rest} label k l) done s r stands made apart h =
        one_field part rest done s r stands made apart label (λ q g. typed_sound part.ty k s q stands g) (λ more u q v a b g. fields_sound rest l more u q v a b g) h
