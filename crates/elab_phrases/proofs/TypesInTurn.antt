-- Types of type expressions, found one after another.
use Rattle.std.proofs.Common.{◌≡◌, ℕ, ◌+◌, ◌<◌, ◌==◌, ◌&&◌, Bool, true, false, nat_le, List, [], ◌∷◌, ◌++◌, map, length, drop, get_or, Result, Ok, Err, IfOk, OnOk, refl, sym, ap, ◌∙◌, subst, append_assoc}
use Rattle.std.specs.List.{All}
use Rattle.std.proofs.lemmas.List.Elements.{All-append, All-cons, All-nil, All-weaker}
use Rattle.ty_parser.specs.declared.tree.FieldExp.{FieldExp}
use Rattle.ty_parser.specs.declared.tree.TyExp.{TyExp}
use Rattle.ty_parser.specs.declared.tree.TyExp.TheVariants as e
use Rattle.ty_parser.specs.declared.tree.TyExp.TheVariants.{rolls-Apply}
use Rattle.ty_parser.specs.declared.tree.TyExp.TheOpen.{Apply}
use Rattle.ty_parser.specs.declared.tree.TyExp.TheFolds.{fold-roll-TyExp}
use Rattle.type_core.specs.declared.ty.Field.{Field}
use Rattle.type_core.specs.declared.ty.Ty.{Ty}
use Rattle.type_core.specs.declared.ty.Ty.TheVariants as ty
use Rattle.type_core.specs.declared.ty.VarId.{VarId}
use Rattle.type_core.specs.declared.type_fn.TypeFn.{TypeFn}
use Rattle.type_core.specs.Height.{height_of}
use Rattle.type_core.specs.Size.{size_of}
use Rattle.type_core.specs.TypeFunctions.{applied}
use Rattle.type_core.specs.Variables.{occurs, place}
use Rattle.elab_env.specs.Table.{Table}
use Rattle.elab_rules.specs.declared.progress.Progress.{Progress}
use Rattle.elab_rules.specs.declared.refusal.ElabRefusal.{ElabRefusal}
use Rattle.elab_rules.specs.declared.refusal.Why.TheVariants.{FreeVariable, TypeTooHigh, TypeTooLarge, WrongArity}
use Rattle.elab_rules.specs.LookUps.{function_at}
use Rattle.elab_rules.specs.Outcome.{Gives, GivesWith, Outcome}
use Rattle.elab_types.specs.Outcome.{and_then, checked}
use Rattle.elab_types.specs.Sources.{text_at}
use Rattle.elab_rules.specs.Standing.{IsSettledType, Mentions}
use Rattle.elab_rules.specs.States.{State}
use Rattle.elab_rules.specs.Types.{Any, Parameters, Place, Variables, all_typed, constructed, constructed_all, constructed_on, field_typed, fields_typed, limited, typed, typed_field_step, typed_step, variable_of}
use Rattle.elab_types.specs.Records.{is_new_label}
use Rattle.elab_types.proofs.Lists.{dropped}
use Rattle.elab_rules.proofs.Outcomes.{fails_then, fails_whole, gives_same}
use Rattle.elab_rules.proofs.PairedOutcomes.{first_same}
use Rattle.elab_phrases.proofs.Records.{fields_fail}
use Rattle.elab_phrases.proofs.SettledParts.{applied_settled, var_settled}
use Rattle.elab_phrases.proofs.Stands.{settled_type_mentions}
use Rattle.elab_phrases.proofs.Staying.{mentions_twice}

-- ---- at a place that is no other
pub there : {A : Type 0} (step : Place → Outcome A) (p now : Place) (o : Outcome A) → now ≡ p → step now ≡ o → step p ≡ o
there step p now o same is = ap step (sym same) ∙ is

pub gives_there : {A : Type 0} (step : Place → Outcome (A × State)) (p now : Place) (result : Result A ElabRefusal) (s : State) → now ≡ p → GivesWith (step now) result s → GivesWith (step p) result s
gives_there step p now result s same = subst (λ at. GivesWith (step at) result s) same

-- ---- one type more
joined_on : (o : Outcome (List Ty × State)) (done : List Ty) (t : Ty)
    → and_then o (λ q. let r : Outcome (List Ty × State) = Ok ((done ++ t ∷ []) ++ q.0, q.1) in r) ≡ and_then (and_then o (λ q. let r : Outcome (List Ty × State) = Ok (t ∷ q.0, q.1) in r)) (λ q. let r : Outcome (List Ty × State) = Ok (done ++ q.0, q.1) in r)
joined_on (Ok r) done t = ap (λ (ts : List Ty). let q : Outcome (List Ty × State) = Ok (ts, r.1) in q) (append_assoc done (t ∷ []) r.0)
joined_on (Err failure) done t = refl

module _ (p : Place) (parts : List TyExp) (i : ℕ) (part d : TyExp) (done : List Ty) (s : State) (whole : Outcome (List Ty × State)) where
  next : i < length parts → part ≡ get_or parts i d
      → all_typed (map typed (drop i parts)) p s ≡ and_then (typed part p s) (λ r. and_then (all_typed (map typed (drop (i + 1) parts)) p r.1) (λ q. Ok (r.0 ∷ q.0, q.1)))
  next within is = ap (λ rest. all_typed (map typed rest) p s) (dropped parts i part d within is)

  pub all_more : (now : Place) (pushed : List Ty) (t : Ty) (after : State) → now ≡ p → i < length parts → part ≡ get_or parts i d → typed part now s ≡ Ok (t, after) → pushed ≡ done ++ t ∷ []
      → and_then (all_typed (map typed (drop i parts)) p s) (λ q. Ok (done ++ q.0, q.1)) ≡ whole
      → and_then (all_typed (map typed (drop (i + 1) parts)) p after) (λ q. Ok (pushed ++ q.0, q.1)) ≡ whole
  all_more now pushed t after same within is ok push so_far =
      ap (λ ts. and_then (all_typed (map typed (drop (i + 1) parts)) p after) (λ q. let r : Outcome (List Ty × State) = Ok (ts ++ q.0, q.1) in r)) push
      ∙ joined_on (all_typed (map typed (drop (i + 1) parts)) p after) done t
      ∙ sym (ap (λ o. and_then (and_then o (λ r. and_then (all_typed (map typed (drop (i + 1) parts)) p r.1) (λ q. let k : Outcome (List Ty × State) = Ok (r.0 ∷ q.0, q.1) in k))) (λ q. let k : Outcome (List Ty × State) = Ok (done ++ q.0, q.1) in k))
      (there (λ at. typed part at s) p now (Ok (t, after)) same ok))
      ∙ sym (ap (λ o. and_then o (λ q. let k : Outcome (List Ty × State) = Ok (done ++ q.0, q.1) in k)) (next within is))
      ∙ so_far

  pub all_fail : (now : Place) (refusal : ElabRefusal) (result : Result (List Ty) ElabRefusal) (after : State) → now ≡ p → i < length parts → part ≡ get_or parts i d → result ≡ Err refusal
      → and_then (all_typed (map typed (drop i parts)) p s) (λ q. Ok (done ++ q.0, q.1)) ≡ whole → GivesWith {A = Ty} (typed part now s) (Err refusal) after → GivesWith whole result after
  all_fail now refusal result after same within is handed so_far gives =
      subst (λ r. GivesWith whole r after) (sym handed)
      (subst (λ o. GivesWith {A = List Ty} o (Err refusal) after) so_far
      (fails_then {B = List Ty} (all_typed (map typed (drop i parts)) p s) _ refusal after after
      (subst (λ o. GivesWith {A = List Ty} o (Err refusal) after) (sym (next within is))
      (fails_then {B = List Ty} (typed part p s) _ refusal after after (gives_there (λ at. typed part at s) p now (Err refusal) after same gives)))))

-- a field whose type fails, at a place that is no other
pub field_fails : (p now : Place) (done : List Field) (parts : List FieldExp) (i : ℕ) (part d : FieldExp) (s t : State) (text : List ℕ) (whole : Outcome (List Field × State)) (refusal : ElabRefusal) (result : Result (List Field) ElabRefusal)
    → now ≡ p → i < length parts → part ≡ get_or parts i d → text ≡ text_at p.site.texts part.label → is_new_label text done ≡ true → fields_typed p done (map field_typed (drop i parts)) s ≡ whole
    → result ≡ Err refusal → GivesWith {A = Ty} (typed part.ty now s) (Err refusal) t → GivesWith whole result t
field_fails p now done parts i part d s t text whole refusal result same within is label new so_far handed gives =
    fields_fail p done parts i part d s t text whole refusal result within is label new so_far handed (gives_there (λ at. typed part.ty at s) p now (Err refusal) t same gives)

-- ---- what was settled stays so beside one more
pub types_settled : (p q : Progress) (ts pushed : List Ty) (t : Ty) → Mentions p q → All (IsSettledType p.table) ts → IsSettledType q.table t → pushed ≡ ts ++ t ∷ [] → All (IsSettledType q.table) pushed
types_settled p q ts pushed t mentions all one push =
    let P : Ty → Type 0 = IsSettledType q.table in
    subst (All P) (sym push) (All-append P ts (t ∷ []) (All-weaker (IsSettledType p.table) P (λ u h. settled_type_mentions p q u mentions h) ts all) (All-cons P t [] one (All-nil P)))

pub fields_stay_settled : (p q : Progress) (fields pushed : List Field) (field : Field) → Mentions p q → All (λ (f : Field). IsSettledType p.table f.ty) fields → IsSettledType q.table field.ty → pushed ≡ fields ++ field ∷ []
    → All (λ (f : Field). IsSettledType q.table f.ty) pushed
fields_stay_settled p q fields pushed field mentions all one push =
    let P : Field → Type 0 = λ f. IsSettledType q.table f.ty in
    subst (All P) (sym push)
    (All-append P fields (field ∷ []) (All-weaker (λ (f : Field). IsSettledType p.table f.ty) P (λ f h. settled_type_mentions p q f.ty mentions h) fields all) (All-cons P field [] one (All-nil P)))

-- ---- types that are settled
-- a type within the limits is the one that was given
pub limited_settled : (table : Table) (first : ℕ) (t : Ty) (s : State) (result : Result Ty ElabRefusal) → IsSettledType table t → GivesWith (limited first t s) result s → IfOk result (IsSettledType table)
limited_settled table first t s (Err refusal) h gives = tt
limited_settled table first t s (Ok made) h gives = by_case (nat_le (size_of t) 2000) (nat_le (height_of t) 200) gives
  where
    by_case : (b c : Bool) → checked {A = Ty × State} b TypeTooLarge first (checked c TypeTooHigh first (Ok (t, s))) ≡ Ok (made, s) → IsSettledType table made
    by_case true true is = subst (IsSettledType table) (first_same t made s s is) h
    by_case true false is = cc
    by_case false c is = cc

pub variable_settled : (table : Table) (variables : Variables) (v : VarId) (token : ℕ) (result : Result Ty ElabRefusal) → Gives (variable_of variables v token) result → IfOk result (IsSettledType table)
variable_settled table variables v token (Err refusal) gives = tt
variable_settled table Any v token (Ok made) gives = subst (IsSettledType table) (let same : ty.Var v ≡ made = cc in same) (var_settled table v)
variable_settled table (Parameters marks parameters) v token (Ok made) gives = by_case (occurs v parameters) gives
  where
    by_case : (b : Bool) → checked b FreeVariable token (Ok (ty.Var (record { n = place v parameters; eq = marks && v.eq }))) ≡ Ok made → IsSettledType table made
    by_case true is = subst (IsSettledType table) (let same : ty.Var (record { n = place v parameters; eq = marks && v.eq }) ≡ made = cc in same) (var_settled table (record { n = place v parameters; eq = marks && v.eq }))
    by_case false is = cc

-- ---- applications
pub constructed_is : (p : Place) (token count : ℕ) (arguments : List Ty) (s after : State) (f : TypeFn) (t : Ty) → count ≡ length arguments → function_at token count p.site p.own s ≡ Ok (f, after) → (length arguments == f.arity) ≡ true
    → t ≡ applied f arguments → constructed p token arguments s ≡ limited p.first t after
constructed_is p token count arguments s after f t counted found arity is =
    ap (λ o. and_then o (λ r. checked (length arguments == r.0.arity) WrongArity token (limited p.first (applied r.0 arguments) r.1))) (ap (λ n. function_at token n p.site p.own s) (sym counted) ∙ found)
    ∙ ap (λ b. checked b WrongArity token (limited p.first (applied f arguments) after)) arity
    ∙ ap (λ u. limited p.first u after) (sym is)

typed_apply : (arguments : List TyExp) (constructors : List ℕ) → typed (e.Apply arguments constructors) ≡ typed_step (Apply (map typed arguments) constructors)
typed_apply arguments constructors = ap typed (sym (rolls-Apply arguments constructors)) ∙ fold-roll-TyExp _ _ typed_step typed_field_step _

pub apply_is : (x : TyExp) (arguments items : List TyExp) (constructors tokens : List ℕ) (p : Place) (s after : State) (done : List Ty) → x ≡ e.Apply arguments constructors → items ≡ arguments → tokens ≡ constructors
    → all_typed (map typed items) p s ≡ Ok (done, after) → typed x p s ≡ constructed_all p done tokens after
apply_is x arguments items constructors tokens p s after done is same named ok =
    ap (λ y. typed y p s) is
    ∙ ap (λ f. f p s) (typed_apply arguments constructors)
    ∙ ap (λ o. and_then o (λ r. constructed_all p r.0 constructors r.1)) (ap (λ xs. all_typed (map typed xs) p s) (sym same) ∙ ok)
    ∙ ap (λ cs. constructed_all p done cs after) (sym named)

pub apply_gives : (x : TyExp) (arguments items : List TyExp) (constructors tokens : List ℕ) (p now : Place) (s mid after : State) (done : List Ty) (result : Result Ty ElabRefusal) → x ≡ e.Apply arguments constructors → items ≡ arguments → tokens ≡ constructors
    → now ≡ p → all_typed (map typed items) p s ≡ Ok (done, mid) → GivesWith (constructed_all now done tokens mid) result after → GivesWith (typed x p s) result after
apply_gives x arguments items constructors tokens p now s mid after done result is same named place ok gives =
    gives_same (typed x p s) (constructed_all p done tokens mid) result after (apply_is x arguments items constructors tokens p s mid done is same named ok)
    (gives_there (λ at. constructed_all at done tokens mid) p now result after place gives)

pub application_settled : (p q : Progress) (f : TypeFn) (arguments : List Ty) (t : Ty) → Mentions p q → All (IsSettledType p.table) arguments → IsSettledType q.table f.body → t ≡ applied f arguments → IsSettledType q.table t
application_settled p q f arguments t mentions all h is =
    subst (IsSettledType q.table) (sym is)
    (applied_settled q.table f arguments (All-weaker (IsSettledType p.table) (IsSettledType q.table) (λ u k. settled_type_mentions p q u mentions k) arguments all) h)

-- ---- one constructor more
module _ (p now : Place) (tokens : List ℕ) (i token : ℕ) (t : Ty) (arguments : List Ty) (s : State) (whole : Outcome (Ty × State)) where
  constructor_next : i < length tokens → token ≡ get_or tokens i 0 → arguments ≡ t ∷ [] → now ≡ p
      → constructed_on p t (drop i tokens) s ≡ and_then (constructed now token arguments s) (λ r. constructed_on p r.0 (drop (i + 1) tokens) r.1)
  constructor_next within is one same =
      ap (λ rest. constructed_on p t rest s) (dropped tokens i token 0 within is)
      ∙ ap (λ ts. and_then (constructed p token ts s) (λ r. constructed_on p r.0 (drop (i + 1) tokens) r.1)) (sym one)
      ∙ ap (λ at. and_then (constructed at token arguments s) (λ r. constructed_on p r.0 (drop (i + 1) tokens) r.1)) (sym same)

  pub constructed_more : (made : Ty) (after : State) → i < length tokens → token ≡ get_or tokens i 0 → arguments ≡ t ∷ [] → now ≡ p → constructed now token arguments s ≡ Ok (made, after)
      → constructed_on p t (drop i tokens) s ≡ whole → constructed_on p made (drop (i + 1) tokens) after ≡ whole
  constructed_more made after within is one same ok so_far =
      sym (ap (λ o. and_then o (λ r. constructed_on p r.0 (drop (i + 1) tokens) r.1)) ok) ∙ sym (constructor_next within is one same) ∙ so_far

  pub constructed_fail : (refusal : ElabRefusal) (result : Result Ty ElabRefusal) (after : State) → i < length tokens → token ≡ get_or tokens i 0 → arguments ≡ t ∷ [] → now ≡ p → result ≡ Err refusal
      → constructed_on p t (drop i tokens) s ≡ whole → GivesWith {A = Ty} (constructed now token arguments s) (Err refusal) after → GivesWith whole result after
  constructed_fail refusal result after within is one same handed so_far gives =
      fails_whole (constructed now token arguments s) (λ r. constructed_on p r.0 (drop (i + 1) tokens) r.1) whole result refusal after after (sym (constructor_next within is one same) ∙ so_far) handed gives

-- ---- names that are mentioned in turn
pub mentions_on : {A : Type 0} (result : Result A ElabRefusal) (p q r : Progress) → Mentions p q → OnOk result (Mentions q r) → OnOk result (Mentions p r)
mentions_on (Ok a) p q r h k = mentions_twice p q r h k
mentions_on (Err refusal) p q r h k = tt
