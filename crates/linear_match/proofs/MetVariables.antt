-- The variables that are met are those of the pattern, in order.
use Rattle.std.proofs.Common.{◌≡◌, ℕ, ◌<◌, ◌||◌, Bool, true, false, true≢false, IsTrue, List, [], ◌∷◌, ◌++◌, map, nat_lt, refl, sym, ap, ap₂, ◌∙◌, subst, arith}
use Rattle.std.proofs.lemmas.Bool.Decides.{nat_tests}
use Rattle.std.proofs.lemmas.List.{map-append}
use Rattle.type_core.specs.declared.ty.VarId.{VarId}
use Rattle.type_core.specs.declared.ty.Ty.{Ty}
use Rattle.type_core.specs.declared.ty.Field.{Field}
use Rattle.type_core.specs.declared.ty.Ty.TheVariants.{rolls-Var, rolls-Con, rolls-Rec, rolls-Tup, rolls-Arrow}
use Rattle.type_core.specs.declared.ty.Ty.TheOpen.{Ty-F, Arrow}
use Rattle.type_core.specs.declared.ty.Ty.TheViews.{out-Ty, roll-Ty, roll-out-Ty}
use Rattle.type_core.specs.declared.ty.Scheme.{Scheme}
use Rattle.type_core.specs.Lists.{all_true, concatenated}
use Rattle.type_core.specs.Schemes.{IsScheme}
use Rattle.type_core.specs.Substitution.{VariablesBelow, allows}
use Rattle.type_core.specs.Variables.{field_variables, occurs, same_variable, variables}
use Rattle.type_core.proofs.EachVariable.{each_variable_is_listed}
use Rattle.type_core.proofs.Places.{same_is}
use Rattle.type_core.proofs.SchemeVariables.{scheme_variables_below}
use Rattle.type_core.proofs.Trees.{EachOf, variables_var, variables_con, variables_rec, variables_tup, variables_arrow, variables_field}
use Rattle.iso_axioms.proofs.Types.{both}
use Rattle.iso_normal.specs.declared.factor.Factor.{Factor}
use Rattle.linear_match.specs.Meetings.{MeetEach, MeetFields, Meeting, Meets, fields_more, fields_none, meet_more, meet_none, meets_application, meets_arrow, meets_record, meets_tuple, meets_variable}
use Rattle.linear_match.specs.Splits.{SplitEach, Splits, split_application, split_arrow, split_more, split_none, split_other, split_record, split_tuple, split_variable}
use Rattle.linear_match.proofs.Bound.{IsBelow, variable_of}

abbrev pub variables_of : List Meeting → List VarId
variables_of ms = map variable_of ms

appended : (ms ns : List Meeting) {vs ws : List VarId} → variables_of ms ≡ vs → variables_of ns ≡ ws
    → variables_of (ms ++ ns) ≡ vs ++ ws
appended ms ns e f = map-append variable_of ms ns ∙ ap₂ ◌++◌ e f

at_out : (p : Ty) {vs : List VarId} → vs ≡ variables (roll-Ty (out-Ty p)) → vs ≡ variables p
at_out p e = e ∙ ap variables (roll-out-Ty p)

arrow_variables : (p q : Ty) → variables p ++ variables q ≡ variables (roll-Ty (Arrow p q))
arrow_variables p q = sym (ap variables (rolls-Arrow p q) ∙ variables_arrow p q)

mutual
  met_variables : {x : Ty-F Ty Field} {t : Ty} {ms : List Meeting} → Meets x t ms
      → variables_of ms ≡ variables (roll-Ty x)
  met_variables (meets_variable v t) = sym (ap variables (rolls-Var v) ∙ variables_var v)
  met_variables (meets_application {ps} name e each) = each_variables each
      ∙ sym (ap variables (rolls-Con name ps) ∙ variables_con name ps)
  met_variables (meets_record {ps} e each) = fields_variables each
      ∙ sym (ap variables (rolls-Rec ps) ∙ variables_rec ps)
  met_variables (meets_tuple {ps} e each) = each_variables each ∙ sym (ap variables (rolls-Tup ps) ∙ variables_tup ps)
  met_variables (meets_arrow {p} {q} {ms} {ns} e m n) =
      appended ms ns (at_out p (met_variables m)) (at_out q (met_variables n)) ∙ arrow_variables p q

  each_variables : {ps ts : List Ty} {ms : List Meeting} → MeetEach ps ts ms
      → variables_of ms ≡ concatenated (map variables ps)
  each_variables meet_none = refl
  each_variables (meet_more {p} {ms} {ns} m each) = appended ms ns (at_out p (met_variables m)) (each_variables each)

  fields_variables : {ps ts : List Field} {ms : List Meeting} → MeetFields ps ts ms
      → variables_of ms ≡ concatenated (map field_variables ps)
  fields_variables fields_none = refl
  fields_variables (fields_more {p} {ms} {ns} l m each) =
      appended ms ns (at_out p.ty (met_variables m) ∙ sym (variables_field p)) (fields_variables each)

mutual
  pub split_variables : {x : Ty-F Ty Field} {fs : List Factor} {word : List ℕ} {ms : List Meeting}
      → Splits x fs word ms → variables_of ms ≡ variables (roll-Ty x)
  split_variables (split_variable v fs) = sym (ap variables (rolls-Var v) ∙ variables_var v)
  split_variables (split_application name e m) = met_variables m
  split_variables (split_record e m) = met_variables m
  split_variables (split_tuple {ps} d each) = pieces_variables each
      ∙ sym (ap variables (rolls-Tup ps) ∙ variables_tup ps)
  split_variables (split_arrow {p} {q} {ms} {ns} e s m n) =
      appended ms ns (at_out p (split_variables m)) (at_out q (split_variables n)) ∙ arrow_variables p q
  split_variables (split_other {p} {q} {ms} {ns} i m n) =
      appended ms ns (at_out p (split_variables m)) (at_out q (split_variables n)) ∙ arrow_variables p q

  pieces_variables : {ps : List Ty} {pieces : List (List Factor)} {word : List ℕ} {ms : List Meeting}
      → SplitEach ps pieces word ms → variables_of ms ≡ concatenated (map variables ps)
  pieces_variables split_none = refl
  pieces_variables (split_more {p} {ms} {ns} m each) =
      appended ms ns (at_out p (split_variables m)) (pieces_variables each)

-- so their numbers are below, for a scheme
is_below : (m n : ℕ) → nat_lt m n ≡ true → m < n
is_below m n e = grind (arith, nat_tests, e)

one_below : (n : ℕ) (v : VarId) → allows n true v ≡ true → v.n < n
one_below n v e = is_below v.n n (both (nat_lt v.n n) _ e).0

all_below : (n : ℕ) (ms : List Meeting) → all_true (map (allows n true) (variables_of ms)) ≡ true
    → EachOf (IsBelow n) ms
all_below n [] e = tt
all_below n (m ∷ ms) e = let r = both (allows n true (variable_of m)) _ e in
    (one_below n (variable_of m) r.0, all_below n ms r.1)

below_listed : (n : ℕ) (t : Ty) → VariablesBelow n t → all_true (map (allows n true) (variables t)) ≡ true
below_listed n t e = sym (each_variable_is_listed (allows n true) t) ∙ e

pub split_below : (s : Scheme) → IsScheme s → {fs : List Factor} {word : List ℕ} {ms : List Meeting}
    → Splits (out-Ty s.body) fs word ms → EachOf (IsBelow s.vars) ms
split_below s is {ms} d =
    all_below s.vars ms (subst (λ vs. all_true (map (allows s.vars true) vs) ≡ true)
    (sym (at_out s.body (split_variables d)))
    (below_listed s.vars s.body (scheme_variables_below s is)))

occurring_step : (is : VarId → Bool) (v w : VarId) (b c : Bool) → same_variable v w ≡ b → is w ≡ true
    → (c ≡ true → is v ≡ true) → (b || c) ≡ true → is v ≡ true
occurring_step is v w true c e i go o = ap is (same_is v w e) ∙ i
occurring_step is v w false c e i go o = go o

occurring_one : (is : VarId → Bool) (v : VarId) (vs : List VarId) → all_true (map is vs) ≡ true → occurs v vs ≡ true
    → is v ≡ true
occurring_one is v [] all o = absurd (true≢false (sym o))
occurring_one is v (w ∷ ws) all o = let r = both (is w) _ all in
    occurring_step is v w (same_variable v w) (occurs v ws) refl r.0 (occurring_one is v ws r.1) o

pub occurring_below : (s : Scheme) → IsScheme s → (v : VarId) → IsTrue (occurs v (variables s.body)) → v.n < s.vars
occurring_below s is v o =
    one_below s.vars v (occurring_one (allows s.vars true) v (variables s.body)
    (below_listed s.vars s.body (scheme_variables_below s is)) o)
