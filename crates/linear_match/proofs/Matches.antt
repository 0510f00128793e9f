-- A word that succeeds binds an instance that matches, and for each instance that matches a word succeeds.
use Rattle.std.proofs.Common.{◌≡◌, ℕ, ◌<◌, ◌&&◌, true, IsTrue, All, List, [], ◌∷◌, length, map, refl, sym, ap₂, ◌∙◌, subst}
use Rattle.std.proofs.lemmas.List.Elements.{All-map}
use Rattle.std.proofs.lemmas.List.FromFn.{length-map-range_with_len}
use Rattle.std.specs.List.{range_with_len}
use Rattle.type_core.specs.declared.names.TypeName.{TypeName}
use Rattle.type_core.specs.declared.ty.VarId.{VarId}
use Rattle.type_core.specs.declared.ty.Scheme.{Scheme}
use Rattle.type_core.specs.declared.ty.Ty.{Ty}
use Rattle.type_core.specs.declared.ty.Ty.TheViews.{out-Ty}
use Rattle.type_core.specs.AdmitsEquality.{AdmitsEquality}
use Rattle.type_core.specs.Lists.{all_true}
use Rattle.type_core.specs.Schemes.{IsScheme}
use Rattle.type_core.specs.Substitution.{field_substituted, substituted}
use Rattle.type_core.specs.Types.{IsType}
use Rattle.type_core.specs.Variables.{occurs, variables}
use Rattle.type_core.proofs.EachVariable.{each_variable_is_listed}
use Rattle.type_core.proofs.Trees.{EachOf}
use Rattle.type_core.proofs.Places.{occurs_here, occurs_later}
use Rattle.iso_axioms.proofs.Replaced.{keeps_types, substitution_replaces}
use Rattle.iso_normal.specs.declared.factor.Factor.{Factor}
use Rattle.iso_normal.specs.Agreement.{Agree}
use Rattle.iso_normal.specs.Factors.{AreFactors, factors}
use Rattle.iso_normal.proofs.Complete.{agree_linearly_isomorphic}
use Rattle.iso_normal.proofs.Reified.{are_factors}
use Rattle.iso_normal.proofs.Sound.{linearly_isomorphic_agree}
use Rattle.linear_match.specs.Instances.{IsMatch, IsOverVariables, RespectsMarks}
use Rattle.linear_match.specs.LeastWord.{Succeeds}
use Rattle.linear_match.specs.Meetings.{Meeting, ObeysAll, binding, bindings}
use Rattle.linear_match.specs.Splits.{Splits}
use Rattle.linear_match.proofs.Bound.{IsBelow, consistent_obeyed, obeyed_consistent, type_bound}
use Rattle.linear_match.proofs.Complete.{Matched, found}
use Rattle.linear_match.proofs.Marked.{binding_admits}
use Rattle.linear_match.proofs.MetVariables.{occurring_below, split_below}
use Rattle.linear_match.proofs.Passed.{IsHereditary, binding_has, factors_have, hereditary_passes, split_passes, split_read}
use Rattle.linear_match.proofs.Properties.{types_hereditary, variables_hereditary}
use Rattle.linear_match.proofs.Sound.{follows, given_out}

-- what obeys the meetings of a word is linearly isomorphic
pub split_agrees : (by : List Ty) (p : Ty) {fs : List Factor} {word : List ℕ} {ms : List Meeting} → AreFactors fs
    → Splits (out-Ty p) fs word ms → ObeysAll by ms → Agree (factors (substituted by p)) fs
split_agrees by p {fs} are s o = subst (λ t. Agree (factors t) fs) (given_out by p) (follows by are s o)

-- what the variables are bound to shares the properties of the type
bound_all : {P : Ty → Type 0} → IsHereditary P → {subject : Ty} → P subject
    → (count : ℕ) (p : Ty) {word : List ℕ} {ms : List Meeting} → Splits (out-Ty p) (factors subject) word ms
    → All P (bindings count ms)
bound_all {P} H {subject} has count p {ms} s =
    let holds = split_passes (hereditary_passes H) s (factors_have H subject has) in
    All-map P (binding ms) (range_with_len 0 count) (λ k d l. binding_has H _ ms holds)

all_listed : (all vs : List VarId) → ((v : VarId) → occurs v vs ≡ true → occurs v all ≡ true)
    → all_true (map (λ v. occurs v all) vs) ≡ true
all_listed all [] h = refl
all_listed all (v ∷ vs) h = ap₂ ◌&&◌ (h v (occurs_here v vs)) (all_listed all vs (λ w o. h w (occurs_later w v vs o)))

over_itself : (t : Ty) → IsOverVariables (variables t) t
over_itself t = each_variable_is_listed (λ v. occurs v (variables t)) t
    ∙ all_listed (variables t) (variables t) (λ v o. o)

module _ {names : List TypeName} {pattern : Scheme} {subject : Ty} (scheme : IsScheme pattern) where
  pub obeyed_by_bindings : {word : List ℕ} {ms : List Meeting} → Succeeds names pattern subject word ms
      → ObeysAll (bindings pattern.vars ms) ms
  obeyed_by_bindings s =
      consistent_obeyed pattern.vars _ s.consistent (split_read s.splits (are_factors subject))
      (split_below pattern scheme s.splits)

  pub success_matches : IsType pattern.body → IsType subject → {word : List ℕ} {ms : List Meeting}
      → Succeeds names pattern subject word ms → IsMatch names pattern subject (bindings pattern.vars ms)
  success_matches p q {ms} s =
      let by : List Ty = bindings pattern.vars ms in
      let types : All IsType by = bound_all types_hereditary q pattern.vars pattern.body s.splits in
      record {
        instance = record {
          one_each = length-map-range_with_len (binding ms) 0 pattern.vars;
          types = types;
          over =
              bound_all (variables_hereditary (λ v. occurs v (variables subject))) (over_itself subject) pattern.vars
              pattern.body s.splits;
          marks = s.marks;
        };
        isomorphic = agree_linearly_isomorphic (substituted by pattern.body) subject
            (keeps_types (substituted by) (field_substituted by) (substitution_replaces by types) pattern.body p) q
            (split_agrees by pattern.body (are_factors subject) s.splits (obeyed_by_bindings s));
      }

  module _ {by : List Ty} (m : IsMatch names pattern subject by) where
    pub matched : Matched by (out-Ty pattern.body) (factors subject)
    matched = found by pattern.body (factors subject) (linearly_isomorphic_agree m.isomorphic)

    below : (v : VarId) → IsTrue (occurs v (variables pattern.body)) → v.n < length by
    below v o = subst (λ n. v.n < n) (sym m.instance.one_each) (occurring_below pattern scheme v o)

    bound_marks : RespectsMarks names pattern.body (bindings pattern.vars matched.meetings)
    bound_marks v o e =
        subst (AdmitsEquality names)
        (sym (type_bound pattern.vars matched.meetings v (occurring_below pattern scheme v o)))
        (binding_admits names by matched.meetings matched.obeys v (below v o) (m.instance.marks v o e))

    pub match_succeeds : Succeeds names pattern subject matched.word matched.meetings
    match_succeeds = record {
      splits = matched.split;
      consistent =
          obeyed_consistent by matched.meetings
          (subst (λ n. EachOf (IsBelow n) matched.meetings) (sym m.instance.one_each)
          (split_below pattern scheme matched.split)) matched.obeys;
      marks = bound_marks;
    }

    pub some_word : (word : List ℕ) × (ms : List Meeting) × Succeeds names pattern subject word ms
    some_word = (matched.word, matched.meetings, match_succeeds)
