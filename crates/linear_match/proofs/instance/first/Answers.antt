use Rattle.std.proofs.Common.{refl, sym, ap, ◌∙◌, subst, length}
use Rattle.std.proofs.lemmas.List.FromFn.{length-map-range_with_len}
use Rattle.type_core.specs.Substitution.{VariablesBelow}
use Rattle.type_core.proofs.SchemeVariables.{scheme_variables_below}
use Rattle.linear_match.specs.Meetings.{binding, bindings}
use Rattle.linear_match.specs.search.Bindings.{meetings_of}
use Rattle.linear_match.proofs.Firsts.{found_first, none_first}
use Rattle.linear_match.proofs.OneFirst.{first_matches}
use Rattle.linear_match.proofs.instance.first.Goals as goal

pub returns-then-not-branch-clause-none : goal.returns-then-not-branch-clause-none
returns-then-not-branch-clause-none c = λ e by.
    none_first c.args.names.now c.args.pattern.now c.args.subject.now c.requires.scheme _ _ _
    c.new-tasks.ensures.empty c.in_ok-push.ensures.pushed refl c.in_ok-linear.ensures.value
    c.new-met.ensures.empty (c.in_ok-search.ensures.none c.if-not-branch.true) by

pub substitute-requires : goal.substitute-requires
substitute-requires c =
    let values = c.in_ok-subst.ensures.value
    ∙ ap (λ met. bindings c.args.pattern.now.vars (meetings_of met)) c.as_slice.ensures.value in
    record {
      below = subst (λ n. VariablesBelow n c.args.pattern.now.body)
          (sym (ap length values ∙ length-map-range_with_len (binding (meetings_of c.search.new.met)) 0
          c.args.pattern.now.vars)) (scheme_variables_below c.args.pattern.now c.requires.scheme);
    }

pub returns-clause-found : goal.returns-clause-found
returns-clause-found c =
    found_first c.args.names.now c.args.pattern.now c.args.subject.now c.requires.scheme _ _ _
    c.new-tasks.ensures.empty c.in_ok-push.ensures.pushed refl c.in_ok-linear.ensures.value
    c.in_ok-subst.subst c.in_ok-body.body c.new-met.ensures.empty c.new-word.ensures.empty
    (c.in_ok-subst.ensures.value
    ∙ ap (λ met. bindings c.args.pattern.now.vars (meetings_of met)) c.as_slice.ensures.value)
    c.in_ok-body.ensures.value
    (c.in_ok-search.ensures.found c.if-not-branch.false)

pub returns-clause-matches : goal.returns-clause-matches
returns-clause-matches c =
    first_matches c.requires.scheme c.requires.pattern_type c.requires.subject_type
    (found_first c.args.names.now c.args.pattern.now c.args.subject.now c.requires.scheme _ _ _
    c.new-tasks.ensures.empty c.in_ok-push.ensures.pushed refl c.in_ok-linear.ensures.value
    c.in_ok-subst.subst c.in_ok-body.body c.new-met.ensures.empty c.new-word.ensures.empty
    (c.in_ok-subst.ensures.value
    ∙ ap (λ met. bindings c.args.pattern.now.vars (meetings_of met)) c.as_slice.ensures.value)
    c.in_ok-body.ensures.value
    (c.in_ok-search.ensures.found c.if-not-branch.false))
