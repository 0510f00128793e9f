use Rattle.std.proofs.Common.{true≢false, refl, sym, ap, ◌∙◌, subst, option_copied}
use Rattle.std.proofs.lemmas.Result.{IfOk-weaker}
use Rattle.linear_match.specs.search.Bindings.{meetings_of}
use Rattle.linear_match.specs.Meetings.{loosely}
use Rattle.linear_match.proofs.Good.{Serves, agree_moved, good_by_list, good_by_nothing, good_by_type, list_by_good, nothing_by_good, type_by_good}
use Rattle.linear_match.proofs.bindings.allows_list.Goals as goal

-- the variable has an exact type
pub returns-then-not-serves : goal.returns-then-not-serves
returns-then-not-serves c =
    let e = sym c.exact_type.ensures.value ∙ ap option_copied c.in-Some.is in
    record {
      value = (
        λ h. absurd (true≢false (sym h)),
        λ g. absurd (true≢false (sym
            (c.serves.ensures.value.1
            (type_by_good (meetings_of c.args.met.now) (loosely c.args.v c.args.fs.now) _ e g).1)
            ∙ c.if-not-serves.true)),
      );
    }

pub returns-in-Some : goal.returns-in-Some
returns-in-Some c =
    let e = sym c.exact_type.ensures.value ∙ ap option_copied c.in-Some.is in
    let one = c.as_slice.ensures.value ∙ c.in_ok-gs.ensures.value in
    let ms = meetings_of c.args.met.now in
    let m = loosely c.args.v c.args.fs.now in
    record {
      value = IfOk-weaker c.agree.result _ _
          (λ r a. (
            λ h. good_by_type ms m _ e c.requires.good (agree_moved one c.as_slice-in-Some.ensures.value (a.0 h))
                (c.serves.ensures.value.0 c.if-not-serves.false),
            λ g. a.1 (agree_moved (sym one) (sym c.as_slice-in-Some.ensures.value) (type_by_good ms m _ e g).0),
          ))
          c.agree.ensures.value;
    }

-- it has none, but has met a list
pub returns-then-not-branch : goal.returns-then-not-branch
returns-then-not-branch c =
    let e = sym c.exact_type.ensures.value ∙ ap option_copied c.in_default.is in
    let f = sym c.loose_factors.ensures.value ∙ ap option_copied c.in-Some-loose_factors.is in
    record {
      value = (
        λ h. absurd (true≢false (sym h)),
        λ g. absurd (true≢false (sym (c.in_ok-agree.ensures.value.1
            (agree_moved (sym c.as_slice-in-Some-loose_factors.ensures.value)
            (sym c.as_slice-in-Some-loose_factors-2.ensures.value)
            (list_by_good (meetings_of c.args.met.now) (loosely c.args.v c.args.fs.now) _ e f g).0))
            ∙ c.if-not-branch.true)),
      );
    }

pub returns-in-Some-loose_factors : goal.returns-in-Some-loose_factors
returns-in-Some-loose_factors c =
    let e = sym c.exact_type.ensures.value ∙ ap option_copied c.in_default.is in
    let f = sym c.loose_factors.ensures.value ∙ ap option_copied c.in-Some-loose_factors.is in
    let ms = meetings_of c.args.met.now in
    let m = loosely c.args.v c.args.fs.now in
    record {
      value = (
        λ h. good_by_list ms m _ e f c.requires.good refl
            (agree_moved c.as_slice-in-Some-loose_factors.ensures.value
            c.as_slice-in-Some-loose_factors-2.ensures.value
            (c.in_ok-agree.ensures.value.0 c.if-not-branch.false))
            (subst (Serves c.args.names.now m) c.in_ok-t.ensures.value
            (c.serves-in-Some-loose_factors.ensures.value.0 h)),
        λ g. c.serves-in-Some-loose_factors.ensures.value.1
            (subst (Serves c.args.names.now m) (sym c.in_ok-t.ensures.value) (list_by_good ms m _ e f g).1),
      );
    }

-- it has met nothing
pub returns : goal.returns
returns c =
    let e = sym c.exact_type.ensures.value ∙ ap option_copied c.in_default.is in
    let f = sym c.loose_factors.ensures.value ∙ ap option_copied c.in_default-loose_factors.is in
    let ms = meetings_of c.args.met.now in
    let m = loosely c.args.v c.args.fs.now in
    record {
      value = (
        λ h. good_by_nothing ms m e f c.requires.good
            (subst (Serves c.args.names.now m) c.in_ok-t-2.ensures.value (c.serves-2.ensures.value.0 h)),
        λ g. c.serves-2.ensures.value.1
            (subst (Serves c.args.names.now m) (sym c.in_ok-t-2.ensures.value) (nothing_by_good ms m e f g)),
      );
    }
