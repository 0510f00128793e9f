use Rattle.std.proofs.Common.{true≢false, refl, sym, ap, ◌∙◌, inl, inr, option_copied}
use Rattle.std.proofs.lemmas.Result.{IfOk-weaker}
use Rattle.linear_match.specs.search.Bindings.{meetings_of}
use Rattle.linear_match.specs.Meetings.{exactly}
use Rattle.linear_match.proofs.Good.{agree_moved, good_by_first_type, good_by_nothing, good_by_type, list_by_good, marked_by_good, no_mark, others_by_good, some_mark, type_by_good}
use Rattle.linear_match.proofs.bindings.allows_type.Goals.{else-wants_equality-via-then-wants_equality+else-not-admits_equality, else-wants_equality-via-else-wants_equality}
use Rattle.linear_match.proofs.bindings.allows_type.Goals as goal

-- the variable has an exact type
pub returns-then-not-serves : goal.returns-then-not-serves
returns-then-not-serves c =
    let e = sym c.exact_type.ensures.value ∙ ap option_copied c.in-Some.is in
    record {
      value = (
        λ h. absurd (true≢false (sym h)),
        λ g. absurd (true≢false (sym
            (c.serves.ensures.value.1
            (type_by_good (meetings_of c.args.met.now) (exactly c.args.v c.args.t.now) _ e g).1)
            ∙ c.if-not-serves.true)),
      );
    }

pub returns-in-Some : goal.returns-in-Some
returns-in-Some c =
    let e = sym c.exact_type.ensures.value ∙ ap option_copied c.in-Some.is in
    record {
      value = (
        λ h. good_by_type (meetings_of c.args.met.now) (exactly c.args.v c.args.t.now) _ e c.requires.good
            (c.same.ensures.value.0 h) (c.serves.ensures.value.0 c.if-not-serves.false),
        λ g. c.same.ensures.value.1
            (type_by_good (meetings_of c.args.met.now) (exactly c.args.v c.args.t.now) _ e g).0,
      );
    }

-- it has none
pub returns-then-not-serves-2 : goal.returns-then-not-serves-2
returns-then-not-serves-2 c =
    let e = sym c.exact_type.ensures.value ∙ ap option_copied c.in_default.is in
    record {
      value = (
        λ h. absurd (true≢false (sym h)),
        λ g. absurd (true≢false (sym
            (c.serves-2.ensures.value.1 (marked_by_good (meetings_of c.args.met.now) c.args.v c.args.t.now e g))
            ∙ c.if-not-serves-2.true)),
      );
    }

pub returns-in_default-loose_factors : goal.returns-in_default-loose_factors
returns-in_default-loose_factors c =
    let e = sym c.exact_type.ensures.value ∙ ap option_copied c.in_default.is in
    let f = sym c.loose_factors.ensures.value ∙ ap option_copied c.in_default-loose_factors.is in
    record {
      value = (
        λ h. good_by_nothing (meetings_of c.args.met.now) (exactly c.args.v c.args.t.now) e f c.requires.good
            (c.serves-2.ensures.value.0 c.if-not-serves-2.false),
        λ g. refl,
      );
    }

-- it has met a list
pub returns-then-not-admits_equality : goal.returns-then-not-admits_equality
returns-then-not-admits_equality c =
    let e = sym c.exact_type.ensures.value ∙ ap option_copied c.in_default.is in
    let f = sym c.loose_factors.ensures.value ∙ ap option_copied c.in-Some-loose_factors.is in
    let k = some_mark c.args.v.n (meetings_of c.args.met.now)
    (sym c.wants_equality.ensures.value ∙ c.if-wants_equality.true) in
    record {
      value = (
        λ h. absurd (true≢false (sym h)),
        λ g. absurd (true≢false (sym
            (c.admits_equality.ensures.value.1
            (others_by_good (meetings_of c.args.met.now) (exactly c.args.v c.args.t.now) _ e f g k.0 k.1 k.2 k.3))
            ∙ c.if-not-admits_equality.true)),
      );
    }

pub returns : goal.returns
returns c =
    let e = sym c.exact_type.ensures.value ∙ ap option_copied c.in_default.is in
    let f = sym c.loose_factors.ensures.value ∙ ap option_copied c.in-Some-loose_factors.is in
    let one = c.as_slice.ensures.value ∙ c.in_ok-fs.ensures.value in
    let ms = meetings_of c.args.met.now in
    let m = exactly c.args.v c.args.t.now in
    record {
      value = IfOk-weaker c.agree.result _ _
          (λ r a. (
            λ h. good_by_first_type ms m _ e f c.requires.good c.args.t.now refl
                (agree_moved one c.as_slice-2.ensures.value (a.0 h))
                (c.serves-2.ensures.value.0 c.if-not-serves-2.false)
                (elim c.else-wants_equality.branch [
                  | else-wants_equality-via-then-wants_equality+else-not-admits_equality w ↦ inr
                      (w.admits_equality.ensures.value.0 w.if-not-admits_equality.false)
                  | else-wants_equality-via-else-wants_equality w ↦ inl
                      (no_mark c.args.v.n ms (sym c.wants_equality.ensures.value ∙ w.if-wants_equality.false))
                ]),
            λ g. a.1 (agree_moved (sym one) (sym c.as_slice-2.ensures.value) (list_by_good ms m _ e f g).0),
          ))
          c.agree.ensures.value;
    }
