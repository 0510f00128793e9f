use Rattle.std.proofs.Common.{◌+◌, drop, take}
use Rattle.std.proofs.lemmas.Bool.{false≢true}
use Rattle.lib_valid.proofs.Distinct.{one_more, parted, taken_more, twice}
use Rattle.lib_valid.proofs.members.have_distinct_paths.Goals as goal

pub returns-then-not-branch : goal.returns-then-not-branch
returns-then-not-branch c =
    let members = c.args.members.now in
    let i = c.loop-member.member-index in
    let member = c.member-item.result in
    record {
      exact = (
        λ e. absurd (false≢true e),
        λ distinct. absurd (twice (λ m. m.path) (take i members) member c.loop-member.paths c.as_slice.result.now
            c.in_ok-add.field-0 c.loop-member.invariant c.as_slice.ensures.value c.in_ok-add.ensures.new
            (drop (i + 1) members) members (parted members i member c.loop-member-test.true c.member-item.is)
            c.if-not-branch.true distinct),
      );
    }

pub loop-member-preserved : goal.loop-member-preserved
loop-member-preserved c =
    let members = c.args.members.now in
    let i = c.loop-member.member-index in
    let member = c.member-item.result in
    one_more (λ m. m.path) (take i members) member c.loop-member.paths c.as_slice.result.now c.in_ok-add.field-0
    c.loop-member.invariant c.as_slice.ensures.value c.in_ok-add.ensures.new
    (take (i + 1) members) c.add.new.self (taken_more members i member c.loop-member-test.true c.member-item.is)
    c.if-not-branch.false c.in_ok-add.ensures.added
