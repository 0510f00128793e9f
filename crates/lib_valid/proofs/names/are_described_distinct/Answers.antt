use Rattle.std.proofs.Common.{◌+◌, Bool, List, ℕ, ap, drop, not, ◌∙◌, take}
use Rattle.std.proofs.lemmas.Bool.{false≢true}
use Rattle.std.specs.List.{filter}
use Rattle.type_core.specs.declared.names.TypeName.{TypeName}
use Rattle.lib_valid.proofs.Distinct.{filtered_more, filtered_parted, filtered_same, one_more, passed_over, twice}
use Rattle.lib_valid.proofs.names.are_described_distinct.Goals.{else-not-name-via-then-not-name+in_ok-add+else-not-branch, else-not-name-via-else-not-name}
use Rattle.lib_valid.proofs.names.are_described_distinct.Goals as goal

abbrev is_described : TypeName → Bool
is_described name = not name.external

abbrev path_of : TypeName → List ℕ
path_of name = name.path

pub returns-then-not-branch : goal.returns-then-not-branch
returns-then-not-branch c =
    let names = c.args.names.now in
    let i = c.loop-name.name-index in
    let name = c.name-item.result in
    record {
      exact = (
        λ e. absurd (false≢true e),
        λ distinct. absurd (twice path_of (filter is_described (take i names)) name c.loop-name.paths
            c.as_slice.result.now
            c.in_ok-add.field-0 c.loop-name.invariant c.as_slice.ensures.value c.in_ok-add.ensures.new
            (filter is_described (drop (i + 1) names)) (filter is_described names)
            (filtered_parted names i name c.loop-name-test.true c.name-item.is is_described
            (ap not c.if-not-name.true))
            c.if-not-branch.true distinct),
      );
    }

pub loop-name-preserved : goal.loop-name-preserved
loop-name-preserved c =
    let names = c.args.names.now in
    let i = c.loop-name.name-index in
    let name = c.name-item.result in
    let done = filter is_described (take i names) in
    let next = filter is_described (take (i + 1) names) in
    elim c.else-not-name.branch [
      | else-not-name-via-then-not-name+in_ok-add+else-not-branch w ↦
          one_more path_of done name c.loop-name.paths w.as_slice.result.now w.in_ok-add.field-0 c.loop-name.invariant
          w.as_slice.ensures.value w.in_ok-add.ensures.new next c.else-not-name.paths
          (filtered_more names i name c.loop-name-test.true c.name-item.is is_described (ap not w.if-not-name.true))
          w.if-not-branch.false (w.paths-is ∙ w.in_ok-add.ensures.added)
      | else-not-name-via-else-not-name w ↦
          passed_over path_of done next c.loop-name.paths c.else-not-name.paths c.loop-name.invariant
          (filtered_same names i name c.loop-name-test.true c.name-item.is is_described (ap not w.if-not-name.false))
          w.paths-is
    ]
