use Rattle.std.proofs.Common.{◌+◌, Bool, ap, drop, ◌∙◌, refl, take}
use Rattle.std.proofs.lemmas.Bool.{false≢true}
use Rattle.std.specs.List.{filter}
use Rattle.type_core.specs.declared.names.TypeName.{TypeName}
use Rattle.type_core.specs.ValidLibrary.{path_and_arity}
use Rattle.lib_valid.proofs.Distinct.{distinct_passed, filtered_more, filtered_parted, filtered_same, one_more, passed_over, twice}
use Rattle.lib_valid.proofs.names.are_external_distinct.Goals.{else-name-via-then-name+in_ok-add+else-not-branch, else-name-via-else-name}
use Rattle.lib_valid.proofs.names.are_external_distinct.Goals as goal

abbrev is_external : TypeName → Bool
is_external name = name.external

pub returns-then-not-branch : goal.returns-then-not-branch
returns-then-not-branch c =
    let names = c.args.names.now in
    let i = c.loop-name.name-index in
    let name = c.name-item.result in
    record {
      exact = (
        λ e. absurd (false≢true e),
        λ distinct. absurd (twice path_and_arity (filter is_external (take i names)) name c.loop-name.pairs
            (c.as_slice.result.now, name.arity)
            c.in_ok-add.field-0 c.loop-name.invariant (ap (λ path. (path, name.arity)) c.as_slice.ensures.value)
            c.in_ok-add.ensures.new
            (filter is_external (drop (i + 1) names)) (filter is_external names)
            (filtered_parted names i name c.loop-name-test.true c.name-item.is is_external c.if-name.true)
            c.if-not-branch.true distinct),
      );
    }

pub loop-name-preserved : goal.loop-name-preserved
loop-name-preserved c =
    let names = c.args.names.now in
    let i = c.loop-name.name-index in
    let name = c.name-item.result in
    let done = filter is_external (take i names) in
    let next = filter is_external (take (i + 1) names) in
    elim c.else-name.branch [
      | else-name-via-then-name+in_ok-add+else-not-branch w ↦
          one_more path_and_arity done name c.loop-name.pairs (w.as_slice.result.now, name.arity) w.in_ok-add.field-0
          c.loop-name.invariant
          (ap (λ path. (path, name.arity)) w.as_slice.ensures.value) w.in_ok-add.ensures.new next c.else-name.pairs
          (filtered_more names i name c.loop-name-test.true c.name-item.is is_external w.if-name.true)
          w.if-not-branch.false (w.pairs-is ∙ w.in_ok-add.ensures.added)
      | else-name-via-else-name w ↦
          passed_over path_and_arity done next c.loop-name.pairs c.else-name.pairs c.loop-name.invariant
          (filtered_same names i name c.loop-name-test.true c.name-item.is is_external w.if-name.false) w.pairs-is
    ]

pub returns : goal.returns
returns c = record {
  exact = (
    λ e. distinct_passed path_and_arity is_external c.args.names.now c.loop-name.name-index
        c.loop-name-test.false c.loop-name.invariant.0,
    λ h. refl,
  );
}
