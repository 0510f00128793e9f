use Rattle.std.proofs.Common.{◌↔◌, IsTrue}
use Rattle.std.proofs.lemmas.Bool.{false≢true, iff_false}
use Rattle.std.proofs.lemmas.Result.{IfOk-weaker}
use Rattle.type_core.specs.ValidLibrary.{IsValidLibrary}
use Rattle.lib_valid.specs.Parts.{HasValidNames}
use Rattle.lib_valid.proofs.Found.{found_tycons, found_units, names_decide, needs_members, no_tycons, words}
use Rattle.lib_valid.proofs.valid.is_valid_library.Goals as goal

pub valid_tycons-requires : goal.valid_tycons-requires
valid_tycons-requires c =
    let library = c.args.lib.now in
    record {
      words = words library c.in-Some.units
          (found_units library c.in_ok-units.field-0 c.in-Some.units c.in_ok-units.ensures.exact c.in-Some.is);
    }

pub returns-in-None-2 : goal.returns-in-None-2
returns-in-None-2 c =
    let library = c.args.lib.now in
    let units = found_units library c.in_ok-units.field-0 c.in-Some.units c.in_ok-units.ensures.exact c.in-Some.is in
    record {
      exact = (
        λ e. absurd (false≢true e),
        λ valid. absurd (no_tycons library c.in-Some.units units c.in_ok-tycons.field-0 c.in_ok-tycons.ensures.exact
            c.in-None-2.is valid),
      );
    }

pub has_valid_members-requires : goal.has_valid_members-requires
has_valid_members-requires c =
    let library = c.args.lib.now in
    record {
      words = words library c.in-Some.units
          (found_units library c.in_ok-units.field-0 c.in-Some.units c.in_ok-units.ensures.exact c.in-Some.is);
    }

pub returns-then-not-branch : goal.returns-then-not-branch
returns-then-not-branch c =
    let library = c.args.lib.now in
    let units = found_units library c.in_ok-units.field-0 c.in-Some.units c.in_ok-units.ensures.exact c.in-Some.is in
    record {
      exact = (
        λ e. absurd (false≢true e),
        λ valid. absurd (iff_false c.in_ok-has_valid_members.ensures.exact c.if-not-branch.true
            (needs_members library c.in-Some.units units valid)),
      );
    }

pub has_valid_names-requires : goal.has_valid_names-requires
has_valid_names-requires c =
    let library = c.args.lib.now in
    record {
      words = words library c.in-Some.units
          (found_units library c.in_ok-units.field-0 c.in-Some.units c.in_ok-units.ensures.exact c.in-Some.is);
    }

pub returns : goal.returns
returns c =
    let library = c.args.lib.now in
    let units = found_units library c.in_ok-units.field-0 c.in-Some.units c.in_ok-units.ensures.exact c.in-Some.is in
    let tycons = found_tycons library c.in-Some.units units c.in_ok-tycons.field-0 c.in-Some-2.tycons
    c.in_ok-tycons.ensures.exact c.in-Some-2.is in
    let members = c.in_ok-has_valid_members.ensures.exact.0 c.if-not-branch.false in
    let decide = names_decide library c.in-Some.units units c.in-Some-2.tycons tycons members c.weigh.result
    c.weigh.ensures.value c.if-weigh-gt-MAX_WEIGHT.false in
    record {
      exact = IfOk-weaker c.has_valid_names.result
          (λ valid. IsTrue valid ↔ HasValidNames c.in-Some.units c.in-Some-2.tycons library)
          (λ valid. IsTrue valid ↔ IsValidLibrary library)
          (λ valid told. (λ e. decide.0 (told.0 e), λ h. told.1 (decide.1 h))) c.has_valid_names.ensures.exact;
    }
