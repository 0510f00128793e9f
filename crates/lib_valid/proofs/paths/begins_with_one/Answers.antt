use Rattle.std.proofs.Common.{◌+◌, drop, take}
use Rattle.std.proofs.lemmas.Bool.{false≢true}
use Rattle.lib_valid.proofs.FirstParts.{first_begins, none_begins}
use Rattle.lib_valid.proofs.paths.begins_with_one.Goals as goal

pub returns-in-None : goal.returns-in-None
returns-in-None c = record {
  exact = (
    λ h. absurd (false≢true h),
    λ b. absurd (none_begins c.args.identifiers.now c.requires.words c.args.path.now c.in-None.ensures.value b),
  );
}

pub returns-in-Some : goal.returns-in-Some
returns-in-Some c =
    let path = c.args.path.now in
    let dot = c.in-Some.dot in
    let begins = first_begins c.args.identifiers.now c.requires.words path (take dot path) (drop (dot + 1) path)
    c.in-Some.ensures.value.1 in
    record { exact = (λ h. begins.0 (c.has.ensures.value.0 h), λ b. c.has.ensures.value.1 (begins.1 b)) }
