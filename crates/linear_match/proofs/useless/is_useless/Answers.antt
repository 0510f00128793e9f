use Rattle.std.proofs.Common.{◌%◌, ◌+◌, get_or, length, ◌∙◌}
use Rattle.std.proofs.lemmas.Option.{slice_get-get_or}
use Rattle.linear_match.proofs.Partners.{lacking, place_below, place_held, short_of_atoms, taken_by_none}
use Rattle.linear_match.proofs.useless.is_useless.Goals as goal

pub returns-then-not-may_take : goal.returns-then-not-may_take
returns-then-not-may_take c = record {
  none = λ e. taken_by_none c.args.dealing.now c.args.at c.args.letter
      (get_or c.args.dealing.now.factors.now c.args.at c.index-dealing-at.result)
      (slice_get-get_or c.args.dealing.now.factors.now c.args.at c.index-dealing-at.result c.requires.more)
      (get_or c.args.dealing.now.parts.now ((c.args.at + c.args.letter) % length c.args.dealing.now.parts.now)
      c.index-dealing-place.result) c.as_slice-piece.result.now
      (slice_get-get_or c.args.dealing.now.parts.now
      ((c.args.at + c.args.letter) % length c.args.dealing.now.parts.now) c.index-dealing-place.result
      (place_below c.args.dealing.now c.args.at c.args.letter c.requires.below))
      (place_held c.args.dealing.now c.args.at c.args.letter c.requires.below c.requires.pieces _ _
      (c.as_slice-piece.ensures.value ∙ c.index.ensures))
      (c.may_take.ensures.none c.if-not-may_take.true);
}

pub returns-then-branch : goal.returns-then-branch
returns-then-branch c = record {
  none = λ e. lacking c.args.dealing.now c.args.at c.args.letter
      (get_or c.args.dealing.now.factors.now c.args.at c.index-dealing-at.result)
      (slice_get-get_or c.args.dealing.now.factors.now c.args.at c.index-dealing-at.result c.requires.more)
      c.as_slice-piece.result.now
      (place_held c.args.dealing.now c.args.at c.args.letter c.requires.below c.requires.pieces _ _
      (c.as_slice-piece.ensures.value ∙ c.index.ensures)) (c.in_ok-lacks_partner.ensures.value c.if-branch.true);
}

pub returns : goal.returns
returns c = record {
  none = λ e.
      let short = c.lacks_atoms.ensures.value e in
      short_of_atoms c.args.dealing.now c.args.at c.args.letter
      (get_or c.args.dealing.now.factors.now c.args.at c.index-dealing-at.result)
      (slice_get-get_or c.args.dealing.now.factors.now c.args.at c.index-dealing-at.result c.requires.more)
      short.0 short.1 short.2;
}
