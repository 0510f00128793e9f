use Rattle.std.proofs.Common.{Some, ap, arith, get_or, slice_get, subst, sym, ◌∙◌, ◌+◌, ◌<◌}
use Rattle.std.proofs.lemmas.Bool.{ltb-true}
use Rattle.std.proofs.lemmas.List.{take_rest}
use Rattle.std.proofs.lemmas.Option.{slice_get-get_or}
use Rattle.linear_match.specs.search.Needs.{held}
use Rattle.linear_match.proofs.needs.lacks_head.Goals as goal

pub returns : goal.returns
returns c = record {
  value = λ e. record {
    head = c.args.head;
    part = get_or c.args.dealing.now.parts.now c.args.k c.index-dealing-k.result;
    stands = slice_get-get_or c.args.dealing.now.parts.now c.args.k c.index-dealing-k.result c.requires.below;
    piece = c.as_slice.result.now;
    has = slice_get-get_or c.args.dealing.now.pieces.items c.args.k _
        (subst (λ n. c.args.k < n) (sym c.requires.pieces) c.requires.below)
        ∙ ap Some (sym (c.as_slice.ensures.value ∙ c.index.ensures));
    more = omega (
      arith,
      ltb-true 0 c.missing_after_all.result e,
      c.count_needed-needed.ensures.least,
      c.missing_after_all-missing.ensures.value,
      c.missing_after_all.ensures.value,
      ap (held c.args.head) (take_rest c.args.dealing.now.factors.now (c.args.at + 1)),
    );
  };
}
