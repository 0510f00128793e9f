use Rattle.std.proofs.Common.{◌≡◌, ◌++◌, ◌∷◌, ◌<◌, ◌-◌, drop, drop_of_length-le, length, take, refl, sym, ap, ap₂, ◌∙◌, subst, ◌^◌, arith}
use Rattle.std.proofs.Math.Seq.{take-append_seam, take-length}
use Rattle.type_core.specs.Size.{size_of}
use Rattle.linear_match.specs.search.Tasks.{IsSmall, patterns_of, pieces_of}
use Rattle.linear_match.proofs.MeetAll.{before_then}
use Rattle.linear_match.proofs.Tasked.{all_more, drop_before, part_small, patterns_split, pieces_split}
use Rattle.linear_match.proofs.search.push_pieces.Goals as goal

pub loop-i-init : goal.loop-i-init
loop-i-init c = record {
  count = refl;
  patterns = ap (λ xs. xs ++ patterns_of c.args.tasks.now)
      (sym (drop_of_length-le c.args.dealing.now.parts.now (omega arith)));
  pieces = ap (λ xs. xs ++ pieces_of c.args.tasks.now)
      (sym (drop_of_length-le c.args.dealing.now.pieces.items (omega (arith, c.requires.pieces))));
  grown = take-length c.args.tasks.now;
  small = c.requires.small;
}

pub loop-i-preserved : goal.loop-i-preserved
loop-i-preserved c =
    let parts = c.args.dealing.now.parts.now in
    let within : length parts - 1 - c.loop-i.i < length parts = omega (arith, c.loop-i-test.true) in
    record {
      count = refl;
      patterns = patterns_split c.loop-i.tasks _ c.in_ok-push.ensures.pushed
          ∙ ap₂ ◌∷◌ (sym c.index-dealing-k.is) c.loop-i.invariant.patterns
          ∙ ap (λ xs. xs ++ patterns_of c.args.tasks.now)
          (drop_before parts (length parts) c.loop-i.i c.index-dealing-k.result refl c.loop-i-test.true
          c.index-dealing-k.is);
      pieces = pieces_split c.loop-i.tasks _ c.in_ok-push.ensures.pushed
          ∙ ap₂ ◌∷◌ (c.in_ok-copy_factors.ensures.value ∙ c.as_slice.ensures.value) c.loop-i.invariant.pieces
          ∙ ap (λ xs. xs ++ pieces_of c.args.tasks.now)
          (drop_before c.args.dealing.now.pieces.items (length parts) c.loop-i.i c.index.result.now
          (sym c.requires.pieces) c.loop-i-test.true c.index.ensures);
      grown = before_then c.args.tasks.now c.loop-i.tasks c.push.new.self c.loop-i.invariant.grown
          (ap (take (length c.loop-i.tasks)) c.in_ok-push.ensures.pushed ∙ take-append_seam c.loop-i.tasks _);
      small = all_more IsSmall c.loop-i.tasks _ c.in_ok-push.ensures.pushed c.loop-i.invariant.small
          (subst (λ p. size_of p < 2 ^ 32) c.index-dealing-k.is
          (part_small parts (length parts - 1 - c.loop-i.i) c.index-dealing-k.result c.requires.small_parts within
          c.index-dealing-k.is));
    }

pub returns-clause-patterns : goal.returns-clause-patterns
returns-clause-patterns c =
    let none : length c.args.dealing.now.parts.now - c.loop-i.i ≡ 0 = omega (arith, c.loop-i-test.false) in
    c.loop-i.invariant.patterns ∙ ap (λ k. drop k c.args.dealing.now.parts.now ++ patterns_of c.args.tasks.now) none

pub returns-clause-pieces : goal.returns-clause-pieces
returns-clause-pieces c =
    let none : length c.args.dealing.now.parts.now - c.loop-i.i ≡ 0 = omega (arith, c.loop-i-test.false) in
    c.loop-i.invariant.pieces ∙ ap (λ k. drop k c.args.dealing.now.pieces.items ++ pieces_of c.args.tasks.now) none

pub returns-clause-grown : goal.returns-clause-grown
returns-clause-grown c = c.loop-i.invariant.grown

pub returns-clause-small : goal.returns-clause-small
returns-clause-small c = c.loop-i.invariant.small
