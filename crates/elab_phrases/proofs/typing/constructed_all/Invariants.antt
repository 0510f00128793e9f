use Rattle.std.proofs.Common.{◌≡◌, drop}
use Rattle.elab_rules.specs.Standing.{IsSettledType, Mentions, Sees}
use Rattle.elab_rules.specs.Types.{constructed_all, constructed_on}
use Rattle.elab_rules.specs.Views.{place_by_now, state_of}
use Rattle.elab_phrases.proofs.typing.constructed_all.Given as goal

abbrev pub invariant-loop-token : goal.invariant-loop-token
invariant-loop-token l = record {
  constructed : constructed_on (place_by_now l.fn.progress l.place) l.t (drop l.token-index l.others) (state_of l.progress) ≡ constructed_all (place_by_now l.fn.progress l.place) l.fn.arguments l.constructors (state_of l.fn.progress);
  settled : IsSettledType l.progress.table l.t;
  sees : Sees l.progress l.place.site l.place.own.entries.now;
  mentions : Mentions l.fn.progress l.progress;
}
