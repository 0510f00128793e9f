use Rattle.std.proofs.Common.{◌≤◌, map, drop}
use Rattle.std.specs.List.{concat}
use Rattle.isosearch.proofs.Saying.{Said}
use Rattle.isosearch.proofs.lines.say.Given as goal

abbrev pub invariant-loop-piece : goal.invariant-loop-piece
invariant-loop-piece g l = record {
  said : Said (g.E.Sink.written l.initial.err) (g.E.Sink.written l.err) (concat (map (λ piece. piece.now) (drop l.piece-index l.pieces))) (concat (map (λ piece. piece.now) l.pieces));
  later : g.E.Sink.faults l.initial.err ≤ g.E.Sink.faults l.err;
}
