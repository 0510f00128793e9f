use Rattle.std.proofs.Common.{◌≡◌, ℕ, List, map, take, bytes_eq}
use Rattle.elab_types.specs.Finding.{place_of}
use Rattle.elab_types.specs.Places.{place_at}
use Rattle.elab_types.specs.Sources.{first_token, texts_of}
use Rattle.elab_types.proofs.texts.first_tokens.Given as goal

abbrev pub invariant-loop-token : goal.invariant-loop-token
invariant-loop-token l = record {
  firsts : l.firsts ≡ map (first_token (texts_of l.bytes l.tokens)) (take l.token (texts_of l.bytes l.tokens));
  met : (text : List ℕ) → place_at l.met text ≡ place_of (bytes_eq text) (take l.token (texts_of l.bytes l.tokens));
}
