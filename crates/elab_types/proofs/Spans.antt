-- The tokens of a text start within it.
use Rattle.std.proofs.Common.{ℕ, ◌<◌, ◌≤◌, List, length, get_or, arith}
use Rattle.std.specs.List.{All}
use Rattle.std.proofs.lemmas.List.Elements.{All-get_or}
use Rattle.sml_lexer.specs.declared.token.Token.{Token}

-- each token has bytes, and they lie in the text
abbrev pub SpansInside : List ℕ → List Token → Type 0
SpansInside bytes ts = All (λ t. (t.span.start < t.span.end) × (t.span.end ≤ length bytes)) ts

pub start_within : (bytes : List ℕ) (ts : List Token) (k : ℕ) (d : Token) → SpansInside bytes ts → k < length ts → (get_or ts k d).span.start ≤ length bytes
start_within bytes ts k d inside within =
    let Inside = λ (t : Token). (t.span.start < t.span.end) × (t.span.end ≤ length bytes) in
    let here = All-get_or Inside ts k d within inside in
    omega (arith, here.0, here.1)
