-- Bytes that are written piece by piece.
use Rattle.std.proofs.Common.{ℕ, ◌+◌, ◌-◌, List, ◌++◌, length, take, drop, ap, ◌∙◌, append_assoc}
use Rattle.std.specs.Prelude.{Option, Some, None}
use Rattle.std.specs.Io.KnownBytes.{Appends}
use Rattle.std.proofs.Math.Seq.{take-add}
use Rattle.std.proofs.lemmas.List.{take_rest}

Appends-trans : (first then last : Option (List ℕ)) (some more : List ℕ) → Appends first then some → Appends then last more → Appends first last (some ++ more)
Appends-trans None then last some more early late = tt
Appends-trans (Some xs) None last some more early late = absurd early
Appends-trans (Some xs) (Some ys) None some more early late = absurd late
Appends-trans (Some xs) (Some ys) (Some zs) some more early late = late ∙ ap (λ front. front ++ more) early ∙ append_assoc xs some more

-- the first `count` bytes, and then some of those from there on
pub Appends-more : (first then last : Option (List ℕ)) (bytes : List ℕ) (count more : ℕ) → Appends first then (take count bytes)
    → Appends then last (take more (take (length bytes - count) (drop count bytes))) → Appends first last (take (count + more) bytes)
Appends-more first then last bytes count more early late = rw take-add (Appends-trans first then last _ _ early (rw take_rest at late))
