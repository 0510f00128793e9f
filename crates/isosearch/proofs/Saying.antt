-- A line that is written piece by piece.
use Rattle.std.proofs.Common.{◌≡◌, ℕ, suc, ◌+◌, ◌<◌, List, [], ◌∷◌, ◌++◌, Bor, length, take, drop, drop-cons, map, get_or, subst, sym, ap, ◌∙◌, arith, append_assoc, append-nil}
use Rattle.std.specs.Prelude.{Option, Some, None}
use Rattle.std.specs.Io.KnownBytes.{Appends}
use Rattle.std.proofs.Math.Seq.{take-append-add}
use Rattle.std.proofs.lemmas.List.{take-append-le, length-append}
use Rattle.std.specs.List.{concat}
use Rattle.sig_base.specs.Writing.{AppendsPart}

pub Appends-trans : (first then last : Option (List ℕ)) (some more : List ℕ) → Appends first then some → Appends then last more → Appends first last (some ++ more)
Appends-trans None then last some more early late = tt
Appends-trans (Some xs) None last some more early late = absurd early
Appends-trans (Some xs) (Some ys) None some more early late = absurd late
Appends-trans (Some xs) (Some ys) (Some zs) some more early late = late ∙ ap (λ front. front ++ more) early ∙ append_assoc xs some more

pub Appends-none : (written : Option (List ℕ)) → Appends written written []
Appends-none None = tt
Appends-none (Some xs) = sym (append-nil xs)

-- of all bytes those in front are written, and the others are left
pub record Said (before now : Option (List ℕ)) (left all : List ℕ) : Type 0 where
  pub front : List ℕ
  pub written : Appends before now front
  pub whole : front ++ left ≡ all

pub said_more : (before now later : Option (List ℕ)) (piece left all : List ℕ) → Said before now (piece ++ left) all → Appends now later piece → Said before later left all
said_more before now later piece left all said more = record {
  front = said.front ++ piece;
  written = Appends-trans before now later said.front piece said.written more;
  whole = append_assoc said.front piece left ∙ said.whole;
}

pub said_part : (before now later : Option (List ℕ)) (piece left all : List ℕ) → Said before now (piece ++ left) all → AppendsPart now later piece → AppendsPart before later all
said_part before now later piece left all said (count, short, part) =
    let cut : take (length said.front + count) all ≡ said.front ++ take count piece =
    ap (take (length said.front + count)) (sym said.whole) ∙ take-append-add said.front (piece ++ left) count
    ∙ ap (λ more. said.front ++ more) (take-append-le count piece left (omega arith)) in
    let longer : length said.front + count < length all =
    omega (arith, ap length said.whole, length-append {A = ℕ} said.front (piece ++ left), length-append {A = ℕ} piece left) in
    (length said.front + count, longer, rw cut (Appends-trans before now later said.front (take count piece) said.written part))

-- the pieces from one place on begin with the one there
pieces_from : (pieces : List (Bor (List ℕ))) (i : ℕ) (d : Bor (List ℕ)) → i < length pieces
    → concat (map (λ piece. piece.now) (drop i pieces)) ≡ (get_or pieces i d).now ++ concat (map (λ piece. piece.now) (drop (i + 1) pieces))
pieces_from pieces i d within =
    let next : suc i ≡ i + 1 = omega arith in
    ap (λ rest. concat (map (λ piece. piece.now) rest)) (drop-cons pieces i d within ∙ ap (λ j. get_or pieces i d ∷ drop j pieces) next)

pub piece_said : (before now later : Option (List ℕ)) (pieces : List (Bor (List ℕ))) (i : ℕ) (d : Bor (List ℕ)) (all : List ℕ) → i < length pieces
    → Said before now (concat (map (λ piece. piece.now) (drop i pieces))) all → Appends now later (get_or pieces i d).now
    → Said before later (concat (map (λ piece. piece.now) (drop (i + 1) pieces))) all
piece_said before now later pieces i d all within said more =
    let S : List ℕ → Type 0 = λ left. Said before now left all in
    said_more before now later (get_or pieces i d).now _ all (subst S (pieces_from pieces i d within) said) more

pub piece_part : (before now later : Option (List ℕ)) (pieces : List (Bor (List ℕ))) (i : ℕ) (d : Bor (List ℕ)) (all : List ℕ) → i < length pieces
    → Said before now (concat (map (λ piece. piece.now) (drop i pieces))) all → AppendsPart now later (get_or pieces i d).now → AppendsPart before later all
piece_part before now later pieces i d all within said part =
    let S : List ℕ → Type 0 = λ left. Said before now left all in
    said_part before now later (get_or pieces i d).now _ all (subst S (pieces_from pieces i d within) said) part
