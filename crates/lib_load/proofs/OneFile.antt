-- What was read of one file.
use Rattle.std.proofs.Common.{ℕ, ◌≤◌, List, [], ◌∷◌, length}
use Rattle.sig_base.specs.Reading.{FailedWithin, GaveAll, GaveMore}
use Rattle.lib_load.specs.Given.{FromGiven, Given, Gives, text, too_much, unread}
use Rattle.lib_load.specs.Given as given

module _ {S : Type 0} (limit : ℕ) (gives : Gives S) (faults : S → List ℕ → ℕ) (path : List ℕ) (first last : S) (holds : List Given → Type 0) where
  pub unread_given : FailedWithin gives faults path first limit last → holds (unread ∷ []) → FromGiven limit gives faults (path ∷ []) first last holds
  unread_given fault follows = record { givens = unread ∷ []; gave = given.failed fault; follows = follows }

  pub many_given : GaveMore gives path first limit last → holds (too_much ∷ []) → FromGiven limit gives faults (path ∷ []) first last holds
  many_given more follows = record { givens = too_much ∷ []; gave = given.next (given.long more) given.none; follows = follows }

  pub text_given : (bytes : List ℕ) → GaveAll gives path first bytes last → length bytes ≤ limit → holds (text bytes ∷ []) → FromGiven limit gives faults (path ∷ []) first last holds
  text_given bytes all short follows = record { givens = text bytes ∷ []; gave = given.next (given.whole all short) given.none; follows = follows }
