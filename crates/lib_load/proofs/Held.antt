-- Where files are told, what reading them gives is what they hold, but where it fails.
use Rattle.std.proofs.Common.{◌≡◌, inl, inr, ℕ, ◌+◌, ◌<◌, ◌≤◌, List, [], ◌∷◌, length, subst, ◌∙◌, refl, arith}
use Rattle.std.specs.Prelude.{Option, Some, Result, Ok, Err}
use Rattle.std.specs.FinMap.{get}
use Rattle.std.proofs.lemmas.Bool.{le-leb, lt-leb}
use Rattle.sig_base.specs.FileMap.{FileMap}
use Rattle.sig_base.specs.Reading.{GaveAll, Holds, HoldsMore, Tells}
use Rattle.sig_base.proofs.Given.{gave_all_held, gave_kept, gave_more_held}
use Rattle.elab_rules.specs.Library.{Basis}
use Rattle.lib_load.specs.declared.refusals.LoadRefusal.{LoadRefusal}
use Rattle.lib_load.specs.Given.{AreHeld, GaveThese, GaveThis, Given, Gives, failed, file_limit, given_of, held, long, next, none, text, too_much, unread, whole}
use Rattle.lib_load.specs.Loading as loading
use Rattle.lib_load.specs.Loading.{IsDecided, TakesFile, TakesFiles}

-- what reading gives of bytes of these lengths
pub text_held : (limit : ℕ) (bytes : List ℕ) (file : Option (List ℕ)) → file ≡ Some bytes → length bytes ≤ limit → text bytes ≡ given_of limit file
text_held limit bytes file is short = rw (is, le-leb (length bytes) limit short) refl

pub much_held : (limit : ℕ) (bytes : List ℕ) (file : Option (List ℕ)) → file ≡ Some bytes → limit < length bytes → too_much ≡ given_of limit file
much_held limit bytes file is more = rw (is, lt-leb (length bytes) limit more) refl

module _ {S : Type 0} (limit : ℕ) (files : S → Option FileMap) (gives : Gives S)
    (tells : (before after : S) (path : List ℕ) (place room : ℕ) (bytes : List ℕ) → gives before path place room bytes after → Tells (files before) (files after) path place room bytes) where
  -- the files stay while they are read
  all_kept : (path bytes : List ℕ) (first last : S) → GaveAll gives path first bytes last → files last ≡ files first
  all_kept path bytes first last all =
      (tells all.before last path (length bytes) all.room [] all.ends).kept ∙ gave_kept files gives path first tells bytes all.before all.gave

  this_kept : (path : List ℕ) (first last : S) (given : Given) → GaveThis limit gives path first last given → files last ≡ files first
  this_kept path first last given (long m) =
      (tells m.before last path (length m.bytes) m.room m.piece m.ends).kept ∙ gave_kept files gives path first tells m.bytes m.before m.gave
  this_kept path first last given (whole {bytes = bytes} all short) = all_kept path bytes first last all

  module _ (told : FileMap) where
    this_held : (path : List ℕ) (first last : S) (given : Given) → files first ≡ Some told → GaveThis limit gives path first last given → given ≡ given_of limit (get told path)
    this_held path first last given is (long m) =
        let more = subst (λ o. HoldsMore o path limit) is (gave_more_held files gives path first tells limit last m) in
        much_held limit more.0 (get told path) more.1 more.2
    this_held path first last given is (whole {bytes = bytes} all short) =
        text_held limit bytes (get told path) (subst (λ o. Holds o path bytes) is (gave_all_held files gives path first tells bytes last all)) short

    pub these_held : (faults : S → List ℕ → ℕ) (paths : List (List ℕ)) (first last : S) (givens : List Given) → files first ≡ Some told → GaveThese limit gives faults first paths givens last → AreHeld limit told paths givens
    these_held faults paths first last givens is none = tt
    these_held faults paths first last givens is (failed rose) = (inl refl, tt)
    these_held faults paths first last givens is (next {between = between} {path = path} {paths = others} {given = given} {givens = more} here rest) =
        (inr (this_held path first between given is here), these_held faults others between last more (this_kept path first between given here ∙ is) rest)

-- a file that couldn't be read is refused, and what the files hold doesn't decide that
unread_decides_not : (before : ℕ) (basis : Basis) (given : Given) (outcome : Result Basis LoadRefusal) → given ≡ unread → TakesFile before basis given outcome → IsDecided outcome → ⊥
unread_decides_not before basis given outcome is loading.failed decided = decided
unread_decides_not before basis given outcome is loading.long decided = cc
unread_decides_not before basis given outcome is (loading.whole reads) decided = cc

module _ (told : FileMap) where
  -- what comes of what was read, where the files decide it, comes of what they hold
  pub takes_held : (before : ℕ) (basis : Basis) (count : ℕ) (outcome : Result Basis LoadRefusal) (givens : List Given) (paths : List (List ℕ)) → count ≡ length paths → TakesFiles before basis count outcome givens
      → AreHeld file_limit told paths givens → IsDecided outcome → TakesFiles before basis count outcome (held file_limit told paths)
  takes_held before basis count outcome givens [] is loading.none are decided = loading.none
  takes_held before basis count outcome givens (path ∷ paths) is loading.none are decided = absurd (omega (arith, is))
  takes_held before basis count outcome givens [] is (loading.refused x) are decided = absurd are
  takes_held before basis count outcome givens (path ∷ paths) is (loading.refused {given = given} x) (inl e, are) decided = absurd (unread_decides_not before basis given outcome e x decided)
  takes_held before basis count outcome givens (path ∷ paths) is (loading.refused {r = r} x) (inr e, are) decided = loading.refused (subst (λ given. TakesFile before basis given (Err r)) e x)
  takes_held before basis count outcome givens [] is (loading.accepted x rest) are decided = absurd are
  takes_held before basis count outcome givens (path ∷ paths) is (loading.accepted {after = after} {given = given} x rest) (inl e, are) decided = absurd (unread_decides_not before basis given (Ok after) e x tt)
  takes_held before basis count outcome givens (path ∷ paths) is (loading.accepted {left = left} {after = after} {givens = more} x rest) (inr e, are) decided =
      loading.accepted (subst (λ given. TakesFile before basis given (Ok after)) e x) (takes_held (before + 1) after left outcome more paths (omega (arith, is)) rest are decided)
